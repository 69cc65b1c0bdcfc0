-- What the loop of `drive` keeps: the bytes that are left lead from the answer so far to where all of them lead.
use Rattle.std.proofs.Common.{drop, Ok}
use Rattle.build.specs.Build.{tables_in}
use Rattle.counting.proofs.Bytes.{Going}
use Rattle.counting.proofs.drive.Given as goal

abbrev pub invariant-loop-four : goal.invariant-loop-four
invariant-loop-four l = Going l.fn.bound l.fn.bytes (tables_in l.initial.tables) (drop l.four-index l.fours) (Ok l.answer) (tables_in l.tables)
