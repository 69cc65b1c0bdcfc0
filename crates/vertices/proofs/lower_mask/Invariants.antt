-- What the loop of `lower_mask` keeps.
use mathlib.Core.Path.{◌≡◌}
use mathlib.Core.Bool.{true}
use Rattle.vertices.specs.Block.{lowered_mark}
use Rattle.vertices.proofs.Marks.{Filled}
use Rattle.vertices.proofs.lower_mask.Given as goal

abbrev pub invariant-loop-o : goal.invariant-loop-o
invariant-loop-o l = Filled (λ i. lowered_mark l.below l.q i ≡ true) l.o l.out
