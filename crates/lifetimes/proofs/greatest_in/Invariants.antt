-- What the loop of `greatest_in` keeps.
use Rattle.std.proofs.Common.{◌≡◌}
use Rattle.lifetimes.specs.Steps.{most_in}
use Rattle.lifetimes.proofs.greatest_in.Given as goal

abbrev pub invariant-loop-number : goal.invariant-loop-number
invariant-loop-number l = l.top ≡ most_in l.table l.number-index
