-- What the loop of `sum_up` keeps.
use Rattle.lifetimes.proofs.Counting.{Summed}
use Rattle.lifetimes.proofs.sum_up.Given as goal

abbrev pub invariant-loop-number : goal.invariant-loop-number
invariant-loop-number l = Summed l.first l.last l.initial.needed l.needed l.here l.number-index
