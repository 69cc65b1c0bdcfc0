-- What the loop of `differ` keeps.
use Rattle.lifetimes.specs.Steps.{Differs}
use Rattle.lifetimes.proofs.differ.Given as goal

abbrev pub invariant-loop-i : goal.invariant-loop-i
invariant-loop-i l = Differs l.first l.last l.i l.initial.needed l.needed
