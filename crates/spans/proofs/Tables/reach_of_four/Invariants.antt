-- What the loop of `reach_of_four` keeps.
use Rattle.spans.specs.Steps.{own}
use Rattle.spans.proofs.Yet.{Reaching}
use Rattle.spans.proofs.Tables.reach_of_four.Given as goal

abbrev pub invariant-loop-o : goal.invariant-loop-o
invariant-loop-o l = Reaching (own l.self.many l.self.last.now) l.places l.from l.o l.low l.high
