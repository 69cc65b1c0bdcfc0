-- What the loop of `leaves_of_cell` keeps.
use Rattle.lifetimes.specs.Steps.{MeetingSays}
use Rattle.lifetimes.proofs.Halves.leaves_of_cell.Given as goal

abbrev pub invariant-loop-o : goal.invariant-loop-o
invariant-loop-o l = MeetingSays l.self.nodes.firsts.now l.self.many l.self.first.now l.places l.at l.o l.numbers l.low l.high
