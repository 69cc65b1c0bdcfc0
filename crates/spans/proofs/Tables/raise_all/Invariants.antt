-- What the loop of `raise_all` keeps.
use Rattle.spans.specs.Tables.{Same}
use Rattle.spans.specs.Steps.{AllRaised}
use Rattle.spans.proofs.Tables.raise_all.Given as goal

abbrev pub invariant-loop-o : goal.invariant-loop-o
invariant-loop-o l = record {
  same : Same l.initial.self l.self;
  raised : AllRaised l.places l.at l.o l.reach l.initial.self.first.now l.initial.self.last.now l.self.first.now l.self.last.now;
}
