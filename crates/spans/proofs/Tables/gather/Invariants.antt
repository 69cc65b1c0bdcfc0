-- What the loop of `gather` keeps.
use mathlib.Core.Path.{◌≡◌}
use mathlib.Core.List.{◌++◌}
use Rattle.spans.specs.Tables.{Same}
use Rattle.spans.proofs.Gathering.{GatheredTo}
use Rattle.spans.proofs.Tables.gather.Given as goal

abbrev pub invariant-loop-place : goal.invariant-loop-place
invariant-loop-place l = record {
  same : Same l.initial.self l.self;
  last : l.self.last.now ≡ l.initial.self.last.now;
  gathered : GatheredTo l.nodes.firsts.now l.initial.self.many (l.initial.self.first.now ++ l.initial.self.last.now) l.self.last.now l.self.first.now
      l.number l.place;
}
