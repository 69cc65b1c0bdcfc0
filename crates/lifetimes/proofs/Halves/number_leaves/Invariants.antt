-- What the loop of `number_leaves` keeps.
use Rattle.lifetimes.specs.Steps.{SameHalves}
use Rattle.lifetimes.proofs.Numbers.{NumberedTo}
use Rattle.lifetimes.proofs.Halves.number_leaves.Given as goal

abbrev pub invariant-loop-place : goal.invariant-loop-place
invariant-loop-place l = record {
  same : SameHalves l.initial.self l.self;
  numbered : NumberedTo l.nodes.firsts.now l.nodes.keys.now l.initial.self.many l.exponent l.place l.number l.self.first.now l.self.last.now;
}
