-- What the loop of `widen` keeps.
use Prim.Native.Nat.{◌*◌}
use lib.ListN.{take}
use Rattle.spans.specs.Tables.{Same}
use Rattle.spans.specs.Steps.{Widens}
use Rattle.spans.proofs.Tables.widen.Given as goal

abbrev pub invariant-loop-at : goal.invariant-loop-at
invariant-loop-at l = record {
  same : Same l.initial.self l.self;
  widens : Widens l.initial.self.many (take (8 * l.at) l.places) l.initial.self.first.now l.initial.self.last.now l.self.first.now l.self.last.now;
}
