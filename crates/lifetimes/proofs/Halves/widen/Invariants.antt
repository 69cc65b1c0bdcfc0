-- What the loop of `widen` keeps.
use Rattle.std.proofs.Common.{◌*◌, take}
use Rattle.lifetimes.specs.Steps.{SameHalves, WidensHalves}
use Rattle.lifetimes.proofs.Halves.widen.Given as goal

abbrev pub invariant-loop-at : goal.invariant-loop-at
invariant-loop-at l = record { same : SameHalves l.initial.self l.self; widens : WidensHalves (take (8 * l.at) l.places) l.initial.self l.self }
