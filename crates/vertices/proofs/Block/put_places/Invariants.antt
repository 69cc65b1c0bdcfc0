-- What the loop of `put_places` keeps.
use Prim.Native.Nat.{◌*◌}
use Rattle.vertices.specs.Block.{lowered_place}
use Rattle.vertices.proofs.Places.{Written}
use Rattle.vertices.proofs.Block.put_places.Given as goal

abbrev pub invariant-loop-o : goal.invariant-loop-o
invariant-loop-o l = Written (lowered_place l.fn.self.at l.fn.self.mask l.q) l.o l.initial.places (8 * l.n) l.places
