-- `put_places` meets its contract: a turn writes the place of one entry. Assumes nothing.
use Prim.Native.Nat.{◌*◌}
use native.Mathlib.Omega.{arith}
use Rattle.vertices.specs.Block.{lowered_place}
use Rattle.vertices.proofs.Places.{written_none, written_more, written_all}
use Rattle.vertices.proofs.Block.put_places.Goals as goal

pub loop-o-init : goal.loop-o-init
loop-o-init c = written_none _ _ _

pub loop-o-preserved : goal.loop-o-preserved
loop-o-preserved c =
    let s = c.args in
    written_more (lowered_place s.self.now.at s.self.now.mask s.q) c.loop-o.o (8 * s.n) _ _ _ c.lower_place.ensures c.loop-o.invariant

pub returns : goal.returns
returns c = written_all _ c.loop-o.o _ _ _ (omega arith) c.loop-o.invariant
