-- `refusal_of` meets its contract: what the calls gave is what the definition says. Assumes nothing.
use native.Mathlib.Omega.{arith}
use Rattle.build.specs.Build.{node_room, finest, refusal_of}
use Rattle.build.proofs.Tables.refusal_of.Goals as goal

pub refusal_at-requires : goal.refusal_at-requires
unfolding node_room
refusal_at-requires c = omega arith

pub returns : goal.returns
unfolding refusal_of finest
returns c = rw (c.node_room-room.ensures, c.lengths-z.ensures, c.item_at-next.ensures, c.max-top.ensures) at c.refusal_at.ensures
