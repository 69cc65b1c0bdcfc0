-- `node_room` meets its contract. Assumes nothing.
use Rattle.build.specs.Build.{node_room}
use borrow.Author.Rules.{rules}
use Rattle.build.proofs.node_room.Goals as goal

pub returns : goal.returns
unfolding node_room
returns c = search rules
