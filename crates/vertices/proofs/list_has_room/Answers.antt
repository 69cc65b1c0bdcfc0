-- `list_has_room` meets its contract: where there is room for the most that there can be, or else for what was counted. Assumes nothing.
use native.Mathlib.Omega.{arith}
use Rattle.tree.specs.Down.{the_nodes}
use Rattle.tree.proofs.Pass.{said}
use Rattle.vertices.proofs.Linear.{vertices_linear}
use Rattle.vertices.proofs.list_has_room.Goals as goal

pub returns-then-has_room : goal.returns-then-has_room
returns-then-has_room c =
    omega (arith, said _ _ c.if-has_room.true c.has_room.ensures, vertices_linear (the_nodes c.args.nodes.now))
