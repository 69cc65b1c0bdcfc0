-- `cells_trusting` meets its contract: up to so many as all three tables have room for. Assumes nothing.
use Rattle.std.proofs.Common.{rules}
use Rattle.vertices.proofs.Storing.{room_is, cells_says}
use Rattle.vertices.proofs.cells_trusting.Goals as goal

pub returns : goal.returns
returns c =
    let t = c.args in
    cells_says _ _ _ _ (room_is t.vertices.now t.levels.now t.places.now _ _ c.min-pairs.ensures c.min.ensures) _ _ _ (search rules) (search rules)
    (search rules) c.from_root.ensures.stored
