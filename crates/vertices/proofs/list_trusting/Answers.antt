-- `list_trusting` meets its contract: written where there is room. Assumes nothing.
use mathlib.Core.Path.{refl}
use native.Mathlib.Omega.{arith}
use Rattle.tree.proofs.Pass.{said, denied}
use Rattle.vertices.proofs.Root.{wrote}
use Rattle.vertices.proofs.list_trusting.Goals as goal

pub returns-then-not-list_has_room : goal.returns-then-not-list_has_room
returns-then-not-list_has_room c =
    (refl, λ r. denied c.list_has_room.result _ c.if-not-list_has_room.true c.list_has_room.ensures (omega (arith, r.vertices, r.levels)), refl)

pub returns : goal.returns
returns c =
    let r = said c.list_has_room.result _ c.if-not-list_has_room.false c.list_has_room.ensures in
    wrote _ _ _ _ _ _ _ c.whole-n.ensures (record { vertices = omega arith; levels = omega arith })
