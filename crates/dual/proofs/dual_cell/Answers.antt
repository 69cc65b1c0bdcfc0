-- `dual_cell` meets its contract. Assumes nothing.
use Rattle.tree.proofs.Pass.{said}
use Rattle.dual.proofs.Filling.{trusting_dual}
use Rattle.dual.proofs.dual_cell.Goals as goal

pub returns : goal.returns
returns c =
    let r = c.dual_cell_trusting.result in
    trusting_dual _ (said c.sound.result _ c.if-not-sound.false c.sound.ensures) _ _ c.ranges.vertex.fits r.keys r.distances r.places r.tried c.dual_cell_trusting.ensures
