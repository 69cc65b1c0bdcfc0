-- `slabs` meets its contract: a tree that is sound can be trusted. Assumes nothing.
use Rattle.tree.proofs.Pass.{said, denied}
use Rattle.slabs.proofs.Answering.{slabs_unsound, trusting_slabs}
use Rattle.slabs.proofs.slabs.Goals as goal

pub returns-then-not-sound : goal.returns-then-not-sound
returns-then-not-sound c = let a = c.sound in slabs_unsound _ _ _ _ (denied a.result _ c.if-not-sound.true a.ensures)

pub returns : goal.returns
returns c =
    let a = c.sound in
    trusting_slabs _ (said a.result _ c.if-not-sound.false a.ensures) _ _ _
    c.ranges.vertex.fits c.slabs_trusting.result c.slabs_trusting.ensures
