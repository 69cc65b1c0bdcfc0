-- `lifetimes` meets its contract: a tree that is sound can be trusted. Assumes nothing.
use Rattle.tree.proofs.Pass.{said}
use Rattle.lifetimes.proofs.Joining.{trusting_lifetimes}
use Rattle.lifetimes.proofs.lifetimes.Goals as goal

pub returns : goal.returns
returns c =
    let a = c.sound in
    trusting_lifetimes _ (said a.result _ c.if-not-sound.false a.ensures) c.have_16_bits.ensures _ _ _
    c.lifetimes_trusting.result c.lifetimes_trusting.ensures
