-- `look_up` meets its contract. Assumes nothing.
use mathlib.Core.Path.{sym, subst}
use Rattle.tree.specs.Climb.{LookupSays}
use Rattle.tree.proofs.Pass.{said}
use Rattle.tree.proofs.Finding.{trusting_lookup}
use Rattle.tree.proofs.Tree.look_up.Goals as goal

pub returns : goal.returns
returns c =
    subst (LookupSays _ _) (sym c.look_up_trusting.ensures) (trusting_lookup _ (said _ _ c.if-not-sound.false c.sound.ensures) _)
