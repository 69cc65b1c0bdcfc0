-- `list` meets its contract: refused if the tree is not sound, else the list of one who trusts. Assumes nothing.
use Rattle.tree.proofs.Pass.{said}
use Rattle.vertices.proofs.Law.{trusting_list}
use Rattle.vertices.proofs.list.Goals as goal

pub returns : goal.returns
returns c = trusting_list _ (said c.sound.result _ c.if-not-sound.false c.sound.ensures) _ _ _ c.list_trusting.result c.list_trusting.ensures
