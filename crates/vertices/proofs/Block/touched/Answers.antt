-- `touched` meets its contract, by the rule of its table. Assumes nothing.
use Rattle.vertices.proofs.Glance.{touched_is}
use Rattle.vertices.proofs.Block.touched.Goals as goal

pub returns-then-self-q-eq0 : goal.returns-then-self-q-eq0
returns-then-self-q-eq0 c = touched_is _ _ _ c.requires.0 c.kept_by.ensures _ c.requires.1 c.if-self-q-eq0.true
