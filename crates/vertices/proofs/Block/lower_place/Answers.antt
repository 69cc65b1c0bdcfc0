-- `lower_place` meets its contract. Assumes nothing.
use mathlib.Core.Path.{sym, ◌∙◌}
use Rattle.vertices.proofs.Blocks.{lowered_is}
use Rattle.vertices.proofs.Block.lower_place.Goals as goal

pub returns-then-marked : goal.returns-then-marked
returns-then-marked c = sym (lowered_is _ _ _ _ (sym c.marked.ensures ∙ c.if-marked.true))

pub returns : goal.returns
returns c = sym (lowered_is _ _ _ _ (sym c.marked.ensures ∙ c.if-marked.false))
