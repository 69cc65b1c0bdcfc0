-- `seen` meets its contract, by the rule of its table. Assumes nothing.
use Rattle.vertices.proofs.Glance.{seen_says}
use Rattle.vertices.proofs.seen.Goals as goal

pub returns : goal.returns
returns c = seen_says _ _ _ c.requires c.seen_by.ensures
