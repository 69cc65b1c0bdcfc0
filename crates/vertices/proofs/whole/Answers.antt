-- `whole` meets its contract: there is no tree of so many vertices. Assumes nothing.
use Rattle.std.proofs.Common.{rules}
use Rattle.vertices.proofs.Linear.{vertices_few}
use Rattle.vertices.proofs.Storing.{all_laid}
use Rattle.vertices.proofs.whole.Goals as goal

pub returns : goal.returns
returns c = all_laid _ _ _ _ _ _ _ (search rules) (search rules) (vertices_few _ (search rules)) c.from_root.ensures.stored
