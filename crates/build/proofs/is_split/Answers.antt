-- `is_split` meets its contract: no cell is deeper than the split test asks. Assumes nothing.
use Rattle.build.proofs.Laws.{split_is}
use Rattle.build.specs.Build.{split_of}
use Rattle.build.proofs.is_split.Goals as goal

pub returns : goal.returns
unfolding split_of
returns c = split_is _ _ _ _ _ c.level-level.ensures c.should_refine.ensures
