-- `reach_of` meets its contract: a turn of the loop takes one node more. Assumes nothing.
use Rattle.slabs.proofs.Outermost.{both_more}
use Rattle.slabs.proofs.reach_of.Goals as goal

pub loop-i-preserved : goal.loop-i-preserved
loop-i-preserved c = both_more _ _ c.loop-i.i _ _ _ _ _ c.loop-i.invariant c.slab_of-slab.ensures c.min-first.ensures c.max-last.ensures
