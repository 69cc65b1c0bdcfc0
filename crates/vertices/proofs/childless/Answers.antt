-- `childless` meets its contract: what is or-ed to 0 is 0. Assumes nothing.
use borrow.Author.Count.{below_more}
use Rattle.vertices.proofs.Places.{or_none}
use Rattle.vertices.proofs.childless.Goals as goal

pub loop-w-preserved : goal.loop-w-preserved
loop-w-preserved c = λ e. let n = or_none c.loop-w.any _ e in below_more _ _ (c.loop-w.invariant n.0) n.1
