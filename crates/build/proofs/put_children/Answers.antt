-- `put_children` meets its contract: after i rounds the first i children are stored. Assumes nothing.
use Rattle.build.proofs.Ring.{putting_start, putting_more}
use Rattle.build.proofs.put_children.Goals as goal

pub loop-i-init : goal.loop-i-init
loop-i-init c = putting_start _ _ _ _ c.place-at.ensures

pub loop-i-preserved : goal.loop-i-preserved
loop-i-preserved c = putting_more _ _ _ _ _ _ _ c.loop-i.invariant c.after-at.ensures
