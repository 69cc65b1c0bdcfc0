-- `raise_all` meets its contract: a turn of the loop takes one node more. Assumes nothing.
use Rattle.spans.proofs.Entries.{raised_more}
use Rattle.spans.proofs.Lent.{still}
use Rattle.spans.proofs.Tables.raise_all.Goals as goal

pub loop-o-preserved : goal.loop-o-preserved
loop-o-preserved c =
    let k = c.loop-o.invariant in
    record { same = still k.same c.raise.ensures.same; raised = raised_more _ _ _ _ _ _ _ _ k.raised _ _ c.raise.ensures.raised }
