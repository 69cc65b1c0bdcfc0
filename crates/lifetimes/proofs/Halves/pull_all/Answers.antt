-- `pull_all` meets its contract: a turn of the loop pulls one leaf more. Assumes nothing.
use Rattle.lifetimes.proofs.Same.{same_then}
use Rattle.lifetimes.proofs.Edges.{widened_more}
use Rattle.lifetimes.proofs.Halves.pull_all.Goals as goal

pub loop-number-preserved : goal.loop-number-preserved
loop-number-preserved c =
    let k = c.loop-number in
    record {
      same = same_then k.invariant.same c.pull.ensures.same;
      widened = widened_more _ _ _ _ _ k.number-index _ _ _ _ k.invariant.widened c.pull.ensures.pulled;
    }
