-- `widen` meets its contract: a turn of the loop goes over one cell more. Assumes nothing.
use Rattle.std.proofs.Common.{arith}
use Rattle.lifetimes.proofs.Same.{same_then}
use Rattle.lifetimes.proofs.Spanning.{widens_more, cell_widens}
use Rattle.lifetimes.proofs.Halves.widen.Goals as goal

pub loop-at-preserved : goal.loop-at-preserved
loop-at-preserved c =
    let k = c.loop-at in
    let fits = c.requires.cells_in_bounds in
    let m = rw (k.invariant.same.nodes, k.invariant.same.many) at c.leaves_of_cell-cell.ensures in
    record {
      same = same_then k.invariant.same c.pull_all.ensures.same;
      widens =
          widens_more _ _ k.at _ _ _ _ _ _ _ (omega arith) k.invariant.widens
          (cell_widens _ _ _ k.at _ _ c.leaves_of_cell-cell.result.numbers _ _ _ _ (omega arith) k.invariant.widens.ready m c.pull_all.ensures.widened);
    }
