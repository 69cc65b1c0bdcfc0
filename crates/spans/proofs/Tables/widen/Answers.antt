-- `widen` meets its contract: a turn of the loop takes one cell more. Assumes nothing.
use Prim.Native.Nat.{◌+◌, ◌*◌, ◌≤◌}
use mathlib.Core.Path.{◌≡◌}
use native.Mathlib.Omega.{arith}
use lib.ListN.{length, take}
use lib.Seq.{take_all}
use Rattle.spans.proofs.Lent.{still}
use Rattle.spans.proofs.Spanning.{cell_widens, widens_more}
use Rattle.spans.proofs.Tables.widen.Goals as goal

pub loop-at-preserved : goal.loop-at-preserved
loop-at-preserved c =
    let k = c.loop-at in
    let i = k.invariant in
    let room : 8 * k.at + 8 ≤ length c.args.places.now = omega (arith, c.loop-at-test.true) in
    let reach = rw i.same.many at c.reach_of_cell-reach.ensures in
    record {
      same = still i.same c.raise_all.ensures.same;
      widens = widens_more _ k.at _ _ _ _ _ _ _ room i.widens
          (cell_widens _ _ k.at _ _ _ _ _ i.widens.ready c.requires.whole_cells.1 room reach c.raise_all.ensures.raised);
    }

pub returns-clause-widens : goal.returns-clause-widens
returns-clause-widens c =
    let k = c.loop-at in
    let whole : take (8 * k.at) c.args.places.now ≡ c.args.places.now =
    take_all _ _ (omega (arith, c.requires.whole_cells.0, c.loop-at-test.false)) in
    rw whole at k.invariant.widens
