-- `go_over` meets its contract: batch after batch, until one isn't full. Assumes nothing.
use Prim.Native.Nat.{◌*◌, ◌≤◌}
use mathlib.Core.Path.{◌≡◌, refl, sym, ◌∙◌}
use native.Mathlib.Omega.{arith}
use lib.ListN.{length, length-take}
use lib.Seq.{length-take-le}
use Rattle.spans.proofs.Going.{going_none, at_most, batch_inside, next_fits, fewer, going_more, going_all}
use Rattle.spans.proofs.Spanning.{Told, widens_none, widens_then}
use Rattle.spans.proofs.Lent.{lent, still}
use Rattle.spans.proofs.Tables.go_over.Goals as goal
use Rattle.spans.proofs.Tables.go_over.Goals.{After-cells_trusting-came}

pub loop-vertices-init : goal.loop-vertices-init
loop-vertices-init c = record { same = lent _; sized = (refl, refl, refl); going = going_none _ _ (widens_none _ _ _ c.requires.ready) }

places_long : (c : After-cells_trusting-came) → length c.cells_trusting-came.new.places ≡ 1024
places_long c = c.cells_trusting-came.auto.places ∙ c.loop-vertices.invariant.sized.2

few : (c : After-cells_trusting-came) → c.cells_trusting-came.result ≤ 128
few c = let k = c.loop-vertices.invariant in at_most k.going 128 _ _ k.sized c.cells_trusting-came.ensures

pub overflow_mul-places : goal.overflow_mul-places
overflow_mul-places c = record { fits = omega (arith, few (goal.at.overflow_mul-places c).After-cells_trusting-came) }

pub slice_bounds-places-end : goal.slice_bounds-places-end
slice_bounds-places-end c =
    let w = (goal.at.slice_bounds-places-end c).After-cells_trusting-came in omega (arith, few w, places_long w)

pub slice_bounds-widen-end : goal.slice_bounds-widen-end
slice_bounds-widen-end c =
    let w = (goal.at.slice_bounds-widen-end c).After-cells_trusting-came in sym (length-take-le _ _ (omega (arith, few w, places_long w)))

pub widen-requires-clause-whole_cells : goal.widen-requires-clause-whole_cells
widen-requires-clause-whole_cells c =
    let k = c.loop-vertices.invariant in
    let w = (goal.at.widen-requires-clause-whole_cells c).After-cells_trusting-came in (
      omega (arith, few w, places_long w, length-take (8 * c.cells_trusting-came.result) c.cells_trusting-came.new.places),
      rw k.same.many (batch_inside k.going 128 _ _ k.sized c.cells_trusting-came.ensures _ c.have_16_bits.ensures c.requires.many_value),
    )

pub returns-then-came-lt-BATCH-clause-widens : goal.returns-then-came-lt-BATCH-clause-widens
returns-then-came-lt-BATCH-clause-widens c =
    let k = c.loop-vertices.invariant in
    let widens = rw k.same.many at c.widen.ensures.widens in
    going_all k.going 128 _ _ k.sized c.cells_trusting-came.ensures (Told _ _ _ _ _) (widens_then _ _ _ _ _ _ _ _ widens) c.if-came-lt-BATCH.true

pub overflow_add-from : goal.overflow_add-from
overflow_add-from c =
    let k = c.loop-vertices.invariant in
    record { fits = next_fits k.going 128 _ _ k.sized c.cells_trusting-came.ensures (omega arith) c.if-came-lt-BATCH.false }

pub loop-vertices-smaller : goal.loop-vertices-smaller
loop-vertices-smaller c =
    let k = c.loop-vertices.invariant in fewer k.going 128 _ _ k.sized c.cells_trusting-came.ensures (omega arith) c.if-came-lt-BATCH.false

pub loop-vertices-preserved : goal.loop-vertices-preserved
loop-vertices-preserved c =
    let k = c.loop-vertices.invariant in
    let w = c.cells_trusting-came in
    let widens = rw k.same.many at c.widen.ensures.widens in
    record {
      same = still k.same c.widen.ensures.same;
      sized = (w.auto.vertices ∙ k.sized.0, w.auto.levels ∙ k.sized.1, w.auto.places ∙ k.sized.2);
      going = going_more k.going 128 _ _ k.sized w.ensures (Told _ _ _ _ _) (widens_then _ _ _ _ _ _ _ _ widens) (omega arith) c.if-came-lt-BATCH.false;
    }
