-- `go_over` meets its contract: batch after batch, until one isn't full. Assumes nothing.
use Rattle.std.proofs.Common.{rules, refl, ◌∙◌, arith}
use Rattle.lifetimes.proofs.Same.{same_then}
use Rattle.spans.proofs.Going.{going_none, going_all, at_most, next_fits, fewer, going_more}
use Rattle.lifetimes.proofs.Spanning.{Told, widens_none, widens_then}
use Rattle.lifetimes.proofs.Halves.go_over.Goals as goal

pub loop-nodes-init : goal.loop-nodes-init
loop-nodes-init c =
    record { sized = (refl, refl, refl); same = search rules; going = going_none _ _ (widens_none _ _ _ _ c.requires) }

pub widen-requires-clause-cells_in_bounds : goal.widen-requires-clause-cells_in_bounds
widen-requires-clause-cells_in_bounds c =
    let k = c.loop-nodes.invariant in
    omega (arith, at_most k.going 64 _ _ k.sized c.cells_trusting-came.ensures, k.sized.2)

pub returns-then-came-lt64 : goal.returns-then-came-lt64
returns-then-came-lt64 c =
    let k = c.loop-nodes.invariant in
    let widens = rw (k.same.nodes, k.same.many) at c.widen.ensures.widens in
    record {
      same = same_then k.same c.widen.ensures.same;
      widens = going_all k.going 64 _ _ k.sized c.cells_trusting-came.ensures (Told _ _ _ _ _ _) (widens_then _ _ _ _ _ _ _ _ _ widens) c.if-came-lt64.true;
    }

pub overflow_add-from : goal.overflow_add-from
overflow_add-from c =
    let k = c.loop-nodes.invariant in
    record { fits = next_fits k.going 64 _ _ k.sized c.cells_trusting-came.ensures (omega arith) c.if-came-lt64.false }

pub loop-nodes-smaller : goal.loop-nodes-smaller
loop-nodes-smaller c =
    let k = c.loop-nodes.invariant in fewer k.going 64 _ _ k.sized c.cells_trusting-came.ensures (omega arith) c.if-came-lt64.false

pub loop-nodes-preserved : goal.loop-nodes-preserved
loop-nodes-preserved c =
    let k = c.loop-nodes.invariant in
    let w = c.cells_trusting-came in
    let widens = rw (k.same.nodes, k.same.many) at c.widen.ensures.widens in
    record {
      sized = (w.auto.vertices ∙ k.sized.0, w.auto.levels ∙ k.sized.1, w.auto.places ∙ k.sized.2);
      same = same_then k.same c.widen.ensures.same;
      going = going_more k.going 64 _ _ k.sized w.ensures (Told _ _ _ _ _ _) (widens_then _ _ _ _ _ _ _ _ _ widens) (omega arith) c.if-came-lt64.false;
    }
