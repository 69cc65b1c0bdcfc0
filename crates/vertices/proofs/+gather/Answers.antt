-- `gather` meets its contract: child by child, where the walk ends by what the parent's block shows, else by itself, past what is not wanted. Assumes
-- nothing.
use mathlib.Core.Path.{refl, ◌∙◌}
use native.Mathlib.Omega.{arith}
use Rattle.morton.specs.Level.{limit}
use Rattle.morton.proofs.Levels.{cell_lt}
use Rattle.tree.proofs.Pass.{said, denied}
use Rattle.vertices.proofs.Blocks.{here_small, step_on, child_still, child_divided, meets_is, place_is, lowered_near}
use Rattle.vertices.proofs.Storing.{same_all, partly_none, partly_step, partly_all, grown_skipped, grown_none, grown_taken, grown_deep, grown_on, unskipped}
use Rattle.vertices.proofs.+gather.Goals as goal
use Rattle.vertices.proofs.+gather.Goals.{then-mask-eq0+then-touched, then-mask-eq0+else-touched, else-mask-eq0+then-from-lt-LIMIT, else-mask-eq0+else-from-lt-LIMIT}

pub split_below-below-requires : goal.split_below-below-requires
split_below-below-requires t c = let b = c.args.block.now.cube in here_small _ _ _ _ _ _ c.requires.here b.shallow b.key

pub loop-q-init : goal.loop-q-init
loop-q-init t c = (same_all _, c.requires.n_le_room.0, partly_none _ _ _ _ _ _ _)

pub overflow_mul-child : goal.overflow_mul-child
overflow_mul-child t c = record { fits = omega (arith, cell_lt _ limit _ c.args.block.now.cube.key c.args.block.now.cube.shallow) }

pub overflow_add-child-in-loop-q : goal.overflow_add-child-in-loop-q
overflow_add-child-in-loop-q t c = record { fits = omega (arith, cell_lt _ limit _ c.args.block.now.cube.key c.args.block.now.cube.shallow) }

pub loop-q-preserved-then-skipped : goal.loop-q-preserved-then-skipped
loop-q-preserved-then-skipped t c =
    let l = c.loop-q in
    partly_step _ _ _ _ _ l.q _ _ _ _ _ _ l.invariant (same_all _)
    (grown_skipped _ _ _ _ _ l.q _ _ c.requires.n_le_room.1 (said _ _ c.if-skipped.true c.skipped.ensures))

pub take-m-requires : goal.take-m-requires
take-m-requires t c =
    (omega arith, omega (arith, unskipped _ _ _ _ _ (denied c.skipped.result _ c.if-skipped.false c.skipped.ensures)))

pub invariant_of-lowered : goal.invariant_of-lowered
invariant_of-lowered t c =
    record { near = lowered_near _ _ _ _ _ _ c.requires.here c.loop-q.q (omega arith) c.requires.n_le_room.2 _ _ c.lower_at.ensures }

pub gather-m-requires : goal.gather-m-requires
gather-m-requires t c =
    let l = c.loop-q in
    let b = c.args.block.now.cube in
    let on = step_on _ _ _ _ _ _ c.requires.here b.shallow b.key l.q (omega arith) _ c.split_below-below.ensures _
    c.lower_mask-mask.ensures c.if-mask-eq0.false _ c.lower_at.ensures in
    (omega (arith, c.requires.n_le_room.1), (on.0, (on.1, (l.invariant.1, omega (arith, c.if-from-lt-LIMIT.true), c.requires.n_le_room.2))))

pub loop-q-preserved : goal.loop-q-preserved
loop-q-preserved t c =
    let l = c.loop-q in
    let h = c.requires.here in
    let b = c.args.block.now.cube in
    elim c.if-mask-eq0.branch [
      | then-mask-eq0+then-touched w ↦
          rw (w.m-is, w.out-is)
          (partly_step _ _ _ _ _ l.q _ _ _ _ _ _ l.invariant w.take-m.ensures.same
          (grown_taken _ _ _ _ _ l.q
          (child_still _ _ _ _ _ _ h l.q (omega arith) b.shallow b.key _ c.split_below-below.ensures _ c.lower_mask-mask.ensures w.if-mask-eq0.true)
          (meets_is _ _ _ _ _ _ h l.q (omega arith) _ w.touched.ensures ∙ w.if-touched.true) _ _ _ _ _ _ _ (place_is _ _ _ _ _ _ h l.q (omega arith))
          refl (unskipped _ _ _ _ _ (denied c.skipped.result _ c.if-skipped.false c.skipped.ensures)) w.take-m.ensures.took))
      | then-mask-eq0+else-touched w ↦
          rw (w.m-is, w.out-is)
          (partly_step _ _ _ _ _ l.q _ _ _ _ _ _ l.invariant (same_all _)
          (grown_none _ _ _ _ _ l.q
          (child_still _ _ _ _ _ _ h l.q (omega arith) b.shallow b.key _ c.split_below-below.ensures _ c.lower_mask-mask.ensures w.if-mask-eq0.true)
          (meets_is _ _ _ _ _ _ h l.q (omega arith) _ w.touched.ensures ∙ w.if-touched.false) _ _))
      | else-mask-eq0+then-from-lt-LIMIT w ↦
          rw (w.m-is, w.out-is)
          (partly_step _ _ _ _ _ l.q _ _ _ _ _ _ l.invariant w.gather-m.ensures.same (grown_on _ _ _ _ _ l.q _ _ _ _ w.gather-m.ensures.stored))
      | else-mask-eq0+else-from-lt-LIMIT w ↦
          rw (w.m-is, w.out-is)
          (partly_step _ _ _ _ _ l.q _ _ _ _ _ _ l.invariant (same_all _)
          (grown_deep _ _ _ _ _ l.q _ _ (omega (arith, w.if-from-lt-LIMIT.false))
          (child_divided _ _ _ _ _ _ h l.q (omega arith) b.shallow b.key _ c.split_below-below.ensures _ c.lower_mask-mask.ensures w.if-mask-eq0.false)))
    ]

pub returns-clause-stored : goal.returns-clause-stored
returns-clause-stored t c = partly_all _ _ _ _ _ c.loop-q.q _ _ _ _ (omega arith) c.requires.n_le_room.1 c.requires.cell_value c.loop-q.invariant.2
