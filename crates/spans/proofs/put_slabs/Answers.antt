-- `put_slabs` meets its contract: a turn of the loop takes four siblings. Assumes nothing.
use native.Mathlib.Omega.{arith}
use Rattle.tree.specs.Down.{the_nodes}
use Rattle.spans.proofs.Slabbing.{slabs_root, slabs_no_root, slabs_more, slabs_put}
use Rattle.spans.proofs.put_slabs.Goals as goal
use Rattle.spans.proofs.put_slabs.Goals.{then-many-gt0, else-many-gt0}

pub loop-place-init : goal.loop-place-init
loop-place-init c =
    elim c.if-many-gt0.branch [
      | then-many-gt0 w ↦
          rw w.last-is
          (slabs_root (the_nodes c.args.nodes.now) _ _ _ _ c.requires.2 w.if-many-gt0.true c.requires.1 w.slab_at.ensures)
      | else-many-gt0 w ↦ rw w.last-is (slabs_no_root _ _ _ _ w.if-many-gt0.false)
    ]

pub loop-place-preserved : goal.loop-place-preserved
loop-place-preserved c =
    let k = c.loop-place in
    slabs_more k.invariant k.auto.place c.requires.2 c.loop-place-test.true c.requires.1 c.slab_at-in-loop-place.ensures

pub returns-after-many-gt0 : goal.returns-after-many-gt0
returns-after-many-gt0 c = slabs_put _ _ _ _ _ _ c.loop-place-test.false c.loop-place.invariant

-- after the last turn
pub returns-after-many-gt0-2 : goal.returns-after-many-gt0-2
returns-after-many-gt0-2 c =
    let k = c.loop-place in
    slabs_put _ _ _ _ _ _ (omega arith)
    (slabs_more k.invariant k.auto.place c.requires.2 c.loop-place-test.true c.requires.1 c.slab_at-in-loop-place.ensures)
