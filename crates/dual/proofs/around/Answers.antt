-- `around` meets its contract: a turn of the first loop finds one way, or skips a side that shares one; a turn of the second fills one entry. Assumes
-- nothing.
use mathlib.Core.Path.{refl}
use native.Mathlib.Omega.{arith}
use Rattle.dual.proofs.Sharing.{told_more, way_ready, way_entry}
use Rattle.dual.proofs.Filling.{filled_none, filled_more}
use Rattle.dual.proofs.around.Goals as goal

pub loop-above-preserved : goal.loop-above-preserved
loop-above-preserved c = told_more _ _ _ _ _ c.loop-above.invariant _ _ c.sub-side.ensures c.go_down.ensures

pub loop-i-init : goal.loop-i-init
loop-i-init c = (omega arith, filled_none _ _ _ _ _ _ refl refl refl)

pub entry_for-e-requires : goal.entry_for-e-requires
entry_for-e-requires c =
    let p = c.requires in
    way_ready _ _ p.0 p.1 p.2 _ _ _ c.loop-above-test.false c.loop-above.invariant c.loop-i.i (omega arith) _ c.sub-side-in-loop-i.ensures (omega arith)

pub loop-i-preserved : goal.loop-i-preserved
loop-i-preserved c =
    let p = c.requires in (
      omega (arith, c.entry_for-e.ensures.1),
      filled_more _ _ _ c.loop-i.i _ _ _ _ _ _ _ _ (omega arith) c.loop-i.invariant.1
          (way_entry _ _ p.0 p.1 p.2 _ _ _ c.loop-above-test.false c.loop-above.invariant c.loop-i.i (omega arith) _ c.sub-side-in-loop-i.ensures _ _ _ _ _ c.entry_for-e.ensures.0),
    )
