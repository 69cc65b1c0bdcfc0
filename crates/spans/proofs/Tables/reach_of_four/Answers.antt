-- `reach_of_four` meets its contract: a turn of the loop takes one node more. Assumes nothing.
use Prim.Native.Nat.{◌+◌}
use mathlib.Core.Path.{refl}
use native.Mathlib.Omega.{arith}
use Rattle.spans.proofs.Yet.{reaching_none, reaching_more, reaching_all}
use Rattle.spans.proofs.Tables.reach_of_four.Goals as goal

pub loop-o-init : goal.loop-o-init
loop-o-init c = reaching_none _ _ _

pub loop-o-preserved : goal.loop-o-preserved
loop-o-preserved c =
    let k = c.loop-o in
    let inside = c.requires.last_len.2 (c.args.from + k.o) (omega (arith, c.requires.last_len.1)) in
    reaching_more _ _ _ _ _ _ _ _ _ refl (c.requires.small_slabs _ inside) c.min-low.ensures c.max-high.ensures k.invariant

pub returns : goal.returns
returns c = reaching_all _ _ _ _ _ _ c.loop-o-test.false c.loop-o.auto.o-end c.loop-o.invariant
