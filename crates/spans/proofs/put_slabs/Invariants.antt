-- What the loop of `put_slabs` keeps, and how it ends.
use Prim.Native.Nat.{◌-◌}
use Rattle.tree.specs.Down.{the_nodes}
use Rattle.spans.proofs.Slabbing.{SlabsTo}
use Rattle.spans.proofs.put_slabs.Given as goal

abbrev pub invariant-loop-place : goal.invariant-loop-place
invariant-loop-place l = SlabsTo (the_nodes l.nodes) l.exponent l.many l.fn.last l.last l.place

abbrev pub decreases-loop-place : goal.decreases-loop-place
decreases-loop-place l = l.many - l.place
