-- What the loop of `around` keeps, and how it ends.
use Prim.Native.Nat.{◌*◌, ◌≤◌}
use Rattle.morton.specs.Level.{deepest}
use Rattle.tree.specs.Down.{the_nodes}
use Rattle.dual.proofs.Sharing.{Told}
use Rattle.dual.proofs.Filling.{Filled}
use Rattle.dual.proofs.around.Given as goal

abbrev pub invariant-loop-above : goal.invariant-loop-above
invariant-loop-above l = Told (the_nodes l.nodes) l.level l.middle l.above l.ways

abbrev pub decreases-loop-above : goal.decreases-loop-above
decreases-loop-above l = l.above

abbrev pub invariant-loop-i : goal.invariant-loop-i
invariant-loop-i l = (l.tried ≤ deepest * l.i) × Filled (the_nodes l.nodes) l.distances l.middle l.i l.found l.theirs l.places l.tried
