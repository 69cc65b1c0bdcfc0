-- What the loop of `sound` keeps, and how it ends.
use Rattle.tree.proofs.Pass.{Seen}
use Prim.Native.Nat.{◌-◌}
use lib.ListN.{length}
use Rattle.tree.proofs.Tree.sound.Given as goal

abbrev pub invariant-loop-i : goal.invariant-loop-i
invariant-loop-i l = Seen l.keys l.leaves l.firsts l.distances l.i l.child l.leaf

abbrev pub decreases-loop-i : goal.decreases-loop-i
decreases-loop-i l = length l.keys - l.i
