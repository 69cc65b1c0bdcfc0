-- What the loop of `gather` keeps, and how the recursion ends.
use Prim.Native.Nat.{◌-◌, ◌≤◌}
use Rattle.tree.specs.Down.{the_nodes}
use Rattle.vertices.specs.Block.{the_cells, SameOut}
use Rattle.vertices.proofs.Storing.{Partly}
use Rattle.vertices.proofs.+gather.Given as goal

abbrev pub invariant-loop-q : goal.invariant-loop-q
invariant-loop-q l =
    let c = l.block.cube in
    SameOut l.initial.out l.out
    × (l.m ≤ l.wanted.room)
    × Partly (the_nodes l.nodes) l.wanted.from l.wanted.room c.level c.cell l.q l.n l.m (the_cells l.initial.out) (the_cells l.out)

abbrev pub decreases-gather : goal.decreases-gather
decreases-gather l = 22 - l.block.now.cube.level
