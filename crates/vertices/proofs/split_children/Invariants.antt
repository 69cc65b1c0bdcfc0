-- What the loop of `split_children` keeps.
use Rattle.tree.specs.Down.{the_nodes}
use Rattle.vertices.proofs.Marks.{Filled, Steps}
use Rattle.vertices.proofs.split_children.Given as goal

abbrev pub invariant-loop-w : goal.invariant-loop-w
invariant-loop-w l = Filled (Steps (the_nodes l.nodes) l.first l.node) l.w l.mask
