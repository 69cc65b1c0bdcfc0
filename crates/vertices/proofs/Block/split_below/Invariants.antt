-- What the loop of `split_below` keeps.
use Rattle.tree.specs.Down.{the_nodes}
use Rattle.vertices.proofs.Marks.{Stacked}
use Rattle.vertices.proofs.Block.split_below.Given as goal

abbrev pub invariant-loop-o : goal.invariant-loop-o
invariant-loop-o l = Stacked (the_nodes l.nodes) l.fn.self.cube.cell l.fn.self.at l.fn.self.mask l.o l.below
