-- What the loop of `go_over` keeps, and how it ends.
use Rattle.tree.specs.Down.{the_nodes}
use Rattle.vertices.specs.Cells.{cells_of}
use Rattle.lifetimes.specs.Steps.{SameHalves}
use Rattle.spans.proofs.Going.{Going, to_go, Sized}
use Rattle.lifetimes.proofs.Spanning.{Told}
use Rattle.lifetimes.proofs.Halves.go_over.Given as goal

abbrev pub invariant-loop-nodes : goal.invariant-loop-nodes
invariant-loop-nodes l = record {
  sized : Sized 64 (cells_of l.vertices l.levels l.places);
  same : SameHalves l.initial.self l.self;
  going : Going (the_nodes l.nodes)
      (Told l.nodes.firsts.now l.initial.self.many l.initial.self.first.now l.initial.self.last.now l.self.first.now l.self.last.now) l.from;
}

abbrev pub decreases-loop-nodes : goal.decreases-loop-nodes
decreases-loop-nodes l = to_go (the_nodes l.nodes) l.from
