-- What the loop of `go_over` keeps, and how it ends.
use Rattle.tree.specs.Down.{the_nodes}
use Rattle.vertices.specs.Cells.{cells_of}
use Rattle.spans.specs.Tables.{Same}
use Rattle.spans.proofs.Going.{Going, to_go, Sized}
use Rattle.spans.proofs.Spanning.{Told}
use Rattle.spans.proofs.Tables.go_over.Given as goal

abbrev pub invariant-loop-vertices : goal.invariant-loop-vertices
invariant-loop-vertices l = record {
  same : Same l.initial.self l.self;
  sized : Sized 128 (cells_of l.vertices l.levels l.places);
  going : Going (the_nodes l.nodes) (Told l.initial.self.many l.initial.self.first.now l.initial.self.last.now l.self.first.now l.self.last.now) l.from;
}

abbrev pub decreases-loop-vertices : goal.decreases-loop-vertices
decreases-loop-vertices l = to_go (the_nodes l.nodes) l.from
