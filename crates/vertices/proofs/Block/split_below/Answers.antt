-- `split_below` meets its contract: a turn puts eight bits over those before. Assumes nothing.
use mathlib.Core.Path.{sym, ◌∙◌}
use native.Mathlib.Omega.{arith}
use Rattle.vertices.proofs.Marks.{marks_as, stacked_yes, stacked_no}
use Rattle.vertices.proofs.Block.split_below.Goals as goal
use Rattle.vertices.proofs.Block.split_below.Goals.{then-marked, else-marked}

pub loop-o-preserved : goal.loop-o-preserved
loop-o-preserved c =
    let l = c.loop-o in
    elim c.if-marked.branch [
      | then-marked w ↦
          rw w.below-is
          (stacked_yes _ _ _ _ l.o l.below l.invariant w.split_children.result (omega arith) (sym c.marked.ensures ∙ w.if-marked.true)
          (marks_as w.lower_cell-cell.ensures w.split_children.ensures))
      | else-marked w ↦ rw w.below-is (stacked_no _ _ _ _ l.o l.below l.invariant (sym c.marked.ensures ∙ w.if-marked.false))
    ]
