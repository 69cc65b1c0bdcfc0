-- `lower_mask` meets its contract: a turn adds the bit of one offset. Assumes nothing.
use mathlib.Core.Path.{◌≡◌, sym, ◌∙◌}
use mathlib.Core.Bool.{true, true≢false}
use native.Mathlib.Omega.{arith}
use Rattle.vertices.specs.Block.{lowered_mark}
use Rattle.vertices.proofs.Marks.{marked_zero, filled_yes, filled_no, is_lowered}
use Rattle.vertices.proofs.lower_mask.Goals as goal
use Rattle.vertices.proofs.lower_mask.Goals.{then-marked, else-marked}

pub returns-then-seen-eq0 : goal.returns-then-seen-eq0
returns-then-seen-eq0 c = record { small = omega arith; marks = λ o h. marked_zero o ∙ sym (c.seen.ensures c.if-seen-eq0.true o h) }

pub loop-o-preserved : goal.loop-o-preserved
loop-o-preserved c =
    let s = c.args in
    let l = c.loop-o in
    elim c.if-marked.branch [
      | then-marked w ↦
          rw w.out-is
          (filled_yes (λ o. lowered_mark s.below s.q o ≡ true) l.o l.out (omega arith) (is_lowered _ _ _ (sym c.marked.ensures ∙ w.if-marked.true))
          l.invariant)
      | else-marked w ↦
          rw w.out-is
          (filled_no (λ o. lowered_mark s.below s.q o ≡ true) l.o l.out
          (λ p. true≢false (sym p ∙ is_lowered _ _ _ (sym c.marked.ensures ∙ w.if-marked.false))) l.invariant)
    ]
