-- `split_children` meets its contract: a turn asks of one child. Assumes nothing.
use mathlib.Core.Path.{sym, ◌∙◌}
use mathlib.Core.Bool.{true≢false}
use native.Mathlib.Omega.{arith}
use Rattle.vertices.proofs.Marks.{filled_yes, filled_no, steps_is, told_none}
use Rattle.vertices.proofs.Places.{first_is, is_first}
use Rattle.vertices.proofs.split_children.Goals as goal
use Rattle.vertices.proofs.split_children.Goals.{then-leads, else-leads}

pub returns-then-childless : goal.returns-then-childless
returns-then-childless c = told_none _ _ _ (λ w h. first_is _ _ (c.childless.ensures c.if-childless.true w h))

pub loop-w-preserved : goal.loop-w-preserved
loop-w-preserved c =
    let l = c.loop-w in
    let is = steps_is _ _ _ l.w _ (is_first _ _ c.first_at-below.ensures) in
    elim c.if-leads.branch [
      | then-leads w ↦ rw w.mask-is (filled_yes _ l.w l.mask (omega arith) (sym is ∙ sym c.leads.ensures ∙ w.if-leads.true) l.invariant)
      | else-leads w ↦ rw w.mask-is (filled_no _ l.w l.mask (λ s. true≢false (sym s ∙ sym is ∙ sym c.leads.ensures ∙ w.if-leads.false)) l.invariant)
    ]
