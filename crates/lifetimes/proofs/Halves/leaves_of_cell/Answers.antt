-- `leaves_of_cell` meets its contract: a turn of the loop takes one entry more. Assumes nothing.
use Rattle.std.proofs.Common.{refl, ◌∙◌, arith}
use Rattle.lifetimes.proofs.Edges.{meeting_leaf, meeting_other}
use Rattle.lifetimes.proofs.Halves.leaves_of_cell.Goals as goal
use Rattle.lifetimes.proofs.Halves.leaves_of_cell.Goals.{in-Some, in_default}

pub loop-o-preserved : goal.loop-o-preserved
loop-o-preserved c =
    let k = c.loop-o in
    let found = c.number_at-number.ensures in
    elim c.match-number.branch [
      | in-Some w ↦
          rw w.in-Some.is
          (meeting_leaf _ _ _ _ _ k.o _ _ _ c.loop-o-test.true k.invariant _ (rw w.in-Some.is at found) _ refl _ _
          (w.low-is ∙ w.min-low.ensures) (w.high-is ∙ w.max-high.ensures) (omega arith))
      | in_default w ↦
          rw (w.in_default.is, w.low-is, w.high-is)
          (meeting_other _ _ _ _ _ k.o _ _ _ c.loop-o-test.true k.invariant (rw w.in_default.is at found))
    ]
