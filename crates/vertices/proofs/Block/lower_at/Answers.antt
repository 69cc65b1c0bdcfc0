-- `lower_at` meets its contract: a turn adds the place of one entry. Assumes nothing.
use mathlib.Core.Path.{sym, ◌∙◌}
use native.Mathlib.Omega.{arith}
use lib.ListN.{length-set}
use Rattle.vertices.specs.Block.{lowered_at}
use Rattle.vertices.proofs.Blocks.{filled_more}
use Rattle.vertices.proofs.Places.{at_is}
use Rattle.vertices.proofs.Block.lower_at.Goals as goal
use Rattle.vertices.proofs.Block.lower_at.Goals.{then-marked, else-marked}

pub loop-o-preserved : goal.loop-o-preserved
loop-o-preserved c =
    let s = c.args in
    let l = c.loop-o in
    elim c.if-marked.branch [
      | then-marked w ↦
          rw w.out-is (
            simp length-set l.invariant.0,
            filled_more l.out l.o _ (lowered_at s.nodes.now.firsts.now s.self.now.at s.self.now.mask s.mask s.q) (omega arith) l.invariant.1
                (w.first_at.ensures ∙ at_is _ _ _ _ _ l.o _ c.lower_place-place.ensures (sym c.marked.ensures ∙ w.if-marked.true)),
          )
      | else-marked w ↦
          rw w.out-is (
            simp length-set l.invariant.0,
            filled_more l.out l.o _ (lowered_at s.nodes.now.firsts.now s.self.now.at s.self.now.mask s.mask s.q) (omega arith) l.invariant.1
                (at_is _ _ _ _ _ l.o _ c.lower_place-place.ensures (sym c.marked.ensures ∙ w.if-marked.false)),
          )
    ]
