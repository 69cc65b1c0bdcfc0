-- `gather` meets its contract: a turn of the loop takes one place more. Assumes nothing.
use mathlib.Core.Path.{refl}
use Rattle.spans.proofs.Gathering.{gathered_none, gathered_more}
use Rattle.spans.proofs.Lent.{lent}
use Rattle.spans.proofs.Tables.gather.Goals as goal

pub loop-place-init : goal.loop-place-init
loop-place-init c = record { same = lent _; last = refl; gathered = gathered_none _ _ _ _ c.requires.0 }

pub loop-place-preserved : goal.loop-place-preserved
loop-place-preserved c =
    let k = c.loop-place.invariant in
    record {
      same = record { many = k.same.many; first = k.same.first; last = k.same.last };
      last = k.last;
      gathered = gathered_more _ _ _ _ _ _ _ k.gathered c.loop-place-test.true _ _ c.word_at-word.ensures c.first_at.ensures _ _
          c.take_over-number.ensures;
    }
