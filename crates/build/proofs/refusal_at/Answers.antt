-- `refusal_at` meets its contract, test by test. Assumes nothing.
use Rattle.build.proofs.Walk.{via_true}
use Rattle.build.proofs.Laws.{asked}
use mathlib.Core.Path.{ap, ◌∙◌}
use native.Mathlib.Omega.{arith}
use Rattle.build.specs.Build.{full_of, refusal_at}
use borrow.Author.Tests.{ne_eqb}
use Rattle.build.proofs.refusal_at.Goals as goal

pub full-requires : goal.full-requires
full-requires c =
    let k = asked _ _ _ _ _ c.if-s-eq0.false (via_true _ _ c.fits_at.ensures c.if-not-fits_at.false) in
    omega (arith, k.waiting, k.counted.room)

pub returns : goal.returns
unfolding refusal_at
returns c =
    rw (
      via_true _ _ c.fits_at.ensures c.if-not-fits_at.false,
      ne_eqb _ _ c.if-s-eq0.false,
      via_true _ _ c.is_finite.ensures c.if-not-is_finite.false,
      ne_eqb _ _ c.if-s-room.false,
    ) (c.full.ensures ∙ ap (full_of _) c.is_split-split.ensures)
