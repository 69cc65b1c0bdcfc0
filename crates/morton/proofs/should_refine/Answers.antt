-- `should_refine` meets its contract, test by test. Assumes nothing.
use Rattle.std.proofs.Common.{ap, ◌∙◌}
use lib.Ieee.{Float, binary32, le, mul, of_bits}
use Rattle.morton.proofs.Distance.{refines_near, refines_shallow, refines_at_bound}
use Rattle.morton.proofs.should_refine.Goals as goal

pub returns-then-level-lt2 : goal.returns-then-level-lt2
returns-then-level-lt2 c = c.is_finite.ensures ∙ refines_shallow _ _ _ c.if-level-lt2.true

pub returns-then-level-bound : goal.returns-then-level-bound
returns-then-level-bound c = refines_at_bound _ _ _ c.if-level-gt-DEEPEST.false c.if-level-lt2.false c.if-level-bound.true

pub returns : goal.returns
returns c =
    ap (λ (x : Float). le x (mul binary32 c.half_size_at-reach.result (of_bits binary32 0x3fdd_b3d7))) c.abs.ensures.value
    ∙ refines_near _ _ _ _ c.if-level-gt-DEEPEST.false c.if-level-lt2.false c.if-level-bound.false c.half_size_at-reach.ensures
