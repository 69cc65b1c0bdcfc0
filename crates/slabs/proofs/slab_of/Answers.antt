-- `slab_of` meets its contract: a shift one way or the other. Assumes nothing.
use native.Mathlib.Omega.{arith}
use Rattle.morton.proofs.Levels.{level_le}
use Rattle.slabs.proofs.Order.{height_small, shifted_down, shifted_up}
use Rattle.slabs.proofs.slab_of.Goals as goal

pub overflow_mul-over : goal.overflow_mul-over
overflow_mul-over c = record { fits = omega (arith, c.height.ensures, height_small c.args.key) }

pub overflow_add-over : goal.overflow_add-over
overflow_add-over c = record { fits = omega (arith, c.height.ensures, height_small c.args.key) }

pub overflow_add-under : goal.overflow_add-under
overflow_add-under c = record { fits = omega (arith, c.level-under.ensures, level_le c.args.key) }

pub overflow_shr-result : goal.overflow_shr-result
overflow_shr-result c = omega (arith, c.level-under.ensures, level_le c.args.key)

pub returns-then-exponent-under : goal.returns-then-exponent-under
returns-then-exponent-under c =
    rw (c.height.ensures, c.level-under.ensures)
    (shifted_down c.args.exponent c.args.key (omega (arith, c.if-exponent-under.true, c.level-under.ensures)))

pub returns : goal.returns
returns c =
    rw (c.height.ensures, c.level-under.ensures)
    (shifted_up c.args.exponent c.args.key (omega (arith, c.if-exponent-under.false, c.level-under.ensures)) (omega (arith, c.requires)))
