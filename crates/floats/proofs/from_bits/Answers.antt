-- `from_bits` meets its contract: a NaN's pattern gives the NaN, any other is read. Assumes nothing.
use mathlib.Core.Path.{sym, ◌∙◌}
use Rattle.floats.proofs.Patterns.{nan_bits_lem, above_is_nan, below_no_nan}
use Rattle.floats.proofs.from_bits.Goals as goal

pub returns-then-bits-gt2139095040 : goal.returns-then-bits-gt2139095040
returns-then-bits-gt2139095040 c = nan_bits_lem.1 ∙ sym (above_is_nan c.args.bits c.if-bits-gt2139095040.true)

pub float_from_bits-result : goal.float_from_bits-result
float_from_bits-result c = below_no_nan c.args.bits c.if-bits-gt2139095040.false
