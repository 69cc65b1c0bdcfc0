-- `to_bits` meets its contract: a NaN has the one pattern, any other float its own. Assumes nothing.
use mathlib.Core.Path.{refl, sym, ◌∙◌, subst}
use lib.Dec.{T}
use lib.Ieee.{binary32}
use lib.Ieee.Bits.{of_bits-to_bits}
use Rattle.floats.proofs.Patterns.{nan_pattern}
use Rattle.floats.proofs.to_bits.Goals as goal

pub returns-then-is_nan : goal.returns-then-is_nan
returns-then-is_nan c = nan_pattern c.args.d (sym c.is_nan.ensures.value ∙ c.if-is_nan.true)

-- `.well_formed` says of an `f32` parameter that the format holds it
pub returns : goal.returns
returns c = (refl, of_bits-to_bits binary32 c.args.d (subst T (sym c.well_formed.0.1) tt))
