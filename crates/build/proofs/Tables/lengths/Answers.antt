-- `lengths_of` meets its contract. Assumes nothing.
use mathlib.Core.Path.{refl}
use Rattle.build.specs.Build.{lengths_of}
use Rattle.build.proofs.Tables.lengths.Goals as goal

pub returns : goal.returns
unfolding lengths_of
returns c = refl
