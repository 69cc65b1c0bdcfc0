-- `root` meets its contract: the root's centre and half size are one half each. Assumes nothing.
use mathlib.Core.Path.{refl}
use lib.Ieee.{of_bits}
use Rattle.morton.specs.Field.{third}
use Rattle.morton.specs.Level.{largest}
use Rattle.build.specs.Build.{request_of, centre_of, half_of}
use Rattle.build.proofs.root.Goals as goal

pub returns : goal.returns
unfolding of_bits request_of centre_of half_of third largest
returns c = refl
