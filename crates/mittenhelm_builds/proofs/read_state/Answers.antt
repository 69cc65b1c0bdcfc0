-- `read_state` meets its contract: word by word. Assumes nothing.
use Rattle.mittenhelm_builds.specs.Words.{state_of}
use mathlib.Core.Path.{refl}
use Rattle.mittenhelm_builds.proofs.read_state.Goals as goal

pub returns : goal.returns
unfolding state_of
returns c = refl
