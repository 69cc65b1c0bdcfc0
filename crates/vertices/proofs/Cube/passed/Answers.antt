-- `passed` meets its contract: the number's own cell of the level lies behind. Assumes nothing.
use mathlib.Core.Path.{refl}
use Rattle.vertices.proofs.Places.{passed_lt}
use Rattle.vertices.proofs.Cube.passed.Goals as goal

pub returns : goal.returns
returns c = passed_lt _ _ _ _ c.args.self.shallow refl
