-- `low_corner` meets its contract: the cell moved up is its low corner, and nothing is lost. Assumes nothing.
use Rattle.vertices.proofs.Blocks.{shift_cell}
use Rattle.vertices.proofs.Cube.low_corner.Goals as goal

pub returns : goal.returns
returns c = shift_cell _ _ c.args.self.shallow c.args.self.key
