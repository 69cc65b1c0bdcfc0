-- `half_size_at` meets its contract: nothing is rounded. Assumes nothing.
use Rattle.morton.proofs.Sizes.{size_in, half_exactly}
use Rattle.morton.proofs.half_size_at.Goals as goal

pub int_to_float-result : goal.int_to_float-result
int_to_float-result c = size_in c.args.level c.requires

pub returns : goal.returns
returns c = half_exactly c.args.level c.requires
