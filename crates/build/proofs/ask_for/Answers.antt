-- `ask_for` meets its contract: the extent, as data. Assumes nothing.
use Rattle.build.proofs.Asking.{request_is}
use Rattle.build.proofs.ask_for.Goals as goal

pub returns : goal.returns
returns c = request_is _ _ c.extent-e.ensures
