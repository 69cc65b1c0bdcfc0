-- `raised` meets its contract. Assumes nothing.
use Rattle.spans.proofs.Raising.{is_raised}
use Rattle.spans.proofs.raised.Goals as goal

pub returns : goal.returns
returns c = is_raised _ _ c.requires.0 c.requires.1
