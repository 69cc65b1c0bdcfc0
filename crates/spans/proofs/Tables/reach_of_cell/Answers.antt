-- `reach_of_cell` meets its contract. Assumes nothing.
use Rattle.spans.proofs.Yet.{both_fours}
use Rattle.spans.proofs.Tables.reach_of_cell.Goals as goal

pub returns : goal.returns
returns c = both_fours _ _ _ _ _ _ c.reach_of_four.ensures c.reach_of_four-2.ensures c.raised.ensures
