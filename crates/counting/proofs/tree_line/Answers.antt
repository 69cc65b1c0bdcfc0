-- `tree_line` meets its contract. Assumes nothing.
use Rattle.counting.proofs.Lines.{tree_counted, tree_refused}
use Rattle.counting.proofs.tree_line.Goals as goal

pub returns-in-Ok : goal.returns-in-Ok
returns-in-Ok c = tree_counted _ _ _ c.listed.ensures c.in-Ok.is c.counts.ensures

pub returns-in-Err : goal.returns-in-Err
returns-in-Err c = tree_refused _ _ _ c.listed.ensures c.in-Err.is c.refused.ensures
