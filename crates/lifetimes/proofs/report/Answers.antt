-- `report` meets its contract: the leaves are counted by the spans that stand in the tables. Assumes nothing.
use Rattle.lifetimes.proofs.Counting.{report_left}
use Rattle.lifetimes.proofs.report.Goals as goal

pub returns : goal.returns
returns c = report_left _ _ _ _ c.args.needed.now _ _ c.requires.first_len.2 c.spans.ensures c.count.ensures
