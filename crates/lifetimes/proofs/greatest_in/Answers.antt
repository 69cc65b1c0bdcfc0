-- `greatest_in` meets its contract: a turn takes one number more. Assumes nothing.
use Rattle.lifetimes.proofs.Counting.{most_start, most_more}
use Rattle.lifetimes.proofs.greatest_in.Goals as goal

pub loop-number-init : goal.loop-number-init
loop-number-init c = most_start c.args.table.now

pub loop-number-preserved : goal.loop-number-preserved
loop-number-preserved c = let k = c.loop-number in most_more c.args.table.now k.number-index k.top c.max-top.result k.invariant c.max-top.ensures
