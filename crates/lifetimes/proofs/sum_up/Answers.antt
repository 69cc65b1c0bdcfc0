-- `sum_up` meets its contract: a turn sums up to one slab more. Assumes nothing.
use Rattle.std.proofs.Common.{refl, arith}
use Rattle.lifetimes.proofs.Counting.{sum_start, sum_more}
use Rattle.lifetimes.proofs.sum_up.Goals as goal

pub loop-number-init : goal.loop-number-init
loop-number-init c = sum_start c.args.first.now c.args.last.now c.args.needed.now

pub loop-number-preserved : goal.loop-number-preserved
loop-number-preserved c =
    let k = c.loop-number in
    sum_more c.args.first.now c.args.last.now c.args.needed.now k.needed k.here k.number-index k.invariant _ c.requires.differs
    c.requires.first_len_bound (omega (arith, c.loop-number-test.true, k.invariant.as_long)) refl
