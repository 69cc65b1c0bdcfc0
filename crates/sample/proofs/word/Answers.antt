-- `word` meets its contract: a digit more makes a number that fits, and is that of the digits with it. Assumes nothing.
use Rattle.std.proofs.Common.{arith}
use Rattle.sample.proofs.Digits.{start, fits, more}
use Rattle.sample.proofs.word.Goals as goal

pub loop-i-init : goal.loop-i-init
loop-i-init c = start _ _

pub overflow_mul-n : goal.overflow_mul-n
overflow_mul-n c = omega (arith, fits 0 c.loop-i.n c.loop-i.i (omega arith) c.loop-i.invariant.small (omega arith))

pub overflow_add-n : goal.overflow_add-n
overflow_add-n c = omega (arith, fits c.digit.result c.loop-i.n c.loop-i.i (omega arith) c.loop-i.invariant.small c.digit.ensures.bound)

pub loop-i-preserved : goal.loop-i-preserved
loop-i-preserved c = more _ _ _ _ _ c.loop-i.invariant c.digit.ensures.value c.digit.ensures.bound
