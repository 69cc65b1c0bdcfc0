-- There is room for twenty digits and a byte. Assumes nothing.
use Rattle.std.proofs.Common.{arith, length-append}
use Rattle.counting.proofs.Decimals.{decimal_most}
use Rattle.counting.proofs.Text.put_number.Goals as goal

pub put_decimal-requires : goal.put_decimal-requires
put_decimal-requires c = omega (arith, decimal_most c.args.n)

pub put-requires : goal.put-requires
put-requires c = rw (c.put_decimal.ensures, length-append) (omega (arith, decimal_most c.args.n))

pub returns-clause-room : goal.returns-clause-room
returns-clause-room c = simp (c.put.ensures, c.put_decimal.ensures, length-append) (omega (arith, decimal_most c.args.n))
