-- `put_decimal` meets its contract, and ends: a tenth has a digit less. Assumes nothing.
use Rattle.std.proofs.Common.{◌≡◌, ◌%◌, ◌∙◌, length, ap, arith, length-append, append_assoc}
use Rattle.counting.proofs.Decimals.{decimal_small, decimal_more, decimal_length}
use Rattle.counting.proofs.Text.+put_decimal.Goals as goal
use Rattle.counting.proofs.Text.+put_decimal.Goals.{then-n-ge10, else-n-ge10}

pub put_decimal-requires : goal.put_decimal-requires
put_decimal-requires t c = (omega arith, omega (arith, decimal_length c.args.n c.if-n-ge10.true c.ranges.n.fits))

pub put-requires : goal.put-requires
put-requires t c =
    elim c.if-n-ge10.branch [
      | then-n-ge10 w ↦ rw (w.self-is, w.put_decimal.ensures, length-append) (omega (arith, decimal_length c.args.n w.if-n-ge10.true c.ranges.n.fits))
      | else-n-ge10 w ↦ rw w.self-is (omega (arith, ap length (decimal_small c.args.n w.if-n-ge10.false)))
    ]

pub returns : goal.returns
returns t c =
    c.put.ensures ∙ elim c.if-n-ge10.branch [
      | then-n-ge10 w ↦ rw (w.self-is, w.put_decimal.ensures, decimal_more c.args.n w.if-n-ge10.true c.ranges.n.fits, append_assoc)
      | else-n-ge10 w ↦ let e : c.args.n % 10 ≡ c.args.n = omega arith in rw (w.self-is, decimal_small c.args.n w.if-n-ge10.false, e)
    ]
