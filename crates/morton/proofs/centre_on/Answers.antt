-- `centre_on` meets its contract: nothing is rounded. Assumes nothing.
use Rattle.std.proofs.Common.{ℕ, ◌+◌, ◌*◌, ◌^◌, T, pos, sym, subst}
use lib.Ieee.{binary32, add, mul, of_int, of_bits, in_float}
use Rattle.morton.specs.Exact.{Exactly}
use Rattle.morton.specs.Field.{third}
use Rattle.morton.proofs.Dilated.{third_lt}
use Rattle.morton.proofs.Sizes.{coordinate_in, centre_exactly}
use Rattle.morton.proofs.centre_on.Goals as goal

pub int_to_float-result : goal.int_to_float-result
int_to_float-result c =
    subst (λ (x : ℕ). T (in_float binary32 (pos x))) (sym c.coordinate-c.ensures)
    (coordinate_in (third c.args.level c.args.n) c.args.level c.requires (third_lt c.args.level c.args.n))

pub returns : goal.returns
returns c =
    let half = c.half_size_at-size.result in
    subst (λ (x : ℕ). Exactly (add binary32 (mul binary32 (of_int binary32 (pos x)) (mul binary32 half (of_bits binary32 0x4000_0000))) half) (2 * third c.args.level c.args.n + 1) (2 ^ (c.args.level + 1)))
    (sym c.coordinate-c.ensures)
    (centre_exactly (third c.args.level c.args.n) c.args.level half c.requires (third_lt c.args.level c.args.n) c.half_size_at-size.ensures)
