-- Digits and their numbers. Assumes nothing.
use Rattle.std.proofs.Common.{◌≡◌, ℕ, suc, ◌+◌, ◌*◌, ◌^◌, ◌<◌, ◌≤◌, List, get_or, refl, pow-suc, add-one, arith}
use native.Mathlib.Nat.{pow-le-pow_right}
use Rattle.sample.specs.Text.{digit_of, number}

-- the number so far
pub record SoFar (text : List ℕ) (at n i : ℕ) : Type 0 where
  pub is_number : n ≡ number text at i
  pub small : n < 16 ^ i

pub start : (text : List ℕ) (at : ℕ) → SoFar text at 0 0
unfolding number
start text at = record { is_number = refl; small = omega arith }

pub fits : (d n i : ℕ) → i < 16 → n < 16 ^ i → d < 16 → n * 16 + d < 2 ^ 64
fits d n i l h k = let p : 16 ^ suc i ≤ 16 ^ 16 = pow-le-pow_right (omega arith) l in omega (arith, pow-suc 16 i, p)

pub more : (text : List ℕ) (at n i d : ℕ) → SoFar text at n i → d ≡ digit_of (get_or text (at + i) 0) → d < 16 → SoFar text at (n * 16 + d) (i + 1)
unfolding number
more text at n i d p e k =
    record {
      is_number = rw (add-one i, p.is_number, e) refl;
      small = rw (add-one i) (omega (arith, pow-suc 16 i, p.small));
    }
