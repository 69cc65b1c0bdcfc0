-- The least and the greatest number of a kind, and how many pass a test. Assumes nothing.
use Rattle.std.specs.Prelude.{ℕ, zero, suc, ◌+◌, ◌≤◌, Bool, cond}

pub record LeastOf (Kind : ℕ → Type 0) (x : ℕ) : Type 0 where
  pub one_of : Kind x
  pub least : (y : ℕ) → Kind y → x ≤ y

pub record GreatestOf (Kind : ℕ → Type 0) (x : ℕ) : Type 0 where
  pub one_of : Kind x
  pub greatest : (y : ℕ) → Kind y → y ≤ x

-- How many numbers below n pass a test.
unfoldable pub how_many : (ℕ → Bool) → ℕ → ℕ
how_many test zero = 0
how_many test (suc n) = how_many test n + cond (test n) 1 0
