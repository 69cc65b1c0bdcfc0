-- How many numbers pass a test. Assumes nothing.
use Prim.Native.Nat.{ℕ, zero, suc, ◌+◌, ◌≤◌, ◌<◌}
use mathlib.Core.Path.{◌≡◌, refl, ap₂}
use mathlib.Core.Bool.{Bool, true, false, cond}
use mathlib.Core.Logic.{◌⊎◌, inl, inr, by_cases}
use native.Mathlib.Numerals.{add-one}
use native.Mathlib.Decide.{ℕ_discrete}
use native.Mathlib.Omega.{arith}
use Rattle.spans.specs.Least.{how_many}

pub same : (a b : ℕ) → (a ≡ b) ⊎ (a ≡ b → ⊥)
same a b = by_cases (ℕ_discrete a b) (λ h. inl h) (λ h. inr h)

module _ (t : ℕ → Bool) (i : ℕ) where
  pub passed : t i ≡ true → how_many t (i + 1) ≡ how_many t i + 1
  unfolding how_many
  passed p = rw (add-one i, p)

  pub failed : t i ≡ false → how_many t (i + 1) ≡ how_many t i
  unfolding how_many
  failed p = rw (add-one i, p) (omega arith)

pub at_most : (t : ℕ → Bool) (n : ℕ) → how_many t n ≤ n
unfolding how_many
at_most t zero = omega arith
at_most t (suc n) = go (t n) (at_most t n)
  where
    go : (b : Bool) → how_many t n ≤ n → how_many t n + cond b 1 0 ≤ suc n
    go true h = omega arith
    go false h = omega arith

pub alike : (s t : ℕ → Bool) (n : ℕ) → ((i : ℕ) → i < n → s i ≡ t i) → how_many s n ≡ how_many t n
unfolding how_many
alike s t zero e = refl
alike s t (suc n) e = ap₂ (λ (x : ℕ) (b : Bool). x + cond b 1 0) (alike s t n (λ i h. e i (omega arith))) (e n (omega arith))
