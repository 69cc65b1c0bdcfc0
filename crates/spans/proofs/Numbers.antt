-- The numbers of the leaves. Assumes nothing.
use Prim.Native.Nat.{ℕ, zero, suc, ◌+◌, ◌-◌, ◌≤◌, ◌<◌}
use mathlib.Core.Path.{◌≡◌, ap}
use mathlib.Core.List.{List}
use mathlib.Core.Logic.{⊎_elim}
use native.Mathlib.Omega.{arith}
use borrow.Author.Tests.{eq-eqb, ne_eqb}
use lib.ListN.{get_or}
use Rattle.spans.specs.Trusted.{childless, number_of}
use Rattle.spans.proofs.HowMany.{same, passed, failed}

module _ (fs : List ℕ) (p : ℕ) where
  pub number_leaf : get_or fs p 0 ≡ 0 → number_of fs (p + 1) ≡ number_of fs p + 1
  number_leaf e = passed (childless fs) p (eq-eqb (get_or fs p 0) 0 e)

  pub number_other : (get_or fs p 0 ≡ 0 → ⊥) → number_of fs (p + 1) ≡ number_of fs p
  number_other e = failed (childless fs) p (ne_eqb (get_or fs p 0) 0 e)

  number_next : number_of fs p ≤ number_of fs (p + 1)
  number_next = ⊎_elim (λ e. omega (arith, number_leaf e)) (λ e. omega (arith, number_other e)) (same (get_or fs p 0) 0)

pub number_mono : (fs : List ℕ) (p d : ℕ) → number_of fs p ≤ number_of fs (p + d)
number_mono fs p zero = let e : p + 0 ≡ p = omega arith in omega (arith, ap (number_of fs) e)
number_mono fs p (suc d) =
    let e : p + suc d ≡ p + d + 1 = omega arith in
    omega (arith, number_mono fs p d, number_next fs (p + d), ap (number_of fs) e)

-- a leaf's number is below those of later places
pub number_below : (fs : List ℕ) (q p : ℕ) → q < p → get_or fs q 0 ≡ 0 → number_of fs q < number_of fs p
number_below fs q p h e =
    let d : q + 1 + (p - (q + 1)) ≡ p = omega arith in
    omega (arith, number_leaf fs q e, number_mono fs (q + 1) (p - (q + 1)), ap (number_of fs) d)
