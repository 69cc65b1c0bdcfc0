-- The decimals of a number. Assumes nothing.
use Prim.Native.Nat.{ℕ, zero, suc, ◌+◌, ◌/◌, ◌%◌, ◌^◌, ◌≤◌, ◌<◌}
use mathlib.Core.Path.{◌≡◌, refl, sym, ◌∙◌, ap}
use mathlib.Core.Bool.{Bool, true, false, cond}
use mathlib.Core.List.{List, [], ◌∷◌, ◌++◌}
use native.Mathlib.Nat.{pow-suc}
use native.Mathlib.Omega.{arith}
use native.Mathlib.Decide.{dec_lt}
use lib.Dec.{ltb}
use lib.ListN.{length, length-append}
use borrow.Author.Tests.{lt-ltb, le-ltb}
use Rattle.counting.specs.Printed.{decimal_to, decimal}

decimal_step : (k n : ℕ) → decimal_to (suc k) n ≡ cond (ltb n 10) ((48 + n) ∷ []) (decimal_to k (n / 10) ++ ((48 + n % 10) ∷ []))
unfolding decimal_to
decimal_step k n = refl

small : (k n : ℕ) → n < 10 → decimal_to (suc k) n ≡ (48 + n) ∷ []
small k n h = decimal_step k n ∙ ap (λ (b : Bool). cond b ((48 + n) ∷ []) (decimal_to k (n / 10) ++ ((48 + n % 10) ∷ []))) (lt-ltb n 10 h)

more : (k n : ℕ) → 10 ≤ n → decimal_to (suc k) n ≡ decimal_to k (n / 10) ++ ((48 + n % 10) ∷ [])
more k n h = decimal_step k n ∙ ap (λ (b : Bool). cond b ((48 + n) ∷ []) (decimal_to k (n / 10) ++ ((48 + n % 10) ∷ []))) (le-ltb n 10 h)

-- more digits than a number needs change nothing
enough : (k n : ℕ) → n < 10 ^ suc k → decimal_to (suc k) n ≡ decimal_to (suc (suc k)) n
enough zero n h = small 0 n (omega (arith, h)) ∙ sym (small 1 n (omega (arith, h)))
enough (suc k) n h =
    elim (dec_lt n 10) [
      | yes l ↦ small (suc k) n l ∙ sym (small (suc (suc k)) n l)
      | no l ↦
          more (suc k) n (omega arith)
          ∙ ap (λ (xs : List ℕ). xs ++ ((48 + n % 10) ∷ [])) (enough k (n / 10) (tenth k n h))
          ∙ sym (more (suc (suc k)) n (omega arith))
    ]
  where
    tenth : (k n : ℕ) → n < 10 ^ suc (suc k) → n / 10 < 10 ^ suc k
    tenth k n h = omega (arith, h, pow-suc 10 (suc k))

pub decimal_small : (n : ℕ) → n < 10 → decimal n ≡ (48 + n) ∷ []
unfolding decimal
decimal_small n h = small 19 n h

pub decimal_more : (n : ℕ) → 10 ≤ n → n < 2 ^ 64 → decimal n ≡ decimal (n / 10) ++ ((48 + n % 10) ∷ [])
unfolding decimal
decimal_more n l h = more 19 n l ∙ ap (λ (xs : List ℕ). xs ++ ((48 + n % 10) ∷ [])) (enough 18 (n / 10) (omega (arith, h)))

-- one digit more than a tenth's
pub decimal_length : (n : ℕ) → 10 ≤ n → n < 2 ^ 64 → length (decimal n) ≡ length (decimal (n / 10)) + 1
decimal_length n l h = ap length (decimal_more n l h) ∙ length-append (decimal (n / 10)) ((48 + n % 10) ∷ [])

digits_most : (k n : ℕ) → length (decimal_to k n) ≤ k
unfolding decimal_to
digits_most zero n = omega arith
digits_most (suc k) n =
    go (ltb n 10) _ _ (omega arith) (omega (arith, digits_most k (n / 10), length-append (decimal_to k (n / 10)) ((48 + n % 10) ∷ [])))
  where
    go : (b : Bool) (xs ys : List ℕ) → length xs ≤ suc k → length ys ≤ suc k → length (cond b xs ys) ≤ suc k
    go true xs ys p q = p
    go false xs ys p q = q

pub decimal_most : (n : ℕ) → length (decimal n) ≤ 20
unfolding decimal
decimal_most n = digits_most 20 n
