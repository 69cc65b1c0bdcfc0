-- The queue as a ring: which items share a place, and what stands in it after the children of a cell are stored. Assumes nothing.
use Prim.Native.Nat.{ℕ, zero, suc, ◌+◌, ◌*◌, ◌/◌, ◌%◌, ◌≤◌, ◌<◌}
use mathlib.Core.Path.{◌≡◌, refl, ◌∙◌, ap}
use mathlib.Core.List.{List}
use native.Mathlib.Omega.{arith}
use native.Mathlib.Nat.{mod-lt, div-add-mod, mul-le-mul_left, mul-suc, mod-add-mod}
use native.Mathlib.Decide.{dec_lt}
use native.Mathlib.Numerals.{add-one}
use lib.ListN.{length, get_or, set, length-set}
use lib.Seq.{get_or-set_same, get_or-set_other}
use Rattle.build.specs.Build.{children_to}

-- two items that are less than the length apart have different places
pub apart : (q a b : ℕ) → a < b → b < a + q → a % q ≡ b % q → ⊥
apart q a b l h e = pick (dec_lt (a / q) (b / q)) (div-add-mod a q) (div-add-mod b q)
  where
    pick : Dec (a / q < b / q) → q * (a / q) + a % q ≡ a → q * (b / q) + b % q ≡ b → ⊥
    pick (yes p) da db = let m : q * suc (a / q) ≤ q * (b / q) = mul-le-mul_left q p in let s = mul-suc q (a / q) in omega arith
    pick (no p) da db = let m : q * (b / q) ≤ q * (a / q) = mul-le-mul_left q (omega arith) in omega arith

-- ---- the children of a cell

pub length_children : (i : ℕ) (q : List ℕ) (k item : ℕ) → length (children_to i q k item) ≡ length q
unfolding children_to
length_children zero q k item = refl
length_children (suc i) q k item = length-set (children_to i q k item) _ _ ∙ length_children i q k item

pub children_other : (i : ℕ) (q : List ℕ) (k item p : ℕ) → ((w : ℕ) → w < i → p ≡ (item + w) % length q → ⊥)
    → get_or (children_to i q k item) p 0 ≡ get_or q p 0
unfolding children_to
children_other zero q k item p h = refl
children_other (suc i) q k item p h =
    get_or-set_other (children_to i q k item) _ p _ 0 (h i (omega arith))
    ∙ children_other i q k item p (λ w l. h w (omega arith))

pub children_at : (i : ℕ) (q : List ℕ) (k item w : ℕ) → w < i → i ≤ length q
    → get_or (children_to i q k item) ((item + w) % length q) 0 ≡ 8 * k + w
unfolding children_to
children_at zero q k item w l h = absurd (omega arith)
children_at (suc i) q k item w l h = pick (dec_lt w i) (λ p. children_at i q k item w p (omega arith))
  where
    pick : Dec (w < i) → (w < i → get_or (children_to i q k item) ((item + w) % length q) 0 ≡ 8 * k + w)
        → get_or (set (children_to i q k item) ((item + i) % length q) (8 * k + i)) ((item + w) % length q) 0 ≡ 8 * k + w
    pick (yes p) ih =
        get_or-set_other (children_to i q k item) ((item + i) % length q) ((item + w) % length q) (8 * k + i) 0
        (apart (length q) (item + w) (item + i) (omega arith) (omega arith))
        ∙ ih p
    pick (no p) ih =
        let e : w ≡ i = omega arith in
        let n = length_children i q k item in
        let m = mod-lt (item + i) {m = length q} (omega arith) in
        rw e (get_or-set_same (children_to i q k item) ((item + i) % length q) (8 * k + i) 0 (omega arith))

-- ---- the loop that stores them

pub record Putting (q₀ : List ℕ) (k item : ℕ) (q : List ℕ) (at i : ℕ) : Type 0 where
  pub place : at ≡ (item + i) % length q₀
  pub stored : q ≡ children_to i q₀ k item

pub putting_length : (q₀ : List ℕ) (k item : ℕ) (q : List ℕ) (at i : ℕ) → Putting q₀ k item q at i → length q ≡ length q₀
putting_length q₀ k item q at i p = rw p.stored (length_children i q₀ k item)

pub putting_start : (q₀ : List ℕ) (k item at : ℕ) → at ≡ item % length q₀ → Putting q₀ k item q₀ at 0
unfolding children_to
putting_start q₀ k item at e = record { place = e ∙ ap (λ (x : ℕ). x % length q₀) (omega arith); stored = refl }

pub putting_more : (q₀ : List ℕ) (k item : ℕ) (q : List ℕ) (at i at' : ℕ) → Putting q₀ k item q at i → at' ≡ (at + 1) % length (set q at (8 * k + i))
    → Putting q₀ k item (set q at (8 * k + i)) at' (i + 1)
unfolding children_to
putting_more q₀ k item q at i at' p e =
    let l = putting_length q₀ k item q at i p in
    let w : ((item + i) % length q₀ + 1) % length q₀ ≡ (item + (i + 1)) % length q₀ =
    mod-add-mod (item + i) (length q₀) 1 ∙ ap (λ (x : ℕ). x % length q₀) (omega arith) in
    record {
      place = e ∙ ap (λ (x : ℕ). (at + 1) % x) (length-set q at (8 * k + i) ∙ l) ∙ ap (λ (x : ℕ). (x + 1) % length q₀) p.place ∙ w;
      stored = rw (add-one i, p.stored, p.place);
    }
