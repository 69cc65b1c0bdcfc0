-- How many members lists have: those for which a test holds, and no more than a list that has them all. Assumes nothing.
use Prim.Native.Nat.{ℕ, zero, suc, ◌+◌, ◌≤◌, ◌<◌}
use mathlib.Core.Path.{◌≡◌, refl, sym, ◌∙◌, ap}
use mathlib.Core.Bool.{Bool, true, false, not, cond, false≢true}
use mathlib.Core.Logic.{◌⊎◌, inl, inr, ⊎_elim}
use mathlib.Core.List.{List, [], ◌∷◌, map}
use native.Mathlib.Decide.{ℕ_discrete}
use native.Mathlib.Omega.{arith}
use lib.Dec.{ltb}
use lib.ListN.{length}
use borrow.Author.Tests.{lt-ltb, le-ltb}
use Rattle.tree.specs.Tree.{In}
use Rattle.tree.proofs.Lists.{in_none, in_head, in_tail, in_cases, Asc, asc_min}

-- ---- a list and a test

-- The members for which the test holds.
unfoldable pub keep : (ℕ → Bool) → List ℕ → List ℕ
keep p [] = []
keep p (x ∷ xs) = cond (p x) (x ∷ keep p xs) (keep p xs)

pub in_keep : (p : ℕ → Bool) (xs : List ℕ) (k : ℕ) → p k ≡ true → In k xs → In k (keep p xs)
unfolding keep
in_keep p [] k e m = absurd (in_none m)
in_keep p (x ∷ xs) k e m = go (p x) refl (in_cases m) (in_keep p xs k e)
  where
    go : (b : Bool) → p x ≡ b → (k ≡ x) ⊎ In k xs → (In k xs → In k (keep p xs)) → In k (cond b (x ∷ keep p xs) (keep p xs))
    go true q (inl i) h = in_head i
    go true q (inr i) h = in_tail (h i)
    go false q (inl i) h = absurd (false≢true (sym q ∙ ap p (sym i) ∙ e))
    go false q (inr i) h = h i

-- those for which it holds and those for which it doesn't are all
pub length_keep : (p : ℕ → Bool) (xs : List ℕ) → length (keep p xs) + length (keep (λ x. not (p x)) xs) ≡ length xs
unfolding keep
length_keep p [] = refl
length_keep p (x ∷ xs) = go (p x) (length_keep p xs)
  where
    go : (b : Bool) → length (keep p xs) + length (keep (λ x. not (p x)) xs) ≡ length xs
        → length (cond b (x ∷ keep p xs) (keep p xs)) + length (cond (not b) (x ∷ keep (λ x. not (p x)) xs) (keep (λ x. not (p x)) xs)) ≡ suc (length xs)
    go true h = omega arith
    go false h = omega arith

keep_less : (p : ℕ → Bool) (xs : List ℕ) (k : ℕ) → p k ≡ false → In k xs → length (keep p xs) < length xs
keep_less p xs k e m = omega (arith, length_keep p xs, (in_keep (λ x. not (p x)) xs k (ap not e) m).inside)

-- ---- no list that ascends has more members than one that has them all

pub few : (b : ℕ) (xs ys : List ℕ) → Asc b xs → ((x : ℕ) → In x xs → In x ys) → length xs ≤ length ys
few b [] ys a h = omega arith
few b (x ∷ xs) ys a h =
    omega (
      arith,
      keep_less (ltb x) ys x (le-ltb x x (omega arith)) (h x (in_head refl)),
      few (suc x) xs (keep (ltb x) ys) a.1 (λ y i. in_keep (ltb x) ys y (lt-ltb x y (asc_min (suc x) y xs a.1 i)) (h y (in_tail i))),
    )

-- ---- the numbers of a range

-- The n numbers from b on.
unfoldable pub numbers : ℕ → ℕ → List ℕ
numbers b zero = []
numbers b (suc n) = b ∷ numbers (suc b) n

pub in_numbers : (b n x : ℕ) → b ≤ x → x < b + n → In x (numbers b n)
unfolding numbers
in_numbers b zero x l h = absurd (omega arith)
in_numbers b (suc n) x l h = elim (ℕ_discrete x b) [ yes e ↦ in_head e | no e ↦ in_tail (in_numbers (suc b) n x (omega arith) (omega arith)) ]

pub numbers_in : (b n x : ℕ) → In x (numbers b n) → (b ≤ x) × (x < b + n)
unfolding numbers
numbers_in b zero x m = absurd (in_none m)
numbers_in b (suc n) x m = ⊎_elim (λ e. (omega arith, omega arith)) (λ i. omega (arith, numbers_in (suc b) n x i)) (in_cases m)

pub asc_numbers : (a b n : ℕ) → a ≤ b → Asc a (numbers b n)
unfolding numbers
asc_numbers a b zero h = tt
asc_numbers a b (suc n) h = (h, asc_numbers (suc b) (suc b) n (omega arith))

-- ---- a list that is mapped

pub in_map : (f : ℕ → ℕ) (xs : List ℕ) (k : ℕ) → In k xs → In (f k) (map f xs)
in_map f [] k m = absurd (in_none m)
in_map f (x ∷ xs) k m = go (in_cases m) (in_map f xs k)
  where
    go : (k ≡ x) ⊎ In k xs → (In k xs → In (f k) (map f xs)) → In (f k) (f x ∷ map f xs)
    go (inl e) h = in_head (ap f e)
    go (inr i) h = in_tail (h i)
