-- What is in a list, and lists that ascend. Assumes nothing.
use Prim.Native.Nat.{ℕ, zero, suc, ◌+◌, ◌≤◌, ◌<◌}
use mathlib.Core.Path.{◌≡◌, refl, sym, ◌∙◌, ap, ap₂, subst}
use mathlib.Core.Bool.{Bool, true, false, ◌||◌, false≢true}
use mathlib.Core.Logic.{◌⊎◌, inl, inr, ⊎_elim, by_cases}
use mathlib.Core.List.{List, [], ◌∷◌, ◌++◌}
use native.Mathlib.Nat.{le_antisymm, not-suc-le-zero}
use native.Mathlib.Decide.{dec_lt}
use native.Mathlib.Omega.{arith}
use lib.Dec.{eqb}
use lib.ListN.{length, get_or, length-append, get_or-append}
use lib.Seq.{get_or-append-add}
use borrow.Author.Tests.{eq-eqb, ne_eqb, eqb-true}
use Rattle.tree.specs.Tree.{In, StandsAt, Ascending}

pub order : (a b : ℕ) → (a < b) ⊎ (b ≤ a)
order a b = by_cases (dec_lt a b) (λ h. inl h) (λ h. inr (omega arith))

pub decided : {A : Type 0} (r : Bool) → (r ≡ true → A) → (r ≡ false → A) → A
decided true f g = f refl
decided false f g = g refl

pub unless : (r : Bool) → (r ≡ true → ⊥) → r ≡ false
unless r n = decided r (λ e. absurd (n e)) (λ e. e)

-- what is read inside a list is there, whatever stands for the rest
pub get_d_inside : {A : Type 0} (xs : List A) (i : ℕ) (d e : A) → i < length xs → get_or xs i d ≡ get_or xs i e
get_d_inside [] i d e h = absurd (not-suc-le-zero h)
get_d_inside (x ∷ xs) zero d e h = refl
get_d_inside (x ∷ xs) (suc i) d e h = get_d_inside xs i d e (omega arith)

-- ---- membership

pub in_at : (ks : List ℕ) (i : ℕ) → i < length ks → In (get_or ks i 0) ks
in_at ks i h = record { place = i; inside = h; here = refl }

pub stands_in : {k i : ℕ} {ks : List ℕ} → StandsAt ks i k → In k ks
stands_in {k} {i} s = record { place = i; inside = s.inside; here = s.here }

pub in_stands : {k : ℕ} {ks : List ℕ} (m : In k ks) → StandsAt ks m.place k
in_stands m = record { inside = m.inside; here = m.here }

pub in_cast : {k l : ℕ} {ks : List ℕ} → k ≡ l → In l ks → In k ks
in_cast e m = record { place = m.place; inside = m.inside; here = m.here ∙ sym e }

pub in_none : {k : ℕ} → In k [] → ⊥
in_none m = not-suc-le-zero m.inside

pub in_head : {k x : ℕ} {xs : List ℕ} → k ≡ x → In k (x ∷ xs)
in_head e = record { place = 0; inside = omega arith; here = sym e }

pub in_tail : {k x : ℕ} {xs : List ℕ} → In k xs → In k (x ∷ xs)
in_tail m = record { place = suc m.place; inside = omega (arith, m.inside); here = m.here }

pub in_cases : {k x : ℕ} {xs : List ℕ} → In k (x ∷ xs) → (k ≡ x) ⊎ In k xs
in_cases {k} {x} {xs} m = go m.place m.inside m.here
  where
    go : (i : ℕ) → i < length (x ∷ xs) → get_or (x ∷ xs) i 0 ≡ k → (k ≡ x) ⊎ In k xs
    go zero l e = inl (sym e)
    go (suc i) l e = inr (record { place = i; inside = omega arith; here = e })

pub in_one : {k x : ℕ} → In k (x ∷ []) → k ≡ x
in_one m = ⊎_elim (λ e. e) (λ n. absurd (in_none n)) (in_cases m)

pub in_left : {k : ℕ} (xs ys : List ℕ) → In k xs → In k (xs ++ ys)
in_left xs ys m =
    record {
      place = m.place;
      inside = omega (arith, m.inside, length-append xs ys);
      here = get_or-append xs ys 0 m.place m.inside ∙ m.here;
    }

pub in_right : {k : ℕ} (xs ys : List ℕ) → In k ys → In k (xs ++ ys)
in_right xs ys m =
    record {
      place = length xs + m.place;
      inside = omega (arith, m.inside, length-append xs ys);
      here = get_or-append-add xs ys m.place 0 ∙ m.here;
    }

pub in_append : {k : ℕ} (xs ys : List ℕ) → In k (xs ++ ys) → In k xs ⊎ In k ys
in_append [] ys m = inr m
in_append (x ∷ xs) ys m = ⊎_elim (λ e. inl (in_head e)) (λ n. ⊎_elim (λ l. inl (in_tail l)) (λ r. inr r) (in_append xs ys n)) (in_cases m)

-- ---- the test

abbrev pub has : List ℕ → ℕ → Bool
has [] k = false
has (x ∷ xs) k = eqb x k || has xs k

or_true : (b : Bool) → b || true ≡ true
or_true true = refl
or_true false = refl

pub has_in : (k : ℕ) (ks : List ℕ) → In k ks → has ks k ≡ true
has_in k [] m = absurd (in_none m)
has_in k (x ∷ xs) m =
    ⊎_elim (λ e. ap (λ (b : Bool). b || has xs k) (eq-eqb x k (sym e))) (λ n. ap (λ (b : Bool). eqb x k || b) (has_in k xs n) ∙ or_true (eqb x k))
    (in_cases m)

pub has_not : (k : ℕ) (ks : List ℕ) → (In k ks → ⊥) → has ks k ≡ false
has_not k [] n = refl
has_not k (x ∷ xs) n = rw (ne_eqb x k (λ e. n (in_head (sym e)))) (has_not k xs (λ i. n (in_tail i)))

pub has_true : (k : ℕ) (ks : List ℕ) → has ks k ≡ true → In k ks
has_true k [] e = absurd (false≢true e)
has_true k (x ∷ xs) e = go (has_true k xs) (eqb x k) refl
  where
    go : (has xs k ≡ true → In k xs) → (b : Bool) → eqb x k ≡ b → In k (x ∷ xs)
    go r true q = in_head (sym (eqb-true x k q))
    go r false q = in_tail (r (subst (λ (b : Bool). b || has xs k ≡ true) q e))

pub has_false : (k : ℕ) (ks : List ℕ) → has ks k ≡ false → In k ks → ⊥
has_false k ks e m = false≢true (sym e ∙ has_in k ks m)

-- ---- strictly ascending, from b on

abbrev pub Asc : ℕ → List ℕ → Type 0
Asc b [] = Unit {0}
Asc b (x ∷ xs) = (b ≤ x) × Asc (suc x) xs

pub asc_min : (b x : ℕ) (xs : List ℕ) → Asc b xs → In x xs → b ≤ x
asc_min b x [] a m = absurd (in_none m)
asc_min b x (y ∷ xs) a m = ⊎_elim (λ e. omega arith) (λ i. omega (arith, asc_min (suc y) x xs a.1 i)) (in_cases m)

pub asc_at : (b : ℕ) (xs : List ℕ) → Asc b xs → Ascending xs
asc_at b [] a i j h l = absurd (not-suc-le-zero l)
asc_at b (x ∷ xs) a i zero h l = absurd (not-suc-le-zero h)
asc_at b (x ∷ xs) a zero (suc j) h l = asc_min (suc x) (get_or xs j 0) xs a.1 (in_at xs j (omega arith))
asc_at b (x ∷ xs) a (suc i) (suc j) h l = asc_at (suc x) xs a.1 i j (omega arith) (omega arith)

pub asc_from : (b : ℕ) (xs : List ℕ) → Ascending xs → (0 < length xs → b ≤ get_or xs 0 0) → Asc b xs
asc_from b [] a h = tt
asc_from b (x ∷ xs) a h =
    (h (omega arith), asc_from (suc x) xs (λ i j l m. a (suc i) (suc j) (omega arith) (omega arith)) (λ p. a 0 1 (omega arith) (omega arith)))

-- where all members lie from b on
pub ascending_asc : (b : ℕ) (xs : List ℕ) → Ascending xs → ((x : ℕ) → In x xs → b ≤ x) → Asc b xs
ascending_asc b xs a h = asc_from b xs a (λ l. h (get_or xs 0 0) (in_at xs 0 l))

pub asc_weaken : (b c : ℕ) (xs : List ℕ) → b ≤ c → Asc c xs → Asc b xs
asc_weaken b c [] h a = tt
asc_weaken b c (x ∷ xs) h a = (omega arith, a.1)

pub asc_append : (b c : ℕ) (xs ys : List ℕ) → Asc b xs → ((x : ℕ) → In x xs → x < c) → b ≤ c → Asc c ys → Asc b (xs ++ ys)
asc_append b c [] ys a u h d = asc_weaken b c ys h d
asc_append b c (x ∷ xs) ys a u h d = (a.0, asc_append (suc x) c xs ys a.1 (λ y m. u y (in_tail m)) (u x (in_head refl)) d)

-- ---- a member of an ascending list stands at one place, and the members settle the list

pub ascending_place : (xs : List ℕ) → Ascending xs → (i j : ℕ) → i < length xs → j < length xs → get_or xs i 0 ≡ get_or xs j 0 → i ≡ j
ascending_place xs a i j l m e =
    elim (dec_lt i j) [
      | yes h ↦ absurd (omega (arith, a i j h m))
      | no h ↦ elim (dec_lt j i) [ yes g ↦ absurd (omega (arith, a j i g l)) | no g ↦ omega arith ]
    ]

pub asc_unique : (b : ℕ) (xs ys : List ℕ) → Asc b xs → Asc b ys → ((x : ℕ) → In x xs → In x ys) → ((x : ℕ) → In x ys → In x xs) → xs ≡ ys
asc_unique b [] [] a c f g = refl
asc_unique b [] (y ∷ ys) a c f g = absurd (in_none (g y (in_head refl)))
asc_unique b (x ∷ xs) [] a c f g = absurd (in_none (f x (in_head refl)))
asc_unique b (x ∷ xs) (y ∷ ys) a c f g = go (asc_unique (suc x) xs ys a.1)
  where
    least : (x y : ℕ) (ys : List ℕ) → Asc (suc y) ys → In x (y ∷ ys) → y ≤ x
    least x y ys c m = ⊎_elim (λ e. omega arith) (λ i. omega (arith, asc_min (suc y) x ys c i)) (in_cases m)

    e : x ≡ y
    e = le_antisymm (least y x xs a.1 (g y (in_head refl))) (least x y ys c.1 (f x (in_head refl)))

    rest : (x y z : ℕ) (xs ys : List ℕ) → x ≡ y → Asc (suc x) xs → In z xs → In z (y ∷ ys) → In z ys
    rest x y z xs ys q a i m = ⊎_elim (λ r. absurd (omega (arith, asc_min (suc x) z xs a i))) (λ j. j) (in_cases m)

    go : (Asc (suc x) ys → ((z : ℕ) → In z xs → In z ys) → ((z : ℕ) → In z ys → In z xs) → xs ≡ ys) → x ∷ xs ≡ y ∷ ys
    go r =
        ap₂ ◌∷◌ e
        (r (subst (λ (n : ℕ). Asc (suc n) ys) (sym e) c.1) (λ z i. rest x y z xs ys e a.1 i (f z (in_tail i)))
        (λ z i. rest y x z ys xs (sym e) c.1 i (g z (in_tail i))))

pub ascending_unique : (xs ys : List ℕ) → Ascending xs → Ascending ys → ((x : ℕ) → In x xs → In x ys) → ((x : ℕ) → In x ys → In x xs) → xs ≡ ys
ascending_unique xs ys a c = asc_unique 0 xs ys (asc_from 0 xs a (λ l. omega arith)) (asc_from 0 ys c (λ l. omega arith))
