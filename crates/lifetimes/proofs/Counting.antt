-- Counting by differences: what each step keeps, and why the sums are the counts. Assumes nothing.
use Rattle.std.proofs.Common.{◌≡◌, ℕ, zero, suc, ◌+◌, ◌-◌, ◌%◌, ◌^◌, ◌<◌, ◌≤◌, max, Bool, true, false, cond, ◌&&◌, eqb, ltb, leb, List, length, get_or, set, replicate, sym, refl, ap, ◌∙◌, subst, ap₂, ⊎_elim, not-suc-le-zero, le_antisymm, add-one, arith, length-set, get_or-set_other, get_or-set_same, ext_get_or, pow_pos, le-ltb, lt-ltb, eq-eqb, ne_eqb, le-leb}
use borrow.Author.Tests.{lt-leb}
use lib.ListN.{get_or-replicate}
use Rattle.tree.specs.Tree.{In}
use Rattle.tree.specs.Down.{Nodes}
use Rattle.tree.proofs.Lists.{order}
use Rattle.lifetimes.specs.Needed.{GreatestOf, how_many, needed_at, count_at, Counts}
use Rattle.lifetimes.specs.Steps.{Differs, starts_at, ends_at, most_in, Counted, SpansLeft, ReportLeft}
use Rattle.spans.proofs.HowMany.{same, passed, failed, at_most, alike}

-- ---- tests

both : (s t : Bool) → s ≡ true → t ≡ true → (s && t) ≡ true
both s t p q = simp (p, q)

not_left : (s t : Bool) → s ≡ false → (s && t) ≡ false
not_left s t p = simp p

not_right : (s t : Bool) → t ≡ false → (s && t) ≡ false
not_right true t p = p
not_right false t p = refl

one : (t : Bool) → t ≡ true → cond {A = ℕ} t 1 0 ≡ 1
one t p = simp p

none : (t : Bool) → t ≡ false → cond {A = ℕ} t 1 0 ≡ 0
none t p = simp p

-- ---- a table filled

-- ---- differences

-- A slab holds how many of the first m leaves start there, less those of the first k that end before it: between the two stores of a leaf these differ.
abbrev Holds : List ℕ → List ℕ → ℕ → ℕ → List ℕ → ℕ → Type 0
Holds firsts lasts m k l slab = (get_or l slab 0 + how_many (ends_at firsts lasts slab) k) % 2 ^ 32 ≡ how_many (starts_at firsts lasts slab) m % 2 ^ 32

abbrev AllHold : List ℕ → List ℕ → ℕ → ℕ → List ℕ → Type 0
AllHold firsts lasts m k l = (slab : ℕ) → slab < length l → Holds firsts lasts m k l slab

module _ (firsts lasts : List ℕ) (i : ℕ) where
  abbrev a : ℕ
  a = get_or firsts i 0

  abbrev b : ℕ
  b = get_or lasts i 0

  -- what leaf i adds to the two counts of a slab
  start_here : a ≤ b → how_many (starts_at firsts lasts a) (i + 1) ≡ how_many (starts_at firsts lasts a) i + 1
  start_here h = passed (starts_at firsts lasts a) i (both (leb a b) (eqb a a) (le-leb a b h) (eq-eqb a a refl))

  start_else : (slab : ℕ) → (slab ≡ a → ⊥) → how_many (starts_at firsts lasts slab) (i + 1) ≡ how_many (starts_at firsts lasts slab) i
  start_else slab ne = failed (starts_at firsts lasts slab) i (not_right (leb a b) (eqb a slab) (ne_eqb a slab (λ e. ne (sym e))))

  end_here : a ≤ b → how_many (ends_at firsts lasts (b + 1)) (i + 1) ≡ how_many (ends_at firsts lasts (b + 1)) i + 1
  end_here h = passed (ends_at firsts lasts (b + 1)) i (both (leb a b) (eqb (b + 1) (b + 1)) (le-leb a b h) (eq-eqb (b + 1) (b + 1) refl))

  end_else : (slab : ℕ) → (slab ≡ b + 1 → ⊥) → how_many (ends_at firsts lasts slab) (i + 1) ≡ how_many (ends_at firsts lasts slab) i
  end_else slab ne = failed (ends_at firsts lasts slab) i (not_right (leb a b) (eqb (b + 1) slab) (ne_eqb (b + 1) slab (λ e. ne (sym e))))

  start_never : (slab : ℕ) → b < a → how_many (starts_at firsts lasts slab) (i + 1) ≡ how_many (starts_at firsts lasts slab) i
  start_never slab h = failed (starts_at firsts lasts slab) i (not_left (leb a b) (eqb a slab) (lt-leb a b h))

  end_never : (slab : ℕ) → b < a → how_many (ends_at firsts lasts slab) (i + 1) ≡ how_many (ends_at firsts lasts slab) i
  end_never slab h = failed (ends_at firsts lasts slab) i (not_left (leb a b) (eqb (b + 1) slab) (lt-leb a b h))

  -- the store at the first slab
  up : (l : List ℕ) (x : ℕ) → AllHold firsts lasts i i l → a ≤ b → a < length l → x ≡ (get_or l a 0 + 1) % 2 ^ 32
      → AllHold firsts lasts (i + 1) i (set l a x)
  up l x d h r e slab g =
      ⊎_elim
      (λ q. subst (Holds firsts lasts (i + 1) i (set l a x)) (sym q) (omega (arith, get_or-set_same l a x 0 r, d a r, start_here h)))
      (λ ne. rw (get_or-set_other l a slab x 0 ne, start_else slab ne) (d slab (omega (arith, length-set l a x))))
      (same slab a)

  -- the store after the last
  down : (l : List ℕ) (y : ℕ) → AllHold firsts lasts (i + 1) i l → a ≤ b → b + 1 < length l → y ≡ (get_or l (b + 1) 0 + (2 ^ 32 - 1)) % 2 ^ 32
      → AllHold firsts lasts (i + 1) (i + 1) (set l (b + 1) y)
  down l y d h r e slab g =
      ⊎_elim
      (λ q.
      subst (Holds firsts lasts (i + 1) (i + 1) (set l (b + 1) y)) (sym q) (omega (arith, get_or-set_same l (b + 1) y 0 r, d (b + 1) r, end_here h)))
      (λ ne. rw (get_or-set_other l (b + 1) slab y 0 ne, end_else slab ne) (d slab (omega (arith, length-set l (b + 1) y))))
      (same slab (b + 1))

  module _ (l₀ l : List ℕ) (d : Differs firsts lasts i l₀ l) where
    all_hold : AllHold firsts lasts i i l
    all_hold slab g = d.each slab (omega (arith, d.as_long))

    -- a leaf that is never needed
    pub differ_skip : get_or lasts i 0 < get_or firsts i 0 → Differs firsts lasts (i + 1) l₀ l
    differ_skip h = record { as_long = d.as_long; each = λ slab g. rw (start_never slab h, end_never slab h) (d.each slab g) }

    -- one that is needed to the last slab: nothing stands after it
    pub differ_up : (x : ℕ) → get_or firsts i 0 ≤ get_or lasts i 0 → get_or lasts i 0 < length l₀
        → x ≡ (get_or l (get_or firsts i 0) 0 + 1) % 2 ^ 32
        → length (set l (get_or firsts i 0) x) ≤ get_or lasts i 0 + 1
        → Differs firsts lasts (i + 1) l₀ (set l (get_or firsts i 0) x)
    differ_up x h w e v =
        let n : length (set l a x) ≡ length l₀ = length-set l a x ∙ d.as_long in
        record {
          as_long = n;
          each = λ slab g. rw (end_else slab (omega (arith, n))) (up l x all_hold h (omega (arith, d.as_long)) e slab (omega (arith, n)));
        }

    -- any other
    pub differ_both : (x y : ℕ) → get_or firsts i 0 ≤ get_or lasts i 0
        → x ≡ (get_or l (get_or firsts i 0) 0 + 1) % 2 ^ 32
        → get_or lasts i 0 + 1 < length (set l (get_or firsts i 0) x)
        → y ≡ (get_or (set l (get_or firsts i 0) x) (get_or lasts i 0 + 1) 0 + (2 ^ 32 - 1)) % 2 ^ 32
        → Differs firsts lasts (i + 1) l₀ (set (set l (get_or firsts i 0) x) (get_or lasts i 0 + 1) y)
    differ_both x y h e w f =
        let n : length (set (set l a x) (b + 1) y) ≡ length l₀ = length-set (set l a x) (b + 1) y ∙ length-set l a x ∙ d.as_long in
        record {
          as_long = n;
          each = λ slab g. down (set l a x) y (up l x all_hold h (omega (arith, length-set l a x)) e) h w f slab (omega (arith, n));
        }

pub differ_start : (firsts lasts l : List ℕ) → l ≡ replicate (length l) 0 → Differs firsts lasts 0 l l
unfolding how_many
differ_start firsts lasts l z =
    record {
      as_long = refl;
      each = λ slab g. omega (arith, ap (λ (t : List ℕ). get_or t slab 0) z, get_or-replicate {A = ℕ} (length l) slab 0 0 g);
    }

-- ---- sums

-- Leaf i is needed at the slab before: the test on the slab itself, so that it is also said of slab 0.
abbrev lately : List ℕ → List ℕ → ℕ → ℕ → Bool
lately firsts lasts slab i = ltb (get_or firsts i 0) slab && leb slab (get_or lasts i 0 + 1)

-- One leaf: needed here or just over, it was needed before or just begins.
module _ (a b k : ℕ) where
  abbrev here : ℕ
  here = cond (leb a k && leb k b) 1 0

  abbrev over : ℕ
  over = cond (leb a b && eqb (b + 1) k) 1 0

  abbrev before : ℕ
  before = cond (ltb a k && leb k (b + 1)) 1 0

  abbrev begins : ℕ
  begins = cond (leb a b && eqb a k) 1 0

  is_here : a ≤ k → k ≤ b → here ≡ 1
  is_here p q = one (leb a k && leb k b) (both (leb a k) (leb k b) (le-leb a k p) (le-leb k b q))

  is_early : k < a → here ≡ 0
  is_early p = none (leb a k && leb k b) (not_left (leb a k) (leb k b) (lt-leb a k p))

  is_late : b < k → here ≡ 0
  is_late p = none (leb a k && leb k b) (not_right (leb a k) (leb k b) (lt-leb k b p))

  was_here : a < k → k ≤ b + 1 → before ≡ 1
  was_here p q = one (ltb a k && leb k (b + 1)) (both (ltb a k) (leb k (b + 1)) (lt-ltb a k p) (le-leb k (b + 1) q))

  was_early : k ≤ a → before ≡ 0
  was_early p = none (ltb a k && leb k (b + 1)) (not_left (ltb a k) (leb k (b + 1)) (le-ltb a k p))

  was_late : b + 1 < k → before ≡ 0
  was_late p = none (ltb a k && leb k (b + 1)) (not_right (ltb a k) (leb k (b + 1)) (lt-leb k (b + 1) p))

  is_over : a ≤ b → b + 1 ≡ k → over ≡ 1
  is_over p e = one (leb a b && eqb (b + 1) k) (both (leb a b) (eqb (b + 1) k) (le-leb a b p) (eq-eqb (b + 1) k e))

  not_over : (b + 1 ≡ k → ⊥) → over ≡ 0
  not_over ne = none (leb a b && eqb (b + 1) k) (not_right (leb a b) (eqb (b + 1) k) (ne_eqb (b + 1) k ne))

  does_begin : a ≤ b → a ≡ k → begins ≡ 1
  does_begin p e = one (leb a b && eqb a k) (both (leb a b) (eqb a k) (le-leb a b p) (eq-eqb a k e))

  not_begins : (a ≡ k → ⊥) → begins ≡ 0
  not_begins ne = none (leb a b && eqb a k) (not_right (leb a b) (eqb a k) (ne_eqb a k ne))

  never : b < a → here + over ≡ before + begins
  never h =
      let o : over ≡ 0 = none (leb a b && eqb (b + 1) k) (not_left (leb a b) (eqb (b + 1) k) (lt-leb a b h)) in
      let g : begins ≡ 0 = none (leb a b && eqb a k) (not_left (leb a b) (eqb a k) (lt-leb a b h)) in
      ⊎_elim (λ p. omega (arith, is_early p, was_early (omega arith)))
      (λ p. ⊎_elim (λ q. omega (arith, is_late (omega arith), was_late (omega arith))) (λ q. omega (arith, is_late (omega arith), was_early q)) (order a k))
      (order k a)

  ever : a ≤ b → here + over ≡ before + begins
  ever h =
      ⊎_elim (λ p. omega (arith, is_early p, not_over (omega arith), was_early (omega arith), not_begins (omega arith)))
      (λ p.
      ⊎_elim (λ q. omega (arith, is_late q, ending q))
      (λ q. omega (arith, is_here p q, not_over (omega arith), beginning p q))
      (order b k))
      (order k a)
    where
      ending : b < k → over ≡ before + begins
      ending q =
          ⊎_elim (λ e. omega (arith, is_over h e, was_here (omega arith) (omega arith), not_begins (omega arith)))
          (λ ne. omega (arith, not_over ne, was_late (omega arith), not_begins (omega arith)))
          (same (b + 1) k)

      beginning : a ≤ k → k ≤ b → before + begins ≡ 1
      beginning p q =
          ⊎_elim (λ e. omega (arith, does_begin h e, was_early (omega arith)))
          (λ ne. omega (arith, not_begins ne, was_here (omega arith) (omega arith)))
          (same a k)

  one_leaf : here + over ≡ before + begins
  one_leaf = ⊎_elim never ever (order b a)

module _ (firsts lasts : List ℕ) where
  balance : (k m : ℕ)
      → how_many (needed_at firsts lasts k) m + how_many (ends_at firsts lasts k) m
      ≡ how_many (lately firsts lasts k) m + how_many (starts_at firsts lasts k) m
  unfolding how_many
  balance k zero = refl
  balance k (suc m) = omega (arith, balance k m, one_leaf (get_or firsts m 0) (get_or lasts m 0) k)

  lately_next : (k m : ℕ) → how_many (lately firsts lasts (k + 1)) m ≡ how_many (needed_at firsts lasts k) m
  lately_next k m =
      alike (lately firsts lasts (k + 1)) (needed_at firsts lasts k) m
      (λ i h. ap₂ (λ (s t : Bool). s && t) (left (get_or firsts i 0)) (right (get_or lasts i 0)))
    where
      left : (a : ℕ) → ltb a (k + 1) ≡ leb a k
      left a =
          ⊎_elim (λ p. le-ltb a (k + 1) (omega arith) ∙ sym (lt-leb a k p)) (λ p. lt-ltb a (k + 1) (omega arith) ∙ sym (le-leb a k p)) (order k a)

      right : (b : ℕ) → leb (k + 1) (b + 1) ≡ leb k b
      right b =
          ⊎_elim (λ p. lt-leb (k + 1) (b + 1) (omega arith) ∙ sym (lt-leb k b p))
          (λ p. le-leb (k + 1) (b + 1) (omega arith) ∙ sym (le-leb k b p))
          (order b k)

  lately_none : (m : ℕ) → how_many (lately firsts lasts 0) m ≡ 0
  unfolding how_many
  lately_none zero = refl
  lately_none (suc m) = omega (arith, lately_none m, was_early (get_or firsts m 0) (get_or lasts m 0) 0 (omega arith))

-- What the summing loop has at a slab.
pub record Summed (firsts lasts l₀ l : List ℕ) (here slab : ℕ) : Type 0 where
  pub as_long : length l ≡ length l₀
  pub here_is : here ≡ how_many (lately firsts lasts slab) (length firsts)
  pub done : (i : ℕ) → i < slab → get_or l i 0 ≡ count_at firsts lasts i
  pub left : (i : ℕ) → slab ≤ i → get_or l i 0 ≡ get_or l₀ i 0

pub sum_start : (firsts lasts l : List ℕ) → Summed firsts lasts l l 0 0
sum_start firsts lasts l =
    record {
      as_long = refl;
      here_is = sym (lately_none firsts lasts (length firsts));
      done = λ i h. absurd (not-suc-le-zero h);
      left = λ i h. refl;
    }

module _ (firsts lasts l₀ l : List ℕ) (here slab : ℕ) (s : Summed firsts lasts l₀ l here slab) where
  -- Modulo 2^32 the sum is the count, and there are fewer leaves than that.
  sum_is : (next : ℕ) → Differs firsts lasts (length firsts) l₀ l₀ → length firsts < 2 ^ 32 → slab < length l → next ≡ (here + get_or l slab 0) % 2 ^ 32
      → next ≡ count_at firsts lasts slab
  sum_is next d few g e =
      omega (
        arith,
        d.each slab (omega (arith, s.as_long)),
        s.left slab (omega arith),
        s.here_is,
        balance firsts lasts slab (length firsts),
        at_most (needed_at firsts lasts slab) (length firsts),
      )

  pub sum_more : (next : ℕ) → Differs firsts lasts (length firsts) l₀ l₀ → length firsts < 2 ^ 32 → slab < length l
      → next ≡ (here + get_or l slab 0) % 2 ^ 32
      → Summed firsts lasts l₀ (set l slab next) next (slab + 1)
  sum_more next d few g e =
      let q : next ≡ count_at firsts lasts slab = sum_is next d few g e in
      record {
        as_long = length-set l slab next ∙ s.as_long;
        here_is = q ∙ sym (lately_next firsts lasts slab (length firsts));
        done = λ i h.
            ⊎_elim (λ r. rw r (get_or-set_same l slab next 0 g ∙ q)) (λ ne. get_or-set_other l slab i next 0 ne ∙ s.done i (omega arith)) (same i slab);
        left = λ i h. get_or-set_other l slab i next 0 (omega arith) ∙ s.left i (omega arith);
      }

-- ---- the greatest

module _ (xs : List ℕ) where
  -- before any number, and after one more
  pub most_start : 0 ≡ most_in xs 0
  unfolding most_in
  most_start = refl

  pub most_more : (n top top' : ℕ) → top ≡ most_in xs n → top' ≡ max top (get_or xs n 0) → top' ≡ most_in xs (n + 1)
  unfolding most_in
  most_more n top top' e f = rw add-one (f ∙ ap (λ (t : ℕ). max t (get_or xs n 0)) e)

  -- the greatest is no less than any, and is one of them
  most_over : (n i : ℕ) → i < n → get_or xs i 0 ≤ most_in xs n
  unfolding most_in
  most_over zero i h = absurd (not-suc-le-zero h)
  most_over (suc n) i h =
      ⊎_elim (λ g. omega (arith, most_over n i g)) (λ g. omega (arith, ap (λ (j : ℕ). get_or xs j 0) (le_antisymm (omega arith) g))) (order i n)

  most_one : (n : ℕ) → 0 < n → (i : ℕ) × (i < n) × (get_or xs i 0 ≡ most_in xs n)
  unfolding most_in
  most_one zero h = absurd (not-suc-le-zero h)
  most_one (suc zero) h = (0, omega arith, omega arith)
  most_one (suc (suc n)) h =
      ⊎_elim (λ g. later g (most_one (suc n) (omega arith))) (λ g. (suc n, omega arith, omega arith)) (order (get_or xs (suc n) 0) (most_in xs (suc n)))
    where
      later : get_or xs (suc n) 0 < most_in xs (suc n) → (i : ℕ) × (i < suc n) × (get_or xs i 0 ≡ most_in xs (suc n))
          → (i : ℕ) × (i < suc (suc n)) × (get_or xs i 0 ≡ max (most_in xs (suc n)) (get_or xs (suc n) 0))
      later g w = (w.0, omega (arith, w.1), omega (arith, w.2))

  most_greatest : 0 < length xs → GreatestOf (λ x. In x xs) (most_in xs (length xs))
  most_greatest h = record { one_of = there (most_one (length xs) h); greatest = λ y m. omega (arith, m.here, most_over (length xs) m.place m.inside) }
    where
      there : (i : ℕ) × (i < length xs) × (get_or xs i 0 ≡ most_in xs (length xs)) → In (most_in xs (length xs)) xs
      there w = record { place = w.0; inside = w.1; here = w.2 }

-- ---- the four steps together

-- The greatest is one of the counts, as there is a slab.
pub counted_counts : {firsts lasts counts counts' : List ℕ} {r s : ℕ} → length counts ≡ 2 ^ s → Counted firsts lasts counts counts' r
    → Counts s firsts lasts counts' r
counted_counts {counts' = counts'} {s = s} e c =
    let n : length counts' ≡ 2 ^ s = c.sums.as_long ∙ e in
    record {
      as_many = n;
      each = λ slab g. c.sums.each slab (omega (arith, e));
      greatest = subst (GreatestOf (λ x. In x counts')) (sym c.greatest) (most_greatest counts' (omega (arith, n, pow_pos s)));
    }

-- ---- one answer only

pub greatest_one : {Kind : ℕ → Type 0} {x y : ℕ} → GreatestOf Kind x → GreatestOf Kind y → x ≡ y
greatest_one {Kind} {x} {y} p q = le_antisymm (q.greatest x p.one_of) (p.greatest y q.one_of)

pub count_one : {s : ℕ} {firsts lasts c c' : List ℕ} {m m' : ℕ} → Counts s firsts lasts c m → Counts s firsts lasts c' m' → (c ≡ c') × (m ≡ m')
count_one {s} {firsts} {lasts} {c} {c'} {m} {m'} p q = (e, greatest_one (rw e at p.greatest) q.greatest)
  where
    e : c ≡ c'
    e =
        ext_get_or 0 c c' (p.as_many ∙ sym q.as_many)
        (λ i h. p.each i (omega (arith, p.as_many)) ∙ sym (q.each i (omega (arith, p.as_many))))

-- the whole report
pub report_left : (n : Nodes) (s : ℕ) (first last needed needed' : List ℕ) (r : ℕ)
    → length needed ≡ 2 ^ s → SpansLeft n s first last → Counted first last needed needed' r
    → ReportLeft n s first last needed' r
report_left n s first last needed needed' r e S C = record { spans = S.spans; counts = counted_counts e C }
