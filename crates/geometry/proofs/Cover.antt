-- What covers the finest grid: the holder of a finest cell, the sum of volumes, and the leaves of any tree. Assumes nothing.
use Prim.Native.Nat.{ℕ, zero, suc, ◌+◌, ◌*◌, ◌-◌, ◌/◌, ◌%◌, ◌^◌, ◌≤◌, ◌<◌}
use mathlib.Core.Path.{◌≡◌, refl, sym, ◌∙◌, ap, subst}
use mathlib.Core.Bool.{Bool, true, false, cond, false≢true}
use mathlib.Core.Logic.{◌⊎◌, inl, inr, ⊎_elim}
use mathlib.Core.List.{List, [], ◌∷◌}
use native.Mathlib.Nat.{mul-pos, pow-zero, add-zero, zero-add, suc-add, pow-suc, div-eq_of_lt-le, div-mul-le_self, lt-div-mul-add, div-div-eq-div-mul, mul-le-mul_right, le_refl}
use native.Mathlib.Decide.{dec_lt}
use native.Mathlib.Omega.{arith}
use Rattle.std.proofs.Common.{lit<}
use lib.Pow.{pow-add}
use borrow.Author.Tests.{eq-eqb, ne_eqb, eqb-true}
use Rattle.morton.specs.Level.{deepest, Cell, level}
use Rattle.morton.proofs.Levels.{eight_mono, cell_lead, cell_level, not_true_is}
use Rattle.morton.proofs.Fields.{cell_up}
use Rattle.tree.specs.Tree.{In}
use Rattle.geometry.specs.Grid.{volume, lies_in, holders, volumes, Cells, Covers}
use Rattle.tree.proofs.Lists.{in_cast, in_none, in_head, in_tail, in_cases, Asc, asc_min}
use Rattle.geometry.proofs.Place.{up_up}
use Rattle.geometry.proofs.Shape.{Shape, child_is, leaf_cells, leaves_rising}
use Rattle.geometry.proofs.Lookup.{no_node}

-- ---- the test, and a count of one

-- 1 for true, 0 for false
abbrev pub count : Bool → ℕ
count b = cond {A = ℕ} b 1 0

pub lies_if : (D f k : ℕ) → f / volume D k ≡ k → lies_in D f k ≡ true
unfolding lies_in
lies_if D f k e = eq-eqb (f / volume D k) k e

pub lies_not : (D f k : ℕ) → (f / volume D k ≡ k → ⊥) → lies_in D f k ≡ false
unfolding lies_in
lies_not D f k e = ne_eqb (f / volume D k) k e

pub lies_is : (D f k : ℕ) → lies_in D f k ≡ true → f / volume D k ≡ k
unfolding lies_in
lies_is D f k e = eqb-true (f / volume D k) k e

-- the one member of a list that holds f
pub record Holder (D f : ℕ) (ks : List ℕ) : Type 0 where
  pub cell : ℕ
  pub member : In cell ks
  pub holds : lies_in D f cell ≡ true
  pub only : (j : ℕ) → In j ks → lies_in D f j ≡ true → j ≡ cell

no_holder : (D f : ℕ) (ks : List ℕ) → holders D f ks ≡ 0 → (j : ℕ) → In j ks → lies_in D f j ≡ true → ⊥
no_holder D f [] h j m e = in_none m
no_holder D f (k ∷ ks) h j m e =
    ⊎_elim (λ q. omega (arith, ap (λ (n : ℕ). count (lies_in D f n)) (sym q) ∙ ap count e)) (λ n. no_holder D f ks (omega arith) j n e) (in_cases m)

pub holder : (D f : ℕ) (ks : List ℕ) → holders D f ks ≡ 1 → Holder D f ks
holder D f [] h = absurd (omega arith)
holder D f (k ∷ ks) h = go (lies_in D f k) refl (holder D f ks)
  where
    go : (b : Bool) → lies_in D f k ≡ b → (holders D f ks ≡ 1 → Holder D f ks) → Holder D f (k ∷ ks)
    go true e r =
        record {
          cell = k;
          member = in_head refl;
          holds = e;
          only = λ j m q. ⊎_elim (λ i. i) (λ n. absurd (no_holder D f ks (omega (arith, ap count e)) j n q)) (in_cases m);
        }
    go false e r =
        let s : Holder D f ks = r (omega (arith, ap count e)) in
        record {
          cell = s.cell;
          member = in_tail s.member;
          holds = s.holds;
          only = λ j m q.
              ⊎_elim (λ i. absurd (false≢true (sym e ∙ ap (lies_in D f) (sym i) ∙ q))) (λ n. s.only j n q) (in_cases m);
        }

-- and back, where no member stands twice
none_held : (D f : ℕ) (ks : List ℕ) → ((j : ℕ) → In j ks → lies_in D f j ≡ true → ⊥) → holders D f ks ≡ 0
none_held D f [] h = refl
none_held D f (k ∷ ks) h =
    omega (arith, ap count (not_true_is (lies_in D f k) (h k (in_head refl))), none_held D f ks (λ j m. h j (in_tail m)))

held_once : (D f b : ℕ) (ks : List ℕ) → Asc b ks → (k : ℕ) → In k ks → lies_in D f k ≡ true → ((j : ℕ) → In j ks → lies_in D f j ≡ true → j ≡ k) → holders D f ks ≡ 1
held_once D f b [] a k m e u = absurd (in_none m)
held_once D f b (x ∷ xs) a k m e u = ⊎_elim first (λ n. later n (held_once D f (suc x) xs a.1 k n e (λ j i. u j (in_tail i)))) (in_cases m)
  where
    first : k ≡ x → holders D f (x ∷ xs) ≡ 1
    first q =
        omega (
          arith,
          ap (λ (n : ℕ). count (lies_in D f n)) (sym q) ∙ ap count e,
          none_held D f xs (λ j i l. omega (arith, u j (in_tail i) l, asc_min (suc x) j xs a.1 i)),
        )

    later : In k xs → holders D f xs ≡ 1 → holders D f (x ∷ xs) ≡ 1
    later n r = omega (arith, ap count (not_true_is (lies_in D f x) (λ l. omega (arith, u x (in_head refl) l, asc_min (suc x) k xs a.1 n))))

-- ---- sums over a range

sum : (ℕ → ℕ) → ℕ → ℕ → ℕ
sum g a zero = 0
sum g a (suc n) = g a + sum g (suc a) n

sum_const : (g : ℕ → ℕ) (c n a : ℕ) → ((f : ℕ) → a ≤ f → f < a + n → g f ≡ c) → sum g a n ≡ n * c
unfolding sum
sum_const g c zero a h = omega arith
sum_const g c (suc n) a h = omega (arith, h a (omega arith) (omega arith), sum_const g c n (suc a) (λ f l m. h f (omega arith) (omega arith)))

sum_split : (g : ℕ → ℕ) (n m a : ℕ) → sum g a (n + m) ≡ sum g a n + sum g (a + n) m
unfolding sum
sum_split g zero m a = rw (zero-add m, add-zero a) (omega arith)
sum_split g (suc n) m a =
    let e : a + suc n ≡ suc a + n = omega arith in
    rw (suc-add n m, e) (omega (arith, sum_split g n m (suc a)))

sum_add : (g h : ℕ → ℕ) (n a : ℕ) → sum (λ f. g f + h f) a n ≡ sum g a n + sum h a n
unfolding sum
sum_add g h zero a = refl
sum_add g h (suc n) a = omega (arith, sum_add g h n (suc a))

-- ---- the finest cells in a cell are as many as its volume says

power_pos : (b n : ℕ) → 0 < b → 0 < b ^ n
power_pos b zero h = subst (λ (x : ℕ). 0 < x) (sym (pow-zero b)) (lit< tt)
power_pos b (suc n) h = subst (λ (x : ℕ). 0 < x) (sym (pow-suc b n)) (mul-pos (power_pos b n h) h)

module _ (D k : ℕ) (c : Cell (level k) k) (above : level k ≤ D) where
  volume_pos : 0 < volume D k
  unfolding volume
  volume_pos = power_pos _ (D - level k) (lit< tt)

  whole : 8 ^ D ≡ 8 ^ level k * volume D k
  unfolding volume
  whole = let e : D ≡ level k + (D - level k) = omega arith in ap (λ (n : ℕ). 8 ^ n) e ∙ pow-add 8 (level k) (D - level k)

  first_in : 8 ^ D ≤ k * volume D k
  first_in = omega (arith, whole, mul-le-mul_right (volume D k) c.low)

  last_in : k * volume D k + volume D k ≤ 8 ^ D + 8 ^ D
  last_in = omega (arith, whole, mul-le-mul_right (volume D k) c.high)

  bounds : (f : ℕ) → f / volume D k ≡ k → (k * volume D k ≤ f) × (f < k * volume D k + volume D k)
  bounds f e =
      let m : f / volume D k * volume D k ≡ k * volume D k = ap (λ (n : ℕ). n * volume D k) e in
      omega (arith, div-mul-le_self f (volume D k), lt-div-mul-add {a = f} volume_pos)

  inside_one : (f : ℕ) → k * volume D k ≤ f → f < k * volume D k + volume D k → count (lies_in D f k) ≡ 1
  inside_one f a b = ap count (lies_if D f k (div-eq_of_lt-le (volume D k) a (omega arith)))

  outside_none : (f : ℕ) → (f < k * volume D k) ⊎ (k * volume D k + volume D k ≤ f) → count (lies_in D f k) ≡ 0
  outside_none f o = ap count (lies_not D f k (λ e. ⊎_elim (λ l. omega (arith, bounds f e)) (λ l. omega (arith, bounds f e)) o))

  block : sum (λ f. count (lies_in D f k)) (8 ^ D) (8 ^ D) ≡ volume D k
  block =
      let g : ℕ → ℕ = λ f. count (lies_in D f k) in
      let p : ℕ = k * volume D k - 8 ^ D in
      let r : ℕ = 8 ^ D + 8 ^ D - (k * volume D k + volume D k) in
      let n : 8 ^ D ≡ p + (volume D k + r) = omega (arith, first_in, last_in) in
      let x : sum g (8 ^ D) p ≡ p * 0 = sum_const g 0 p (8 ^ D) (λ f l m. outside_none f (inl (omega (arith, first_in)))) in
      let y : sum g (8 ^ D + p) (volume D k) ≡ volume D k * 1 =
      sum_const g 1 (volume D k) (8 ^ D + p) (λ f l m. inside_one f (omega (arith, first_in)) (omega (arith, first_in))) in
      let z : sum g (8 ^ D + p + volume D k) r ≡ r * 0 =
      sum_const g 0 r (8 ^ D + p + volume D k) (λ f l m. outside_none f (inr (omega (arith, first_in)))) in
      ap (sum g (8 ^ D)) n
      ∙ sum_split g p (volume D k + r) (8 ^ D)
      ∙ omega (arith, x, y, z, sum_split g (volume D k) r (8 ^ D + p))

total : (D : ℕ) (ks : List ℕ) → Cells D ks → sum (λ f. holders D f ks) (8 ^ D) (8 ^ D) ≡ volumes D ks
total D [] c = omega (arith, sum_const (λ f. 0) 0 (8 ^ D) (8 ^ D) (λ f l m. refl))
total D (k ∷ ks) c =
    sum_add (λ f. count (lies_in D f k)) (λ f. holders D f ks) (8 ^ D) (8 ^ D)
    ∙ omega (arith, block D k c.0.0 c.0.1, total D ks c.1)

-- wherever each finest cell lies in one member, the volumes add up to the cube
pub covers_once : (D : ℕ) (ks : List ℕ) → Cells D ks → ((f : ℕ) → Cell D f → holders D f ks ≡ 1) → Covers D ks
covers_once D ks c o =
    record {
      cells = c;
      once = o;
      full =
          sym (total D ks c)
          ∙ omega (arith, sum_const (λ f. holders D f ks) 1 (8 ^ D) (8 ^ D) (λ f l m. o f (record { low = l; high = omega arith })));
    }

-- ---- the leaves of a tree

module _ (D : ℕ) (ns ls : List ℕ) (deep : D ≤ deepest) (t : Shape D ns ls) where
  up_one : (f j : ℕ) → f / 8 ^ j / 8 ≡ f / 8 ^ suc j
  up_one f j = div-div-eq-div-mul f (8 ^ j) 8 ∙ ap (λ (n : ℕ). f / n) (sym (pow-suc 8 j))

  -- down from a node to a leaf
  descend : (f : ℕ) → Cell D f → (j : ℕ) → j ≤ D → In (f / 8 ^ j) ns → (i : ℕ) × (i ≤ D) × In (f / 8 ^ i) ls
  descend f c zero h m = ⊎_elim (λ l. (0, h, l)) (λ g. absurd (too_deep g)) (t.eight (f / 8 ^ 0) m)
    where
      too_deep : ((w : ℕ) → w < 8 → In (8 * (f / 8 ^ 0) + w) ns) → ⊥
      too_deep g =
          let q = t.cells (8 * (f / 8 ^ 0) + 0) (g 0 (omega arith)) in
          omega (arith, q.0.high, eight_mono {i = level (8 * (f / 8 ^ 0) + 0)} {j = D} q.1, c.low)
  descend f c (suc j) h m = go (descend f c j (omega arith)) (t.eight (f / 8 ^ suc j) m)
    where
      go : (In (f / 8 ^ j) ns → (i : ℕ) × (i ≤ D) × In (f / 8 ^ i) ls)
          → In (f / 8 ^ suc j) ls ⊎ ((w : ℕ) → w < 8 → In (8 * (f / 8 ^ suc j) + w) ns) → (i : ℕ) × (i ≤ D) × In (f / 8 ^ i) ls
      go r (inl l) = (suc j, h, l)
      go r (inr g) = r (in_cast (sym (child_is (f / 8 ^ suc j) (f / 8 ^ j) (up_one f j))) (g (f / 8 ^ j % 8) (omega arith)))

  -- no leaf lies in another
  apart : (f k l : ℕ) → In k ls → In l ls → f / volume D k ≡ k → f / volume D l ≡ l → level k < level l → ⊥
  unfolding volume
  apart f k l mk ml hk hl lt =
      let d : ℕ = level l - suc (level k) in
      let e : D - level l + suc d ≡ D - level k = omega (arith, (t.cells l (t.here l ml)).1) in
      no_node D ns ls t k mk d l (t.here l ml)
      (ap (λ (n : ℕ). n / 8 ^ suc d) (sym hl) ∙ up_up f (D - level l) (suc d) ∙ ap (λ (n : ℕ). f / 8 ^ n) e ∙ hk)

  volume_level : (k l : ℕ) → level k ≡ level l → volume D k ≡ volume D l
  unfolding volume
  volume_level k l e = ap (λ (n : ℕ). 8 ^ (D - n)) e

  one_holds : (f k l : ℕ) → In k ls → In l ls → f / volume D k ≡ k → f / volume D l ≡ l → k ≡ l
  one_holds f k l mk ml hk hl = go (dec_lt (level k) (level l)) (dec_lt (level l) (level k))
    where
      go : Dec (level k < level l) → Dec (level l < level k) → k ≡ l
      go (yes h) g = absurd (apart f k l mk ml hk hl h)
      go (no h) (yes g) = absurd (apart f l k ml mk hl hk g)
      go (no h) (no g) = sym hk ∙ ap (λ (n : ℕ). f / n) (volume_level k l (omega arith)) ∙ hl

  -- the ancestor i levels up holds f
  ancestor_holds : (f i : ℕ) → Cell D f → i ≤ D → f / volume D (f / 8 ^ i) ≡ f / 8 ^ i
  unfolding volume
  ancestor_holds f i c h =
      let e : D ≡ D - i + i = omega arith in
      let u : Cell (D - i) (f / 8 ^ i) = cell_up i (D - i) f (subst (λ (n : ℕ). Cell n f) e c) in
      let l : level (f / 8 ^ i) ≡ D - i = cell_level (D - i) (f / 8 ^ i) (omega arith) u in
      ap (λ (n : ℕ). f / 8 ^ n) (omega arith)

  leaf_once : (f : ℕ) → Cell D f → holders D f ls ≡ 1
  leaf_once f c = go (descend f c D (le_refl D) (in_cast (cell_lead D f c) t.first))
    where
      go : (i : ℕ) × (i ≤ D) × In (f / 8 ^ i) ls → holders D f ls ≡ 1
      go (i, h, m) =
          let k : ℕ = f / 8 ^ i in
          let e : f / volume D k ≡ k = ancestor_holds f i c h in
          held_once D f 1 ls (leaves_rising D ns ls t) k m (lies_if D f k e) (λ j n l. one_holds f j k n m (lies_is D f j l) e)

  pub shape_covers : Covers D ls
  shape_covers = covers_once D ls (leaf_cells D ns ls t) leaf_once
