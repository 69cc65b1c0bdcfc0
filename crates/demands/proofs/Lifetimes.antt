-- What is told of how long leaves are needed: specs/Lifetimes.antt, proved. Assumes nothing.
use Prim.Native.Nat.{ℕ, zero, suc, ◌+◌, ◌-◌, ◌*◌, ◌/◌, ◌%◌, ◌^◌, ◌≤◌, ◌<◌, min}
use mathlib.Core.Path.{◌≡◌, refl, sym, ◌∙◌, ap, subst, subst₂}
use mathlib.Core.Bool.{Bool, true, false, cond, ◌&&◌}
use mathlib.Core.Logic.{inl, ◌⊎◌, inr, ⊎_elim}
use mathlib.Core.List.{List}
use native.Mathlib.Nat.{mul-pos}
use native.Mathlib.Omega.{arith}
use borrow.Author.Tests.{leb-true, leb-false}
use lib.Dec.{leb}
use lib.ListN.{length, get_or, drop, get_or-append}
use lib.Pow.{pow_pos}
use Rattle.std.specs.Prelude.{Ok}
use Rattle.refusals.specs.Refusals.{number}
use Rattle.morton.specs.Field.{coord, key}
use Rattle.morton.specs.Level.{deepest, limit, level, Cell}
use Rattle.morton.specs.Vertex.{corner_at, vertex_of}
use Rattle.morton.proofs.Fields.{bit_le, coord_lt, coord_child, key_cell}
use Rattle.morton.proofs.Levels.{eight_pos}
use Rattle.morton.proofs.Vertices.{inside_if, vertex_if}
use Rattle.tree.specs.Tree.{Tree, In, Sound}
use Rattle.tree.proofs.Lists.{in_at, in_stands, in_cast}
use Rattle.geometry.specs.Grid.{sum}
use Rattle.geometry.specs.Listing.{given}
use Rattle.geometry.proofs.Lookup.{root_leaf}
use Rattle.geometry.proofs.Offsets.{rest_bit}
use Rattle.geometry.proofs.Shape.{cell_pos, child_is, sound_shape}
use Rattle.vertices.specs.Listing.{Lists, written, ListSays}
use Rattle.vertices.proofs.Law.{spots_listed}
use Rattle.dual.specs.declared.Dual.{Dual}
use Rattle.dual.specs.Dual.{DualCell, DualSays}
use Rattle.dual.proofs.Filling.{sum_ext}
use Rattle.slabs.specs.Heights.{reach, SlabsSays}
use Rattle.lifetimes.specs.Needed.{CellOf, SpanOf, Never, how_many, needed_at, Reports, Reported}
use Rattle.lifetimes.proofs.Leaves.{leaves_count}
use Rattle.lifetimes.proofs.Cells.{vertices, levels, CellAt, cell_at_lem}
use Rattle.lifetimes.proofs.Joining.{cell_of}
use Rattle.demands.specs.Lifetimes.{first_of, last_of, LeafKept, vertex_at, level_at, Lifetimes, LifetimesOfTrees, LifetimesRefused}
use Rattle.demands.proofs.Reading.{vertices_at, levels_at}
use Rattle.demands.proofs.Slabs.{leaf_at, its_own, reaching, slabs_of_trees}

-- ---- counting twice

-- how many pass, added to a sum
sum_more : (f : ℕ → ℕ) (test : ℕ → Bool) (n : ℕ) → sum (λ x. f x + cond (test x) 1 0) n ≡ sum f n + how_many test n
unfolding sum how_many
sum_more f test zero = refl
sum_more f test (suc n) = omega (arith, sum_more f test n)

sum_none : (n : ℕ) → sum (λ x. 0) n ≡ 0
unfolding sum
sum_none zero = refl
sum_none (suc n) = omega (arith, sum_none n)

-- the same by rows and by columns
both_ways : (test : ℕ → ℕ → Bool) (n m : ℕ) → sum (λ x. how_many (test x) m) n ≡ sum (λ i. how_many (λ x. test x i) n) m
unfolding sum how_many
both_ways test n zero = sum_none n
both_ways test n (suc m) = sum_more (λ x. how_many (test x) m) (λ x. test x m) n ∙ omega (arith, both_ways test n m)

-- how many numbers below n lie from a to b
from_to : (a b n : ℕ) → how_many (λ x. leb a x && leb x b) n ≡ min n (b + 1) - a
unfolding how_many
from_to a b zero = omega arith
from_to a b (suc n) = go (leb a n) (leb n b) refl refl (from_to a b n)
  where
    go : {k : ℕ} (p q : Bool) → leb a n ≡ p → leb n b ≡ q → k ≡ min n (b + 1) - a → k + cond (p && q) 1 0 ≡ min (suc n) (b + 1) - a
    go true true e f h = omega (arith, leb-true a n e, leb-true n b f)
    go true false e f h = omega (arith, leb-false n b f)
    go false q e f h = omega (arith, leb-false a n e)

-- of one leaf alone that is never needed
no_count : (firsts lasts : List ℕ) (slab : ℕ) → get_or firsts 0 0 ≡ 1 → get_or lasts 0 0 ≡ 0 → how_many (needed_at firsts lasts slab) 1 ≡ 0
unfolding how_many
no_count firsts lasts slab e f = go (leb (get_or firsts 0 0) slab) (leb slab (get_or lasts 0 0)) refl refl
  where
    go : (p q : Bool) → leb (get_or firsts 0 0) slab ≡ p → leb slab (get_or lasts 0 0) ≡ q → 0 + cond (p && q) 1 0 ≡ 0
    go true true x y = absurd (omega (arith, leb-true (get_or firsts 0 0) slab x, leb-true slab (get_or lasts 0 0) y))
    go true false x y = refl
    go false q x y = refl

-- ---- each leaf has a cell, unless it is the root

-- the middle of a cell is a corner of each of its children, and lies strictly inside the cube
middle : (l n c : ℕ) → suc l ≤ 20 → c < 8 → 0 < vertex_of (suc l) (8 * n + c) (7 - c)
middle l n c h less =
    let at : ℕ → ℕ = corner_at (suc l) (8 * n + c) (7 - c) in
    let odd : (a : ℕ) → a < 3 → at a ≡ 2 * coord l n a + 1 = λ a m.
    omega (arith, coord_child l n c a (omega arith) m, rest_bit c less a m, bit_le a c) in
    let e = vertex_if (suc l) (8 * n + c) (7 - c) h true
    (inside_if (suc l) at (λ a m. (omega (arith, odd a m), omega (arith, odd a m, coord_lt l n a)))) in
    subst (λ (x : ℕ). 0 < x) (sym e) (mul-pos (cell_pos (suc l) (key (suc l) at) (key_cell (suc l) at)) (eight_pos (deepest - suc l)))

module _ (t : Tree) (S : Sound t) (more : 1 < length t.keys) where
  -- no leaf is the root, so each gives its parent's middle
  gives : (k : ℕ) → In k t.leaves → 0 < given k (7 - k % 8)
  gives k leaf = let c = S.cells k (S.leaves_childless k leaf).0 in go (level k) c.0 c.1
    where
      go : (l : ℕ) → Cell l k → l ≤ limit → 0 < vertex_of l k (7 - k % 8)
      go zero c h =
          let one : 1 ≡ k = omega (arith, c.low, c.high) in
          let other = root_leaf limit t.keys t.leaves (sound_shape t S) (get_or t.keys 1 0) (in_cast one leaf) (in_at t.keys 1 more) in
          absurd (omega (arith, other, S.ascending 0 1 (omega arith) more, S.first.here))
      go (suc l) c h =
          subst (λ (n : ℕ). 0 < vertex_of (suc l) n (7 - k % 8)) (child_is (k / 8) k refl) (middle l (k / 8) (k % 8) (omega arith) (omega arith))

  -- it is listed, and the leaf is an entry of its dual cell
  cell_with : (s : ℕ) → s ≤ limit → (k : ℕ) → In k t.leaves → (first : ℕ) × (last : ℕ) × CellOf t s k first last
  cell_with s small k leaf =
      let w : 7 - k % 8 < 8 = omega arith in
      let m : In (given k (7 - k % 8)) (vertices t) = (spots_listed t S).whole k (7 - k % 8) leaf w (gives k leaf) in
      let c : CellAt t m.place = cell_at_lem t S m.place m.inside in
      let own = its_own t S (vertices t) (levels t) (spots_listed t S) m.place m.inside c.dual k (7 - k % 8) leaf w (sym m.here) in
      let entry : In k c.keys = record { place = 7 - k % 8; inside = omega (arith, c.dual.eight_keys); here = own } in
      let (first, last, _, cell) = cell_of t S s small m.place m.inside c k entry in
      (first, last, cell)

-- ---- what stands in the report

written_at : (was xs : List ℕ) (i : ℕ) → i < length xs → get_or (written was 0 xs) i 0 ≡ get_or xs i 0
written_at was xs i h = get_or-append xs (drop (0 + length xs) was) 0 i h

module _ (t : Tree) (s : ℕ) (was left : Reports) (most : ℕ) (S : Sound t) (small : s ≤ limit) (r : Reported t s was left most) where
  first_at_lem : (i : ℕ) → i < length t.leaves → first_of left i ≡ get_or r.firsts i 0
  first_at_lem i h = ap (λ (x : Reports). first_of x i) r.left_is ∙ written_at was.first r.firsts i (omega (arith, r.spans.as_many_firsts))

  last_at : (i : ℕ) → i < length t.leaves → last_of left i ≡ get_or r.lasts i 0
  last_at i h = ap (λ (x : Reports). last_of x i) r.left_is ∙ written_at was.last r.lasts i (omega (arith, r.spans.as_many_lasts))

  needed_at_lem : (slab : ℕ) → slab < 2 ^ s → get_or left.needed slab 0 ≡ get_or r.counts slab 0
  needed_at_lem slab h =
      ap (λ (x : Reports). get_or x.needed slab 0) r.left_is ∙ written_at was.needed r.counts slab (omega (arith, r.needed.as_many))

  count_at_lem : (slab : ℕ) → slab < 2 ^ s → get_or left.needed slab 0 ≡ how_many (needed_at r.firsts r.lasts slab) (length t.leaves)
  count_at_lem slab h = needed_at_lem slab h ∙ r.needed.each slab h ∙ ap (how_many (needed_at r.firsts r.lasts slab)) r.spans.as_many_firsts

  abbrev leaf : ℕ → ℕ
  leaf i = get_or t.leaves i 0

  span_at_lem : (i : ℕ) → i < length t.leaves → SpanOf t s (leaf i) (first_of left i) (last_of left i) ⊎ Never t s (leaf i) (first_of left i) (last_of left i)
  span_at_lem i h = subst₂ (λ (x y : ℕ). SpanOf t s (leaf i) x y ⊎ Never t s (leaf i) x y) (sym (first_at_lem i h)) (sym (last_at i h)) (r.spans.each i h)

  -- a cell's first slab is no higher than its last, which is one of 2^s
  in_order_lem : {k first last : ℕ} → CellOf t s k first last → (first ≤ last) × (last < 2 ^ s)
  in_order_lem {k} {first} {last} c = (slabs_of_trees t).order c.level c.vertex s first last c.slabs

  last_in : {k first last : ℕ} → SpanOf t s k first last → last < 2 ^ s
  last_in a = (in_order_lem a.to.one_of.1).1

  -- ---- of a tree that isn't the root alone

  spanned : 1 < length t.keys → (i : ℕ) → i < length t.leaves → SpanOf t s (leaf i) (first_of left i) (last_of left i)
  spanned more i h =
      ⊎_elim (λ a. a) (λ n. let (first, last, c) = cell_with t S more s small (leaf i) (in_at t.leaves i h) in absurd (n.none first last c)) (span_at_lem i h)

  every : 1 < length t.keys → (i : ℕ) → i < length t.leaves → (first_of left i ≤ last_of left i) × (last_of left i < 2 ^ s)
  every more i h =
      let a = spanned more i h in
      let (last, c) = a.from.one_of in
      (omega (arith, (in_order_lem c).0, a.to.greatest last (first_of left i, c)), last_in a)

  -- ---- a listed cell's nodes are kept

  kept_at : (k first last slab : ℕ) (m : In k t.leaves) → CellOf t s k first last → first ≤ slab → slab ≤ last → LeafKept t left slab k
  kept_at k first last slab m c from to =
      let mine : CellOf t s (leaf m.place) first last = subst (λ (x : ℕ). CellOf t s x first last) (sym m.here) c in
      ⊎_elim
      (λ a. record {
        number = m.place;
        leaf = in_stands m;
        kept = record { from = omega (arith, a.from.least first (last, mine)); to = omega (arith, a.to.greatest last (first, mine)) };
      })
      (λ n. absurd (n.none first last mine)) (span_at_lem m.place m.inside)

  in_time : (start n : ℕ) (before after : Lists) → ListSays t start before after (Ok n) → (j : ℕ) → j < n
      → (first last : ℕ) → SlabsSays t (level_at after start j) (vertex_at after start j) s (reach first last)
      → (c : Dual) → DualSays t (level_at after start j) (vertex_at after start j) c.keys c.distances c.places c.tried
      → (slab : ℕ) → first ≤ slab → slab ≤ last → (o : ℕ) → o < 8 → LeafKept t left slab (get_or c.keys o 0)
  in_time start n before after (_, w) j h first last says c cell slab from to o l =
      let v = vertices_at t start n before after w j h in
      let e = levels_at t start n before after w j h in
      let inside : j < length w.vs = omega (arith, w.count) in
      let (_, _, (tried, d), _) = reaching t says c cell in
      kept_at (get_or c.keys o 0) first last slab
      (leaf_at t S w.vs w.ls w.listed j inside
      (subst₂ (λ (L x : ℕ). DualCell t L x c.keys c.distances c.places tried) e v d) o l)
      (record {
        vertex = vertex_at after start j;
        level = level_at after start j;
        listed = record {
          vertices = w.vs;
          levels = w.ls;
          list = w.listed;
          place = j;
          its_vertex = record { inside = inside; here = sym v };
          its_level = record { inside = omega (arith, w.listed.paired); here = sym e };
        };
        has = record {
          keys = c.keys;
          distances = c.distances;
          places = c.places;
          tried = tried;
          cell = d;
          entry = in_at c.keys o (omega (arith, d.eight_keys));
        };
        slabs = says;
      })
      from to

  -- ---- counts

  adds_up : sum (λ slab. get_or left.needed slab 0) (2 ^ s) ≡ sum (λ i. last_of left i + 1 - first_of left i) (length t.leaves)
  adds_up =
      sum_ext (λ slab. get_or left.needed slab 0) (λ slab. how_many (needed_at r.firsts r.lasts slab) (length t.leaves)) (2 ^ s) count_at_lem
      ∙ both_ways (needed_at r.firsts r.lasts) (2 ^ s) (length t.leaves)
      ∙ sum_ext (λ i. how_many (λ slab. needed_at r.firsts r.lasts slab i) (2 ^ s)) (λ i. last_of left i + 1 - first_of left i) (length t.leaves) long
    where
      long : (i : ℕ) → i < length t.leaves → how_many (λ slab. needed_at r.firsts r.lasts slab i) (2 ^ s) ≡ last_of left i + 1 - first_of left i
      long i h =
          let below : last_of left i < 2 ^ s = ⊎_elim (λ a. last_in a) (λ n. omega (arith, n.to, pow_pos s)) (span_at_lem i h) in
          omega (arith, from_to (get_or r.firsts i 0) (get_or r.lasts i 0) (2 ^ s), first_at_lem i h, last_at i h)

  reached : (slab : ℕ) × (slab < 2 ^ s) × (get_or left.needed slab 0 ≡ most)
  reached =
      let m = r.needed.greatest.one_of in
      let inside : m.place < 2 ^ s = omega (arith, m.inside, r.needed.as_many) in
      (m.place, inside, needed_at_lem m.place inside ∙ m.here)

  none_above : (slab : ℕ) → slab < 2 ^ s → get_or left.needed slab 0 ≤ most
  none_above slab h =
      omega (
        arith,
        needed_at_lem slab h,
        r.needed.greatest.greatest (get_or r.counts slab 0) (in_at r.counts slab (omega (arith, r.needed.as_many))),
      )

  -- ---- the root alone

  root_alone : length t.keys ≡ 1 → (first_of left 0 ≡ 1) × (last_of left 0 ≡ 0) × (most ≡ 0)
  root_alone alone =
      let one : length t.leaves ≡ 1 = sym (leaves_count t S) ∙ omega arith in
      let h : 0 < length t.leaves = omega arith in
      let n : Never t s (leaf 0) (first_of left 0) (last_of left 0) = ⊎_elim (λ a. absurd (no_cell a.from.one_of)) (λ n. n) (span_at_lem 0 h) in
      let (slab, inside, is) = reached in
      let none = no_count r.firsts r.lasts slab (sym (first_at_lem 0 h) ∙ n.from) (sym (last_at 0 h) ∙ n.to) in
      (n.from, n.to, sym is ∙ count_at_lem slab inside ∙ ap (how_many (needed_at r.firsts r.lasts slab)) one ∙ none)
    where
      no_cell : {k first : ℕ} → (last : ℕ) × CellOf t s k first last → ⊥
      no_cell {k} {first} (last, c) = ((slabs_of_trees t).answered c.level c.vertex s first last c.slabs).1 (inr alone)

  told : Lifetimes t s left most
  told =
      record {
        every = every;
        in_time = in_time;
        no_longer = λ more i h. let a = spanned more i h in (a.from.one_of, a.to.one_of);
        root_alone = root_alone;
        adds_up = adds_up;
        reached = reached;
        none_above = none_above;
      }

pub lifetimes_of_trees : LifetimesOfTrees
lifetimes_of_trees t s was left most (S, small, _, r) = told t s was left most S small r

-- why a call is refused is said in its promise, with the limit for 15
pub lifetimes_refused : LifetimesRefused
lifetimes_refused t s was left k (stays, why) =
    (stays, ⊎_elim (λ x. inl (x.0, ap number x.1)) (λ x. inr (⊎_elim (λ y. inl (y.0, y.1, ap number y.2)) (λ y. inr (y.0, y.1, y.2, ap number y.3)) x)) why)
