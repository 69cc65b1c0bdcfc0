-- The walk over a sound tree finds its vertices: so the list of one who trusts is the list. Assumes nothing.
use Rattle.std.specs.Prelude.{Result, Ok, Err}
use Prim.Native.Nat.{ℕ, zero, suc, ◌+◌, ◌*◌, ◌-◌, ◌^◌, ◌≤◌, ◌<◌}
use mathlib.Core.Path.{◌≡◌, sym, ◌∙◌, ap, subst}
use mathlib.Core.Bool.{true, false, true≢false}
use mathlib.Core.Logic.{inr}
use mathlib.Core.List.{List, [], ◌++◌}
use native.Mathlib.Nat.{mul-le-mul_right, add-mul, mul_assoc, mul_comm, pow-suc}
use native.Mathlib.Decide.{dec_lt}
use native.Mathlib.Omega.{arith}
use lib.Dec.{leb, ltb}
use borrow.Author.Tests.{ltb-true, lt-ltb, leb-true, le-leb}
use Rattle.morton.specs.Level.{deepest, limit, Cell, level}
use Rattle.morton.proofs.Cells.{child_cell}
use Rattle.morton.proofs.Levels.{and_true, cell_lt, eight_mono}
use Rattle.tree.specs.Tree.{Tree, Sound}
use Rattle.tree.specs.Down.{Nodes}
use Rattle.tree.proofs.Finding.{nodes}
use Rattle.tree.proofs.Pass.{said}
use Rattle.geometry.specs.Listing.{Listed}
use Rattle.refusals.specs.declared.Refusal.{Refusal}
use Rattle.vertices.specs.Walk.{split_at, entry, Spot, in_turn, low_corner, divided, meets, ending, spots_of, vertices_of, levels_of}
use Rattle.vertices.specs.Listing.{Lists, Room, ListSays, TrustingSays}
use Rattle.vertices.proofs.Blocks.{some_if, some_is, all_if, all_is, walk_ind, ending_by, undivided, vertices_append, levels_append, vertices_length}
use Rattle.vertices.proofs.Sound.{SoundKeys, SplitAt, Fresh, Block, block_of, fresh_child}
use Rattle.vertices.proofs.Spot.{Meets, corner_next}
use Rattle.vertices.proofs.Range.{Ranged, joined, ranged_empty, none_here, one_here, all_listed}

-- ---- the low corners of a cell's children

pub corner_add : (l c q : ℕ) → low_corner l (c + q) ≡ low_corner l c + q * 8 ^ (deepest - l)
unfolding low_corner
corner_add l c q = add-mul c q (8 ^ (deepest - l))

module _ (l c : ℕ) (h : l < deepest) where
  pub corner_first : low_corner (suc l) (8 * c) ≡ low_corner l c
  unfolding low_corner
  corner_first =
      ap (λ (n : ℕ). n * 8 ^ (deepest - suc l)) (mul_comm 8 c) ∙ mul_assoc c 8 (8 ^ (deepest - suc l)) ∙ ap (λ (n : ℕ). c * n) (sym unit)
    where
      unit : 8 ^ (deepest - l) ≡ 8 * 8 ^ (deepest - suc l)
      unit = let s : deepest - l ≡ suc (deepest - suc l) = omega arith in ap (λ (n : ℕ). 8 ^ n) s ∙ omega (arith, pow-suc 8 (deepest - suc l))

  pub corner_le : (q : ℕ) → low_corner l c ≤ low_corner (suc l) (8 * c + q)
  corner_le q = omega (arith, corner_add (suc l) (8 * c) q, corner_first)

pub corner_last : (l c : ℕ) → l < deepest → low_corner (suc l) (8 * c + 8) ≡ low_corner l (c + 1)
corner_last l c h = ap (low_corner (suc l)) (omega arith) ∙ corner_first l (c + 1) h

pub corner_mono : (l b c : ℕ) → b ≤ c → low_corner l b ≤ low_corner l c
unfolding low_corner
corner_mono l b c h = mul-le-mul_right {m = b} {n = c} (8 ^ (deepest - l)) h

-- ---- the walk

module _ (ks : Nodes) where
  pub meets_is : (l c : ℕ) → meets ks l c ≡ true → Meets ks l c
  unfolding meets
  meets_is l c e =
      let b = and_true _ _ e in
      let s = some_is (λ o. leb (8 ^ l) (entry ks l c o)) 8 b.1 in
      record {
        full = λ o ho. ltb-true 0 _ (all_is (λ o. ltb 0 (entry ks l c o)) 8 b.0 o ho);
        fine = (s.0, s.1, leb-true (8 ^ l) _ s.2);
      }

  meets_if : (l c : ℕ) → Meets ks l c → meets ks l c ≡ true
  unfolding meets
  meets_if l c m =
      rw (all_if (λ o. ltb 0 (entry ks l c o)) 8 (λ o ho. lt-ltb 0 _ (m.full o ho)))
      (some_if (λ o. leb (8 ^ l) (entry ks l c o)) 8 m.fine.0 m.fine.1 (le-leb (8 ^ l) _ m.fine.2))

  -- the vertices of some of the walk lie from lo up to hi
  abbrev Spots : ℕ → ℕ → List Spot → Type 0
  Spots lo hi ss = Ranged ks lo hi (vertices_of ss) (levels_of ss)

  module _ (t : SoundKeys ks) where
    -- a divided cell is above the limit
    pub divided_lt : (l c : ℕ) → Fresh ks l c → divided ks l c ≡ true → l < limit
    unfolding divided
    divided_lt l c f d =
        let o = some_is (λ o. split_at ks l (entry ks l c o)) 8 d in
        let s : SplitAt ks l (entry ks l c o.0) = said _ _ o.2 ((block_of ks t l c f).marks o.0 o.1) in
        let k : 8 * entry ks l c o.0 < 2 * 8 ^ limit = cell_lt (level (8 * entry ks l c o.0)) limit _ (t.sound.cells _ s.split).0 (t.sound.cells _ s.split).1 in
        elim (dec_lt l limit) [
          | yes y ↦ y
          | no n ↦ absurd (omega (arith, s.deep, k, eight_mono {i = limit} {j = l} (omega arith)))
        ]

    -- what holds of the walk over a sound tree
    pub walk_sound : (P : ℕ → ℕ → List Spot → Type 0)
        → ((l c : ℕ) → l ≤ limit → Cell l c × Fresh ks l c → divided ks l c ≡ false → P l c (ending ks l c))
        → ((l c : ℕ) → l < limit → (g : ℕ → List Spot) → ((q : ℕ) → q < 8 → P (suc l) (8 * c + q) (g q)) → P l c (in_turn g 8))
        → P 0 1 (spots_of ks)
    unfolding spots_of
    walk_sound P end on =
        walk_ind ks (λ l c. Cell l c × Fresh ks l c) P
        (λ l c q h a d. (child_cell l c q a.0 (omega arith), fresh_child ks l c q h d)) end
        (λ l c e a d. absurd (omega (arith, divided_lt l c a.1 d))) on limit 0 1 (omega arith)
        (record { low = omega arith; high = omega arith }, λ z. absurd (omega arith))

    spots_end : (l c : ℕ) → l ≤ limit → Cell l c × Fresh ks l c → divided ks l c ≡ false
        → Spots (low_corner l c) (low_corner l (c + 1)) (ending ks l c)
    unfolding vertices_of levels_of
    spots_end l c hl a d =
        let blk : Block ks l c = block_of ks t l c a.1 in
        ending_by ks l c (Spots (low_corner l c) (low_corner l (c + 1))) (λ e. one_here ks t l c hl a.0 blk (undivided ks l c d) (meets_is l c e))
        (λ e. none_here ks t l c hl a.0 blk (undivided ks l c d) (λ m. true≢false (sym (meets_if l c m) ∙ e)))

    -- one range after another
    spots_join : (l c n : ℕ) (ss ts : List Spot) → l < deepest → Spots (low_corner l c) (low_corner (suc l) (8 * c + n)) ss
        → Spots (low_corner (suc l) (8 * c + n)) (low_corner (suc l) (8 * c + n + 1)) ts → Spots (low_corner l c) (low_corner (suc l) (8 * c + suc n)) (ss ++ ts)
    spots_join l c n ss ts hl a b =
        let e : 8 * c + n + 1 ≡ 8 * c + suc n = omega arith in
        subst (λ (k : ℕ). Spots (low_corner l c) (low_corner (suc l) k) (ss ++ ts)) e
        (rw (vertices_append ss ts, levels_append ss ts)
        (joined ks _ _ _ (vertices_of ss) (levels_of ss) (vertices_of ts) (levels_of ts) a b (corner_le l c hl n) (omega (arith, corner_next (suc l) (8 * c + n)))))

    spots_turn : (l c n : ℕ) (g : ℕ → List Spot) → l < deepest → n ≤ 8
        → ((q : ℕ) → q < 8 → Spots (low_corner (suc l) (8 * c + q)) (low_corner (suc l) (8 * c + q + 1)) (g q))
        → Spots (low_corner l c) (low_corner (suc l) (8 * c + n)) (in_turn g n)
    unfolding in_turn vertices_of levels_of
    spots_turn l c zero g hl hn each =
        let e : low_corner l c ≡ low_corner (suc l) (8 * c + 0) = sym (corner_first l c hl) ∙ ap (low_corner (suc l)) (omega arith) in
        subst (λ (k : ℕ). Ranged ks (low_corner l c) k [] []) e (ranged_empty ks (low_corner l c))
    spots_turn l c (suc n) g hl hn each = spots_join l c n (in_turn g n) (g n) hl (spots_turn l c n g hl (omega arith) each) (each n (omega arith))

    spots_walked : Spots (low_corner 0 1) (low_corner 0 2) (spots_of ks)
    spots_walked =
        walk_sound (λ l c. Spots (low_corner l c) (low_corner l (c + 1))) spots_end
        (λ l c h g each.
        subst (λ (k : ℕ). Spots (low_corner l c) k (in_turn g 8)) (corner_last l c (omega arith))
        (spots_turn l c 8 g (omega arith) (omega arith) each))

-- ---- the whole tree

pub spots_listed : (t : Tree) → Sound t → Listed t.leaves (vertices_of (spots_of (nodes t))) (levels_of (spots_of (nodes t)))
spots_listed t s =
    all_listed (nodes t) t.distances t.leaves s (vertices_of (spots_of (nodes t))) (levels_of (spots_of (nodes t)))
    (spots_walked (nodes t) (record { distances = t.distances; leaves = t.leaves; sound = s }))

-- of a sound tree the list of one who trusts is the list
pub trusting_list : (t : Tree) → Sound t → (start : ℕ) (was left : Lists) (r : Result ℕ Refusal) → TrustingSays (nodes t) start was left r
    → ListSays t start was left r
trusting_list t s start was left (Ok n) a = (
  s,
  record {
    vs = vertices_of (spots_of (nodes t));
    ls = levels_of (spots_of (nodes t));
    listed = spots_listed t s;
    count = a.0 ∙ sym (vertices_length (spots_of (nodes t)));
    room = a.1;
    vertices_are = ap (λ (x : Lists). x.vertices) a.2;
    levels_are = ap (λ (x : Lists). x.levels) a.2;
  },
)
trusting_list t s start was left (Err e) a = (
  a.0,
  inr (
    s,
    record {
      vs = vertices_of (spots_of (nodes t));
      ls = levels_of (spots_of (nodes t));
      listed = spots_listed t s;
      no_room = λ r. a.1 (subst (λ (n : ℕ). Room start n was) (vertices_length (spots_of (nodes t))) r);
    },
    a.2,
  ),
)
