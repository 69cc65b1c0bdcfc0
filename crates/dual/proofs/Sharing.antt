-- The ways down that sides share: those of one parent need one way alone, and what it comes to tells the entries of them all. Assumes nothing.
use Prim.Native.Nat.{ℕ, zero, suc, ◌+◌, ◌-◌, ◌*◌, ◌/◌, ◌%◌, ◌^◌, ◌≤◌, ◌<◌}
use mathlib.Core.Path.{◌≡◌, refl, sym, ◌∙◌, ap, ap₂, subst}
use mathlib.Core.Bool.{Bool, true, ◌&&◌, true≢false}
use mathlib.Core.Logic.{inl, ⊎_elim}
use mathlib.Core.List.{List}
use native.Mathlib.Nat.{div-one}
use native.Mathlib.Omega.{arith}
use native.Mathlib.Decide.{ℕ_discrete}
use borrow.Author.Tests.{leb-true, eqb-true}
use lib.Dec.{leb, eqb}
use lib.Bits.{bit_and}
use lib.Ieee.{Float, of_bits, binary32}
use lib.ListN.{length, get_or, set, length-set}
use lib.Seq.{get_or-set_same, get_or-set_other}
use Rattle.morton.specs.Field.{sub}
use Rattle.morton.specs.Level.{Cell, level, is_cell}
use Rattle.morton.specs.Vertex.{is_inner, is_inside}
use Rattle.morton.proofs.Fields.{bit_le}
use Rattle.morton.proofs.Levels.{and_true, cell_level, cell_is}
use Rattle.morton.proofs.Sides.{sub_key}
use Rattle.morton.proofs.Vertices.{is_inside_lem, inner_level, inner_low, inner_code}
use Rattle.std.specs.Prelude.{Result}
use Rattle.refusals.specs.declared.Refusal.{Refusal}
use Rattle.tree.specs.declared.Lookup.{Lookup}
use Rattle.tree.specs.declared.Node.{Node}
use Rattle.tree.specs.Down.{Nodes, NodeOver, NodeSays}
use Rattle.tree.specs.Climb.{distance_at, trusting_of}
use Rattle.tree.proofs.Down.{place_le}
use Rattle.tree.proofs.Lists.{order}
use Rattle.tree.proofs.Finding.{says_over, in_row, in_one, nothing_at, found_at}
use Rattle.geometry.specs.Near.{near}
use Rattle.geometry.proofs.Offsets.{Within, kept_lt, kept_none, kept_again, flip_lt, near_cell, within_up, near_step}
use Rattle.dual.specs.Dual.{lookup_at, EntrySays, EntryFor}

-- ---- the ways, one after another, from the highest side on

-- a test that holds of all numbers below n
abbrev below : (ℕ → Bool) → ℕ → Bool
below f zero = true
below f (suc n) = f n && below f n

below_at : (f : ℕ → Bool) (n : ℕ) → below f n ≡ true → (k : ℕ) → k < n → f k ≡ true
below_at f zero e k h = absurd (omega arith)
below_at f (suc n) e k h =
    elim (ℕ_discrete k n) [
      | yes z ↦ subst (λ (m : ℕ). f m ≡ true) (sym z) (and_true (f n) (below f n) e).0
      | no z ↦ below_at f n (and_true (f n) (below f n) e).1 k (omega arith)
    ]

-- i is no more than what m keeps without the bits of r, unless m + 1 or i has one of them, or i is above m
abbrev passes_none : ℕ → ℕ → ℕ → Bool
passes_none r m i = leb i (bit_and m (7 - r) + 8 * (bit_and (suc m) r + bit_and i r + (i - m)))

tested : below (λ r. below (λ m. below (passes_none r m) 8) 8) 8 ≡ true
tested = refl

passes : (r m i : ℕ) → r < 8 → m < 8 → i < 8 → passes_none r m i ≡ true
passes r m i hr hm hi =
    below_at (passes_none r m) 8 (below_at (λ n. below (passes_none r n) 8) 8 (below_at (λ x. below (λ n. below (passes_none x n) 8) 8) 8 tested r hr) m hm) i hi

-- of the numbers below n without a bit of r, the greatest is what n - 1 keeps, n being one of them
none_passed : (r n i : ℕ) → r < 8 → n ≤ 8 → bit_and n r ≡ 0 → bit_and i r ≡ 0 → i < n → i ≤ bit_and (n - 1) (7 - r)
none_passed r zero i hr hn e f h = absurd (omega arith)
none_passed r (suc m) i hr hn e f h =
    let one : suc m - 1 ≡ m = omega arith in
    rw one (omega (arith, leb-true i (bit_and m (7 - r) + 8 * (bit_and (suc m) r + bit_and i r + (i - m))) (passes r m i hr hn (omega arith)), e, f))

no_eight : (r : ℕ) → r < 8 → bit_and 8 r ≡ 0
no_eight r h = eqb-true (bit_and 8 r) 0 (below_at (λ x. eqb (bit_and 8 x) 0) 8 refl r h)

-- what stands where no way was taken
abbrev pub none : Node
none = record { level = 0; place = 0 }

-- of the sides from n on, for each that is lower on no axis on which q is odd: the node over the first of the eight cells that it is one of, by level and
-- place; n is such a side, or 8
pub record Told (ns : Nodes) (L q n : ℕ) (ways : List Node) : Type 0 where
  pub most : n ≤ 8
  pub on_even : bit_and n (q % 8) ≡ 0
  pub eight : length ways ≡ 8
  pub way : (j : ℕ) → n ≤ j → j < 8 → bit_and j (q % 8) ≡ 0 → NodeSays ns L (8 * (sub q j / 8)) (get_or ways j none).level (get_or ways j none).place

module _ (ns : Nodes) (L q : ℕ) where
  pub told_none : (ways : List Node) → length ways ≡ 8 → Told ns L q 8 ways
  told_none ways e = record { most = omega arith; on_even = no_eight (q % 8) (omega arith); eight = e; way = λ j h g. absurd (omega arith) }

  -- the side before n
  module _ (n : ℕ) (ways : List Node) (t : Told ns L q n ways) where
    abbrev before : ℕ
    before = bit_and (n - 1) (7 - q % 8)

    pub before_in : before < 8
    before_in = kept_lt (n - 1) (q % 8) (omega (arith, t.most))

    pub told_more : (side : ℕ) (way : Node) → side ≡ sub q before → NodeSays ns L (8 * (side / 8)) way.level way.place → Told ns L q before (set ways before way)
    told_more side way is s =
        record {
          most = omega (arith, before_in);
          on_even = kept_none (n - 1) (q % 8) (omega (arith, t.most)) (omega arith);
          eight = length-set ways before way ∙ t.eight;
          way = λ j f g e. elim (ℕ_discrete before j) [
            | yes z ↦ subst (λ (i : ℕ). NodeSays ns L (8 * (sub q i / 8)) (get_or (set ways before way) i none).level (get_or (set ways before way) i none).place) z
                (rw (get_or-set_same ways before way none (omega (arith, before_in, t.eight)), ← is) s)
            | no z ↦ let o : j ≡ before → ⊥ = λ y. z (sym y) in
                rw (get_or-set_other ways before j way none o)
                (t.way j (passed j f e z) g e)
          ];
        }
      where
        passed : (j : ℕ) → before ≤ j → bit_and j (q % 8) ≡ 0 → (before ≡ j → ⊥) → n ≤ j
        passed j f e z =
            ⊎_elim (λ b. absurd (z (omega (arith, none_passed (q % 8) n j (omega arith) t.most t.on_even e b)))) (λ b. b) (order j n)

-- ---- an entry, from the node over the first of its eight cells

module _ (ns : Nodes) (x l place : ℕ) where
  row : (L : ℕ) → 1 ≤ L → l ≡ L → NodeOver ns L (8 * (x / 8)) l place → NodeOver ns L x l (place + x % 8)
  row zero h e v = absurd (omega arith)
  row (suc L) h e v = in_row ns L x l place v e

  one : (L : ℕ) → l < L → NodeOver ns L (8 * (x / 8)) l place → NodeOver ns L x l place
  one zero h v = absurd (omega arith)
  one (suc L) h v = in_one ns L x l place v (omega arith)

module _ (ds : List Float) (L x l place : ℕ) (h : L ≤ 20) (c : Cell L x) where
  own : L ≡ level x
  own = sym (cell_level L x (omega arith) c)

  cell : is_cell x ≡ true
  cell = cell_is L x (omega arith) c

  says : (ns : Nodes) (p : ℕ) → NodeOver ns L x l p → NodeSays ns L x l p
  says ns p v = inl (omega arith, v)

  pub entry_nothing : 1 ≤ L → l ≡ 0 → EntryFor ds L x l place 0 (of_bits binary32 0) 0 L
  entry_nothing h1 z ns v =
      subst (λ (r : Result Lookup Refusal). EntrySays r 0 (of_bits binary32 0) 0 L) (nothing_at ns ds x L l place cell own (says ns place (one ns x l place L (omega arith) v)) z)
      (record { its_key = refl; its_distance = refl; its_place = refl; its_tried = refl })

  found : (ns : Nodes) (p k : ℕ) (d : Float) (m : ℕ) → 0 < l → NodeOver ns L x l p → k ≡ x / 8 ^ (L - l) → d ≡ distance_at ds p → m ≡ L - l + 1
      → EntrySays (trusting_of ns ds x) k d p m
  found ns p k d m pos v e f g =
      subst (λ (r : Result Lookup Refusal). EntrySays r k d p m) (found_at ns ds x L l p cell own (says ns p v) pos k d e f)
      (record { its_key = refl; its_distance = refl; its_place = refl; its_tried = g })

  pub entry_row : 0 < l → l ≡ L → (d : Float) → d ≡ distance_at ds (place + x % 8) → EntryFor ds L x l place x d (place + x % 8) 1
  entry_row pos e d f ns v =
      let z : L - l ≡ 0 = omega arith in
      found ns (place + x % 8) x d 1 pos (row ns x l place L (omega arith) e v) (sym (ap (λ (m : ℕ). x / 8 ^ m) z ∙ div-one x)) f (omega arith)

  pub entry_one : 0 < l → l < L → (k : ℕ) (d : Float) → k ≡ x / 8 ^ (L - l) → d ≡ distance_at ds place → EntryFor ds L x l place k d place (L - l + 1)
  entry_one pos g k d e f ns v = found ns place k d (L - l + 1) pos (one ns x l place L g v) e f refl

-- ---- which sides share a way

pub inner_ready : (L v : ℕ) → v < 2 ^ 64 → is_inner L v ≡ true → (1 ≤ L) × (L ≤ 20) × (is_inside L (v / 2 ^ (63 - L * 3)) ≡ true)
inner_ready L v word e = go (ℕ_discrete ((v / 2 ^ (63 - L * 3) * 2 ^ (63 - L * 3)) % 2 ^ 64) v)
  where
    l : (1 ≤ L) × (L ≤ 20)
    l = inner_level L v e

    go : Dec ((v / 2 ^ (63 - L * 3) * 2 ^ (63 - L * 3)) % 2 ^ 64 ≡ v) → (1 ≤ L) × (L ≤ 20) × (is_inside L (v / 2 ^ (63 - L * 3)) ≡ true)
    go (yes c) = (l.0, l.1, inner_code L v l.0 l.1 word c ∙ e)
    go (no f) = absurd (true≢false (sym e ∙ inner_low L v l.0 l.1 word f))

-- the sides of the child r of c
module _ (l c r : ℕ) (h : suc l ≤ 20) (hr : r < 8) (e : is_inside (suc l) (8 * c + r) ≡ true) where
  under : (i : ℕ) → Within (suc l) (8 * c + r) i
  unfolding Within
  under i a g = omega (arith, (is_inside_lem (suc l) (8 * c + r) e).1 a g, bit_le a i)

  side_near : (i : ℕ) → i < 8 → sub (8 * c + r) i ≡ near (suc l) (8 * c + r) i
  unfolding near Within
  side_near i g = sub_key (suc l) (8 * c + r) i (omega arith) (is_inside_lem (suc l) (8 * c + r) e).0 (omega arith) (under i)

  child_side : (i : ℕ) → i < 8 → Cell (suc l) (sub (8 * c + r) i)
  child_side i g = subst (Cell (suc l)) (sym (side_near i g)) (near_cell (suc l) (8 * c + r) i)

  parent : (i : ℕ) → i < 8 → sub (8 * c + r) i / 8 ≡ near l c (bit_and i (7 - r))
  parent i g =
      omega (arith, side_near i g, near_step l c r i hr g (within_up l c r i hr g (under i)), flip_lt r i hr g)

  child_shares : (i : ℕ) → i < 8 → sub (8 * c + r) (bit_and i (7 - r)) / 8 ≡ sub (8 * c + r) i / 8
  child_shares i g = parent (bit_and i (7 - r)) (kept_lt i r g) ∙ ap (near l c) (kept_again i r g hr) ∙ sym (parent i g)

module _ (L q : ℕ) (h1 : 1 ≤ L) (h : L ≤ 20) (e : is_inside L q ≡ true) where
  up : suc (L - 1) ≡ L
  up = omega arith

  digits : 8 * (q / 8) + q % 8 ≡ q
  digits = omega arith

  inside : is_inside (suc (L - 1)) (8 * (q / 8) + q % 8) ≡ true
  inside = ap₂ is_inside up digits ∙ e

  side_in : (i : ℕ) → i < 8 → Cell L (sub q i)
  side_in i g =
      subst (λ (m : ℕ). Cell m (sub q i)) up
      (subst (λ (m : ℕ). Cell (suc (L - 1)) (sub m i)) digits (child_side (L - 1) (q / 8) (q % 8) (omega arith) (omega arith) inside i g))

  shares : (i : ℕ) → i < 8 → sub q (bit_and i (7 - q % 8)) / 8 ≡ sub q i / 8
  shares i g =
      subst (λ (m : ℕ). sub m (bit_and i (7 - q % 8)) / 8 ≡ sub m i / 8) digits (child_shares (L - 1) (q / 8) (q % 8) (omega arith) (omega arith) inside i g)

  -- so the way that is kept serves side i
  module _ (ns : Nodes) (n : ℕ) (ways : List Node) (all : n ≤ 0) (w : Told ns L q n ways) (i : ℕ) (g : i < 8) (side : ℕ) (is : side ≡ sub q i) where
    abbrev kept : ℕ
    kept = bit_and i (7 - q % 8)

    abbrev way : Node
    way = get_or ways kept none

    way_over : NodeOver ns L (8 * (side / 8)) way.level way.place
    way_over =
        subst (λ (m : ℕ). NodeOver ns L (8 * m) way.level way.place) (shares i g ∙ ap (λ (x : ℕ). x / 8) (sym is))
        (says_over ns L _ _ _ (omega arith) (w.way kept (omega arith) (kept_lt i (q % 8) g) (kept_none i (q % 8) g (omega arith))))

    pub way_ready : length ns.keys ≤ 2 ^ 62 → (1 ≤ L) × (L ≤ 20) × (way.level ≤ L) × (way.place ≤ 2 ^ 62) × Cell L side
    way_ready few =
        (h1, h, way_over.no_deeper, omega (arith, way_over.at, place_le ns L (8 * (side / 8))), subst (Cell L) (sym is) (side_in i g))

    pub way_entry : (ds : List Float) (k : ℕ) (d : Float) (p m : ℕ) → EntryFor ds L side way.level way.place k d p m
        → EntrySays (lookup_at ns ds q i) k d p m
    way_entry ds k d p m f = subst (λ (x : ℕ). EntrySays (trusting_of ns ds x) k d p m) is (f ns way_over)
