-- The block of a child from that of its parent, where the walk ends, and what the tables hold, on any table of keys. Assumes nothing.
use Prim.Native.Nat.{ℕ, zero, suc, ◌+◌, ◌*◌, ◌-◌, ◌%◌, ◌^◌, ◌≤◌, ◌<◌, min}
use mathlib.Core.Path.{◌≡◌, refl, sym, ◌∙◌, ap, ap₂, subst}
use mathlib.Core.Bool.{Bool, true, false, cond, ◌&&◌, ◌||◌, true≢false}
use mathlib.Core.List.{List, [], ◌∷◌, ◌++◌}
use native.Mathlib.Nat.{mod-eq_of_lt, add-zero, add-suc, suc-add}
use native.Mathlib.Numerals.{add-one}
use native.Mathlib.Decide.{dec_lt, ℕ_discrete}
use native.Mathlib.Omega.{arith}
use lib.Bits.{bit_and, bit_xor, and_le_l}
use lib.Dec.{eqb, leb, ltb}
use lib.ListN.{length, get_or, set}
use lib.Seq.{sets, get_or-set_same, get_or-set_other}
use borrow.Author.Tests.{ltb-true, lt-ltb, leb-true, le-leb, eqb-true, eqb-false, eq-eqb, ne_eqb}
use Rattle.morton.specs.Level.{limit, if₀, Cell}
use Rattle.morton.proofs.Dilated.{axes}
use Rattle.morton.proofs.Fields.{bit_le, coord_child}
use Rattle.morton.proofs.Levels.{and_true, eight_pos, eight_mono}
use Rattle.morton.proofs.Vertices.{up_pow, down_cell}
use Rattle.tree.specs.Tree.{Decides}
use Rattle.tree.proofs.Lists.{decided, unless}
use Rattle.geometry.specs.Near.{near, in_cube}
use Rattle.vertices.specs.Walk.{split_at, entry, place_at, some, all, Spot, in_turn, low_corner, divided, meets, ending, walked, vertices_of, levels_of}
use Rattle.vertices.specs.Block.{marked, Here, Small, BelowMarks, Each16, Near, lowered_mark, lowered_place, lowered_at, LoweredMarks, LoweredAt, Touched, Low}
use Rattle.tree.specs.Down.{Nodes, first_at, steps, is_split}
use Rattle.tree.proofs.Down.{over_split}
use Rattle.morton.specs.Field.{bit, coord, sub}
use Rattle.morton.proofs.Sides.{sub_key}
use Rattle.geometry.proofs.Offsets.{Within, and_bit, rest_bit, kept_lt, flip_lt, near_cell, in_cube_lem, cube_in}
use Rattle.vertices.proofs.Entries.{entry_in, entry_out, entry_lt, place_most, split_low, split_over, entry_node, node_within, from, from_place, from_lt, Below, below, fine_up, fine_down}
use Rattle.vertices.proofs.Entries.Below.{down, stay}
use Rattle.vertices.proofs.Marks.{marked_zero, some_marked}

-- ---- some and all

pub some_if : (f : ℕ → Bool) (n i : ℕ) → i < n → f i ≡ true → some f n ≡ true
unfolding some
some_if f zero i h e = absurd (omega arith)
some_if f (suc n) i h e =
    elim (dec_lt i n) [
      | yes l ↦ ap (λ (r : Bool). r || f n) (some_if f n i l e)
      | no l ↦ let q : i ≡ n = omega arith in or_true (some f n) (f n) (subst (λ (j : ℕ). f j ≡ true) q e)
    ]
  where
    or_true : (s t : Bool) → t ≡ true → (s || t) ≡ true
    or_true true t e = refl
    or_true false t e = e

pub some_is : (f : ℕ → Bool) (n : ℕ) → some f n ≡ true → (i : ℕ) × (i < n) × (f i ≡ true)
unfolding some
some_is f zero e = absurd (true≢false (sym e))
some_is f (suc n) e = go (some f n) refl (λ t. some_is f n t)
  where
    go : (r : Bool) → some f n ≡ r → (some f n ≡ true → (i : ℕ) × (i < n) × (f i ≡ true)) → (i : ℕ) × (i < suc n) × (f i ≡ true)
    go true t g = let s = g t in (s.0, omega (arith, s.1), s.2)
    go false t g = (n, omega arith, sym (ap (λ (r : Bool). r || f n) t) ∙ e)

pub none_is : (f : ℕ → Bool) (n : ℕ) → ((i : ℕ) → i < n → f i ≡ false) → some f n ≡ false
none_is f n h = unless (some f n) (λ e. let s = some_is f n e in true≢false (sym s.2 ∙ h s.0 s.1))

pub all_if : (f : ℕ → Bool) (n : ℕ) → ((i : ℕ) → i < n → f i ≡ true) → all f n ≡ true
unfolding all
all_if f zero h = refl
all_if f (suc n) h = ap₂ ◌&&◌ (all_if f n (λ i l. h i (omega arith))) (h n (omega arith))

pub all_is : (f : ℕ → Bool) (n : ℕ) → all f n ≡ true → (i : ℕ) → i < n → f i ≡ true
unfolding all
all_is f zero e i h = absurd (omega arith)
all_is f (suc n) e i h =
    let b = and_true (all f n) (f n) e in
    elim (dec_lt i n) [ yes l ↦ all_is f n b.0 i l | no l ↦ let q : n ≡ i = omega arith in subst (λ (j : ℕ). f j ≡ true) q b.1 ]

-- ---- the entries of a child's block, as the code has them

-- an array filled from the front
pub filled_more : (xs : List ℕ) (o x : ℕ) (f : ℕ → ℕ) → o < length xs → ((i : ℕ) → i < o → get_or xs i 0 ≡ f i) → x ≡ f o
    → (i : ℕ) → i < o + 1 → get_or (set xs o x) i 0 ≡ f i
filled_more xs o x f h g e i l =
    elim (dec_lt i o) [
      | yes k ↦ get_or-set_other xs o i x 0 (λ q. omega arith) ∙ g i k
      | no k ↦ let q : o ≡ i = omega arith in subst (λ (n : ℕ). get_or (set xs o x) n 0 ≡ f n) q (get_or-set_same xs o x 0 h ∙ e)
    ]

-- a cell moved up
pub shift_cell : (l c : ℕ) → l ≤ limit → Cell l c → (c * 2 ^ (63 - l * 3)) % 2 ^ 64 ≡ low_corner l c
unfolding low_corner
shift_cell l c h cell =
    ap (λ (n : ℕ). c * n % 2 ^ 64) (up_pow l (omega arith)) ∙ mod-eq_of_lt (omega (arith, (down_cell l c (omega arith) cell).high))

-- ---- the walk, by whether a cell is divided

module _ (ks : Nodes) (l c : ℕ) where
  pub walked_end : (f : ℕ) → divided ks l c ≡ false → walked f ks l c ≡ ending ks l c
  unfolding walked
  walked_end zero e = ap (λ (r : Bool). cond r [] (ending ks l c)) e
  walked_end (suc f) e = ap (λ (r : Bool). cond r (in_turn (λ q. walked f ks (suc l) (8 * c + q)) 8) (ending ks l c)) e

  pub walked_stop : divided ks l c ≡ true → walked 0 ks l c ≡ []
  unfolding walked
  walked_stop e = ap (λ (r : Bool). cond r [] (ending ks l c)) e

  pub walked_on : (f : ℕ) → divided ks l c ≡ true → walked (suc f) ks l c ≡ in_turn (λ q. walked f ks (suc l) (8 * c + q)) 8
  unfolding walked
  walked_on f e = ap (λ (r : Bool). cond r (in_turn (λ q. walked f ks (suc l) (8 * c + q)) 8) (ending ks l c)) e

  pub ending_one : meets ks l c ≡ true → ending ks l c ≡ record { vertex = low_corner l c; level = l } ∷ []
  unfolding ending
  ending_one e = ap (λ (r : Bool). cond r (record { vertex = low_corner l c; level = l } ∷ []) []) e

  pub ending_none : meets ks l c ≡ false → ending ks l c ≡ []
  unfolding ending
  ending_none e = ap (λ (r : Bool). cond r (record { vertex = low_corner l c; level = l } ∷ []) []) e

  pub ending_by : (P : List Spot → Type 0) → (meets ks l c ≡ true → P (record { vertex = low_corner l c; level = l } ∷ []))
      → (meets ks l c ≡ false → P []) → P (ending ks l c)
  ending_by P f g = decided (meets ks l c) (λ e. subst P (sym (ending_one e)) (f e)) (λ e. subst P (sym (ending_none e)) (g e))

  pub undivided : divided ks l c ≡ false → (o : ℕ) → o < 8 → split_at ks l (entry ks l c o) ≡ false
  unfolding divided
  undivided d o h = unless _ (λ e. true≢false (sym (some_if (λ o. split_at ks l (entry ks l c o)) 8 o h e) ∙ d))

-- what holds where the walk ends, where it stops, and of eight children in turn holds of the walk; A is known of each cell on its way
module _ (ks : Nodes) (A : ℕ → ℕ → Type 0) (P : ℕ → ℕ → List Spot → Type 0)
    (down : (l c q : ℕ) → q < 8 → A l c → divided ks l c ≡ true → A (suc l) (8 * c + q))
    (end : (l c : ℕ) → l ≤ limit → A l c → divided ks l c ≡ false → P l c (ending ks l c))
    (stop : (l c : ℕ) → l ≡ limit → A l c → divided ks l c ≡ true → P l c [])
    (on : (l c : ℕ) → l < limit → (g : ℕ → List Spot) → ((q : ℕ) → q < 8 → P (suc l) (8 * c + q) (g q)) → P l c (in_turn g 8)) where
  pub walk_ind : (f l c : ℕ) → l + f ≡ limit → A l c → P l c (walked f ks l c)
  walk_ind zero l c e a =
      decided (divided ks l c) (λ d. subst (P l c) (sym (walked_stop ks l c d)) (stop l c (omega arith) a d))
      (λ d. subst (P l c) (sym (walked_end ks l c 0 d)) (end l c (omega arith) a d))
  walk_ind (suc f) l c e a =
      decided (divided ks l c)
      (λ d. subst (P l c) (sym (walked_on ks l c f d)) (on l c (omega arith) _ (λ q h. walk_ind f (suc l) (8 * c + q) (omega arith) (down l c q h a d))))
      (λ d. subst (P l c) (sym (walked_end ks l c (suc f) d)) (end l c (omega arith) a d))

-- all of some vertices
abbrev pub Each : (Spot → Type 0) → List Spot → Type 0
Each P [] = Unit {0}
Each P (s ∷ ss) = P s × Each P ss

pub each_map : {P Q : Spot → Type 0} → ((s : Spot) → P s → Q s) → (ss : List Spot) → Each P ss → Each Q ss
each_map f [] a = tt
each_map f (s ∷ ss) a = (f s a.0, each_map f ss a.1)

module _ (P : Spot → Type 0) where
  each_append : (ss ts : List Spot) → Each P ss → Each P ts → Each P (ss ++ ts)
  each_append [] ts a b = b
  each_append (s ∷ ss) ts a b = (a.0, each_append ss ts a.1 b)

  pub each_turn : (g : ℕ → List Spot) (n : ℕ) → ((q : ℕ) → q < n → Each P (g q)) → Each P (in_turn g n)
  unfolding in_turn
  each_turn g zero each = tt
  each_turn g (suc n) each = each_append (in_turn g n) (g n) (each_turn g n (λ q h. each q (omega arith))) (each n (omega arith))

-- a split entry is the cell that lies that way
side_entry : (ks : Nodes) (l c o : ℕ) → l ≤ limit → Cell l c → o < 8 → split_at ks l (entry ks l c o) ≡ true → sub c o ≡ entry ks l c o
unfolding near Within
side_entry ks l c o hl cc ho e =
    decided (in_cube l c o)
    (λ i.
    let s : is_split ks l (near l c o) ≡ true = sym (split_over ks l (near l c o) (near_cell l c o)) ∙ ap (split_at ks l) (sym (entry_in ks l c o i)) ∙ e in
    sub_key l c o (omega arith) cc (omega arith) (in_cube_lem l c o i) ∙ sym (entry_in ks l c o i ∙ over_split ks l (near l c o) s))
    (λ i. absurd (true≢false (sym e ∙ split_low ks l (entry ks l c o) (omega (arith, entry_out ks l c o i, eight_pos l)))))

-- ---- the sides of the cube

-- the sides at which a child lies
low_step : (l c low q : ℕ) → q < 8 → Low l c low → Low (suc l) (8 * c + q) (bit_and low (7 - q))
unfolding marked
low_step l c low q hq h =
    record {
      small = omega (arith, and_le_l low (7 - q), h.small);
      marks = λ a l3. one_bit (bit a low) (bit a q) (coord l c a) _ _ (bit_le a low) (bit_le a q) (h.marks a l3)
          (and_bit a low (7 - q) ∙ ap (min (bit a low)) (rest_bit q hq a l3)) (coord_child l c q a (omega arith) l3);
    }
  where
    one_bit : (x y z m n : ℕ) → x ≤ 1 → y ≤ 1 → eqb x 1 ≡ eqb z 0 → m ≡ min x (1 - y) → n ≡ y + 2 * z → eqb m 1 ≡ eqb n 0
    one_bit x zero zero m n hx hy e f g = eq-eqb m 1 (omega (arith, eqb-true x 1 e)) ∙ sym (eq-eqb n 0 (omega arith))
    one_bit x zero (suc z) m n hx hy e f g = ne_eqb m 1 (λ t. eqb-false x 1 (e ∙ ne_eqb (suc z) 0 (λ t. omega arith)) (omega arith)) ∙ sym (ne_eqb n 0 (λ t. omega arith))
    one_bit x (suc y) z m n hx hy e f g = ne_eqb m 1 (λ t. omega arith) ∙ sym (ne_eqb n 0 (λ t. omega arith))

module _ (l c low : ℕ) (h : Low l c low) where
  -- a cell at none has all cells round its low corner in the cube
  low_none : low ≡ 0 → (o : ℕ) → in_cube l c o ≡ true
  unfolding Within
  low_none z o = cube_in l c o (λ a l3. pos a (coord l c a) (sym (h.marks a l3) ∙ ap (λ (m : ℕ). marked m a) z ∙ marked_zero a))
    where
      pos : (a x : ℕ) → eqb x 0 ≡ false → bit a o ≤ x
      pos a zero e = absurd (true≢false e)
      pos a (suc x) e = omega (arith, bit_le a o)

  -- and only such a cell has
  none_low : Within l c 7 → low ≡ 0
  unfolding Within
  none_low w = go (ℕ_discrete low 0)
    where
      go : Dec (low ≡ 0) → low ≡ 0
      go (yes z) = z
      go (no n) =
          let s = some_marked 3 low h.small n in
          absurd (omega (arith, eqb-true (coord l c s.0) 0 (sym (h.marks s.0 s.1) ∙ s.2), w s.0 s.1, axes (λ a. bit a 7 ≡ 1) refl refl refl s.0 s.1))

-- where an entry of child q stands, by whether the parent's entry is split
pub lowered_is : (at : List ℕ) (mask q o : ℕ) {r : Bool} → marked mask (bit_and o (7 - q)) ≡ r
    → lowered_place at mask q o ≡ if₀ r (get_or at (bit_and o (7 - q)) 0 + bit_xor q o) (get_or at (bit_and o (7 - q)) 0)
unfolding lowered_place
lowered_is at mask q o e = ap (λ (r : Bool). if₀ r (get_or at (bit_and o (7 - q)) 0 + bit_xor q o) (get_or at (bit_and o (7 - q)) 0)) e

-- ---- a cell

module _ (ks : Nodes) (l c : ℕ) (at : List ℕ) (mask low : ℕ) (h : Here ks l c at mask low) where
  -- a split entry is the cell that lies that way
  module _ (hl : l ≤ limit) (hc : Cell l c) where
    pub here_side : (o : ℕ) → o < 8 → marked mask o ≡ true → sub c o ≡ entry ks l c o
    here_side o ho e = side_entry ks l c o hl hc ho (sym (h.marks o ho) ∙ e)

    pub here_small : Small c mask
    here_small o ho e = omega (arith, here_side o ho e, entry_lt ks l c o, eight_mono {i = l} {j = limit} hl)

  -- where each entry stands, by whether it is split
  pub here_split : (o : ℕ) → o < 8 → marked mask o ≡ true → get_or at o 0 ≡ first_at ks (place_at ks l c o)
  here_split o ho e = h.stands o ho ∙ ap (λ (r : Bool). if₀ r (first_at ks (place_at ks l c o)) (place_at ks l c o)) e

  pub here_leaf : (o : ℕ) → o < 8 → marked mask o ≡ false → get_or at o 0 ≡ place_at ks l c o
  here_leaf o ho e = h.stands o ho ∙ ap (λ (r : Bool). if₀ r (first_at ks (place_at ks l c o)) (place_at ks l c o)) e

  module _ (q : ℕ) (hq : q < 8) where
    module _ (o : ℕ) (ho : o < 8) where
      -- the parent's mark, by the block
      pub mark_is : marked mask (bit_and o (7 - q)) ≡ split_at ks l (from ks l c q o hq ho)
      unfolding from
      mark_is = h.marks (bit_and o (7 - q)) (kept_lt o q ho)

      -- where it stands
      pub place_is : lowered_place at mask q o ≡ place_at ks (suc l) (8 * c + q) o
      unfolding from_place
      place_is = go (below ks l c q o hq ho)
        where
          go : Below ks l c q o hq ho → lowered_place at mask q o ≡ place_at ks (suc l) (8 * c + q) o
          go (down s e p k) =
              lowered_is at mask q o (mark_is ∙ s)
              ∙ ap (λ (n : ℕ). n + bit_xor q o) (here_split (bit_and o (7 - q)) (kept_lt o q ho) (mark_is ∙ s))
              ∙ sym p
          go (stay s e p) = lowered_is at mask q o (mark_is ∙ s) ∙ here_leaf (bit_and o (7 - q)) (kept_lt o q ho) (mark_is ∙ s) ∙ sym p

    -- so they are near, whatever is split
    pub lowered_near : Each16 ks.firsts → (r : ℕ) (e : List ℕ) → LoweredAt ks.firsts at mask r q e → Near e
    unfolding lowered_at
    lowered_near k r e la =
        record {
          eight_places = la.0;
          each = λ o ho.
              decided (marked r o) (λ m. omega (arith, is o ho m, k (lowered_place at mask q o)))
              (λ m. omega (arith, is o ho m, place_is o ho, place_most ks k (suc l) (8 * c + q) o));
        }
      where
        is : (o : ℕ) → o < 8 → {b : Bool} → marked r o ≡ b
            → get_or e o 0 ≡ if₀ b (get_or ks.firsts (lowered_place at mask q o) 0) (lowered_place at mask q o)
        is o ho m =
            la.1 o ho
            ∙ ap (λ (b : Bool). if₀ b (get_or ks.firsts (lowered_place at mask q o) 0) (lowered_place at mask q o)) m

    module _ (hl : l ≤ limit) (hc : Cell l c) (bits : ℕ) (bm : BelowMarks ks c at mask bits) where
      mark_step : (o : ℕ) → o < 8 → lowered_mark bits q o ≡ split_at ks (suc l) (entry ks (suc l) (8 * c + q) o)
      unfolding from from_place lowered_mark
      mark_step o ho = bm (bit_and o (7 - q)) (kept_lt o q ho) (bit_xor q o) (flip_lt q o hq ho) ∙ go (below ks l c q o hq ho)
        where
          go : Below ks l c q o hq ho
              → (marked mask (bit_and o (7 - q)) && steps ks (get_or at (bit_and o (7 - q)) 0 + bit_xor q o) (8 * sub c (bit_and o (7 - q)) + bit_xor q o))
              ≡ split_at ks (suc l) (entry ks (suc l) (8 * c + q) o)
          go (down s e p k) =
              let m : marked mask (bit_and o (7 - q)) ≡ true = mark_is o ho ∙ s in
              let i = bit_and o (7 - q) in
              ap₂ ◌&&◌ m
              (ap₂ (λ (m n : ℕ). steps ks (m + bit_xor q o) (8 * n + bit_xor q o)) (here_split i (kept_lt o q ho) m) (here_side hl hc i (kept_lt o q ho) m))
              ∙ sym k
          go (stay s e p) =
              ap (λ (r : Bool). r && steps ks (get_or at (bit_and o (7 - q)) 0 + bit_xor q o) (8 * sub c (bit_and o (7 - q)) + bit_xor q o)) (mark_is o ho ∙ s)
              ∙ sym (split_low ks (suc l) (entry ks (suc l) (8 * c + q) o) (omega (arith, from_lt ks l c q o hq ho)))

      module _ (r : ℕ) (lm : LoweredMarks bits q r) where
        pub child_still : r ≡ 0 → divided ks (suc l) (8 * c + q) ≡ false
        unfolding divided
        child_still z =
            none_is (λ o. split_at ks (suc l) (entry ks (suc l) (8 * c + q) o)) 8
            (λ o ho. sym (mark_step o ho) ∙ (sym (lm.marks o ho) ∙ (ap (λ (m : ℕ). marked m o) z ∙ marked_zero o)))

        pub child_divided : (r ≡ 0 → ⊥) → divided ks (suc l) (8 * c + q) ≡ true
        unfolding divided
        child_divided n =
            let s = some_marked 8 r lm.small n in
            some_if (λ o. split_at ks (suc l) (entry ks (suc l) (8 * c + q) o)) 8 s.0 s.1 (sym (mark_step s.0 s.1) ∙ sym (lm.marks s.0 s.1) ∙ s.2)

        pub here_step : (e : List ℕ) → LoweredAt ks.firsts at mask r q e → Here ks (suc l) (8 * c + q) e r (bit_and low (7 - q))
        unfolding lowered_at first_at
        here_step e la =
            record {
              small = lm.small;
              marks = λ o ho. lm.marks o ho ∙ mark_step o ho;
              stands = λ o ho. la.1 o ho ∙ ap (λ (n : ℕ). if₀ (marked r o) (get_or ks.firsts n 0) n) (place_is o ho);
              side = low_step l c low q hq h.side;
            }

    -- what is seen of the block tells whether the child's low corner is listed
    touched_meets : Touched low mask q → meets ks (suc l) (8 * c + q) ≡ true
    unfolding meets
    touched_meets t =
        let o = t.fine.0 in
        let ho = t.fine.1 in
        ap₂ ◌&&◌
        (all_if (λ o. ltb 0 (entry ks (suc l) (8 * c + q) o)) 8
        (λ o ho. lt-ltb 0 _ (entry_node ks (suc l) (8 * c + q) o (low_none (suc l) (8 * c + q) _ (low_step l c low q hq h.side) t.full o))))
        (some_if (λ o. leb (8 ^ suc l) (entry ks (suc l) (8 * c + q) o)) 8 o ho
        (le-leb (8 ^ suc l) _ (fine_down ks l c q o hq ho (sym (mark_is o ho) ∙ t.fine.2))))

    meets_touched : meets ks (suc l) (8 * c + q) ≡ true → Touched low mask q
    unfolding meets
    meets_touched e =
        let b = and_true _ _ e in
        let s = some_is (λ o. leb (8 ^ suc l) (entry ks (suc l) (8 * c + q) o)) 8 b.1 in
        record {
          full = none_low (suc l) (8 * c + q) _ (low_step l c low q hq h.side)
              (node_within ks (suc l) (8 * c + q) 7 (ltb-true 0 _ (all_is (λ o. ltb 0 (entry ks (suc l) (8 * c + q) o)) 8 b.0 7 (omega arith))));
          fine = (s.0, s.1, mark_is s.0 s.1 ∙ fine_up ks l c q s.0 hq s.1 (leb-true (8 ^ suc l) _ s.2));
        }

    pub meets_is : (r : Bool) → Decides r (Touched low mask q) → meets ks (suc l) (8 * c + q) ≡ r
    meets_is true d = touched_meets d
    meets_is false d = unless (meets ks (suc l) (8 * c + q)) (λ e. d (meets_touched e))

-- a child where the walk goes on
pub step_on : (ks : Nodes) (l c : ℕ) (at : List ℕ) (mask low : ℕ) (h : Here ks l c at mask low) (hl : l ≤ limit) (hc : Cell l c) (q : ℕ) (hq : q < 8) (below : ℕ)
    → BelowMarks ks c at mask below → (r : ℕ) → LoweredMarks below q r → (r ≡ 0 → ⊥) → (e : List ℕ) → LoweredAt ks.firsts at mask r q e
    → Here ks (l + 1) (8 * c + q) e r (bit_and low (7 - q)) × (divided ks (l + 1) (8 * c + q) ≡ true)
step_on ks l c at mask low h hl hc q hq below bm r lm nz e la =
    subst (λ (n : ℕ). Here ks n (8 * c + q) e r (bit_and low (7 - q)) × (divided ks n (8 * c + q) ≡ true)) (sym (add-one l))
    (there, child_divided ks l c at mask low h q hq hl hc below bm r lm nz)
  where
    there : Here ks (suc l) (8 * c + q) e r (bit_and low (7 - q))
    there = here_step ks l c at mask low h q hq hl hc below bm r lm e la

-- ---- tables

pub vertices_append : (ss ts : List Spot) → vertices_of (ss ++ ts) ≡ vertices_of ss ++ vertices_of ts
unfolding vertices_of
vertices_append [] ts = refl
vertices_append (s ∷ ss) ts = ap (λ (xs : List ℕ). s.vertex ∷ xs) (vertices_append ss ts)

pub levels_append : (ss ts : List Spot) → levels_of (ss ++ ts) ≡ levels_of ss ++ levels_of ts
unfolding levels_of
levels_append [] ts = refl
levels_append (s ∷ ss) ts = ap (λ (xs : List ℕ). s.level ∷ xs) (levels_append ss ts)

pub vertices_length : (ss : List Spot) → length (vertices_of ss) ≡ length ss
unfolding vertices_of
vertices_length [] = refl
vertices_length (s ∷ ss) = ap suc (vertices_length ss)

pub levels_length : (ss : List Spot) → length (levels_of ss) ≡ length ss
unfolding levels_of
levels_length [] = refl
levels_length (s ∷ ss) = ap suc (levels_length ss)

pub sets_append : (vs us l : List ℕ) (i : ℕ) → sets l i (vs ++ us) ≡ sets (sets l i vs) (i + length vs) us
sets_append [] us l i = ap (λ (n : ℕ). sets l n us) (sym (add-zero i))
sets_append (v ∷ vs) us l i =
    sets_append vs us (set l i v) (suc i)
    ∙ ap (λ (n : ℕ). sets (sets (set l i v) (suc i) vs) n us) (suc-add i (length vs) ∙ sym (add-suc i (length vs)))
