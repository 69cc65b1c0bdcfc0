-- The entries of a child from those of its parent, and where the walk ends, on any table of keys. Assumes nothing.
use Prim.Native.Nat.{ℕ, suc, ◌+◌, ◌*◌, ◌-◌, ◌/◌, ◌%◌, ◌^◌, ◌≤◌, ◌<◌}
use mathlib.Core.Path.{◌≡◌, refl, sym, ◌∙◌, ap, ap₂}
use mathlib.Core.Bool.{Bool, true, false, ◌&&◌, true≢false}
use native.Mathlib.Nat.{pow-suc}
use native.Mathlib.Decide.{dec_lt}
use native.Mathlib.Omega.{arith}
use lib.Bits.{bit_and, bit_xor}
use lib.ListN.{get_or}
use borrow.Author.Tests.{leb-true, le-leb, lt-leb}
use Rattle.morton.specs.Level.{if₀, Cell}
use Rattle.morton.proofs.Levels.{and_true, eight_pos}
use Rattle.tree.specs.Down.{Nodes, first_at, steps, reach, is_split, over, place_over}
use Rattle.tree.proofs.Down.{split_below, reach_down, over_next, place_next, over_split, place_split, over_le, over_pos, over_same, place_near}
use Rattle.tree.proofs.Lists.{decided, unless}
use Rattle.geometry.specs.Near.{near, in_cube}
use Rattle.vertices.specs.Walk.{split_at, entry, place_at}
use Rattle.geometry.proofs.Offsets.{Within, flip_lt, near_cell, in_cube_lem, cube_in, within_up, within_down, near_step}

-- ---- tests

pub same : (s t : Bool) → (s ≡ true → t ≡ true) → (t ≡ true → s ≡ true) → s ≡ t
same true t f g = sym (f refl)
same false true f g = g refl
same false false f g = refl

-- ---- nodes

module _ (ks : Nodes) where
  pub split_deep : (l p : ℕ) → split_at ks l p ≡ true → 8 ^ l ≤ p
  unfolding split_at
  split_deep l p e = leb-true _ _ (and_true _ _ e).0

  pub split_low : (l p : ℕ) → p < 8 ^ l → split_at ks l p ≡ false
  unfolding split_at
  split_low l p h = ap (λ (r : Bool). r && is_split ks l p) (lt-leb _ _ h)

  pub split_at_lem : (l p : ℕ) → 8 ^ l ≤ p → split_at ks l p ≡ is_split ks l p
  unfolding split_at
  split_at_lem l p h = ap (λ (r : Bool). r && is_split ks l p) (le-leb _ _ h)

  -- of the node over a cell: whether it is the cell, and split
  pub split_over : (l x : ℕ) → Cell l x → split_at ks l (over ks l x) ≡ is_split ks l x
  split_over l x c =
      elim (dec_lt (over ks l x) (8 ^ l)) [
        | yes h ↦ split_low l (over ks l x) h ∙ sym (unless (is_split ks l x) (λ e. omega (arith, over_split ks l x e, c.low)))
        | no h ↦ ap (split_at ks l) (over_same ks l x c (omega arith)) ∙ split_at_lem l x c.low
      ]

  -- ---- entries

  module _ (l c o : ℕ) where
    pub entry_in : in_cube l c o ≡ true → entry ks l c o ≡ over ks l (near l c o)
    unfolding entry
    entry_in e = ap (λ (r : Bool). if₀ r (over ks l (near l c o)) 0) e

    pub entry_out : in_cube l c o ≡ false → entry ks l c o ≡ 0
    unfolding entry
    entry_out e = ap (λ (r : Bool). if₀ r (over ks l (near l c o)) 0) e

    -- an entry is a node exactly if it lies in the cube
    pub entry_node : in_cube l c o ≡ true → 0 < entry ks l c o
    entry_node e = omega (arith, entry_in e, over_pos ks l (near l c o) (near_cell l c o))

    pub node_within : 0 < entry ks l c o → Within l c o
    node_within h = decided (in_cube l c o) (in_cube_lem l c o) (λ e. absurd (omega (arith, entry_out e)))

    pub place_in : in_cube l c o ≡ true → place_at ks l c o ≡ place_over ks l (near l c o)
    unfolding place_at
    place_in e = ap (λ (r : Bool). if₀ r (place_over ks l (near l c o)) 0) e

    pub place_out : in_cube l c o ≡ false → place_at ks l c o ≡ 0
    unfolding place_at
    place_out e = ap (λ (r : Bool). if₀ r (place_over ks l (near l c o)) 0) e

    pub entry_lt : entry ks l c o < 2 * 8 ^ l
    entry_lt =
        decided (in_cube l c o) (λ e. omega (arith, entry_in e, over_le ks l (near l c o), (near_cell l c o).high))
        (λ e. omega (arith, entry_out e, eight_pos l))

  -- a place is that of a first child, or of one of the eight from there on
  pub place_most : ((i : ℕ) → get_or ks.firsts i 0 < 2 ^ 16) → (l c o : ℕ) → place_at ks l c o < 2 ^ 16 + 7
  place_most k l c o =
      decided (in_cube l c o) (λ e. omega (arith, place_in l c o e, place_near ks k l (near l c o))) (λ e. omega (arith, place_out l c o e))

  module _ (l c q o : ℕ) (hq : q < 8) (ho : o < 8) where
    cube_step : in_cube (suc l) (8 * c + q) o ≡ in_cube l c (bit_and o (7 - q))
    cube_step =
        same _ _
        (λ e. cube_in l c (bit_and o (7 - q)) (within_up l c q o hq ho (in_cube_lem (suc l) (8 * c + q) o e)))
        (λ e. cube_in (suc l) (8 * c + q) o (within_down l c q o hq ho (in_cube_lem l c (bit_and o (7 - q)) e)))

    -- the entry of the parent that lies that way, and its place
    unfoldable pub from : ℕ
    from = entry ks l c (bit_and o (7 - q))

    unfoldable pub from_place : ℕ
    from_place = place_at ks l c (bit_and o (7 - q))

    pub from_lt : from < 8 ^ suc l
    unfolding from
    from_lt = omega (arith, entry_lt l c (bit_and o (7 - q)), pow-suc 8 l, eight_pos l)

    -- what entry o of child q is, with its place: a child of that entry, or the entry itself
    pub data Below : Type 0 where
      down : split_at ks l from ≡ true → entry ks (suc l) (8 * c + q) o ≡ 8 * from + bit_xor q o
          → place_at ks (suc l) (8 * c + q) o ≡ first_at ks from_place + bit_xor q o
          → split_at ks (suc l) (entry ks (suc l) (8 * c + q) o) ≡ steps ks (first_at ks from_place + bit_xor q o) (8 * from + bit_xor q o) → Below
      stay : split_at ks l from ≡ false → entry ks (suc l) (8 * c + q) o ≡ from → place_at ks (suc l) (8 * c + q) o ≡ from_place → Below

    pub below : Below
    unfolding from from_place
    below = decided (in_cube l c (bit_and o (7 - q))) inside outside
      where
        x : ℕ
        x = near (suc l) (8 * c + q) o

        y : ℕ
        y = near l c (bit_and o (7 - q))

        inside : in_cube l c (bit_and o (7 - q)) ≡ true → Below
        inside e =
            let step : x ≡ 8 * y + bit_xor q o = near_step l c q o hq ho (in_cube_lem l c (bit_and o (7 - q)) e) in
            let half : x / 8 ≡ y = omega (arith, step, flip_lt q o hq ho) in
            let rest : x % 8 ≡ bit_xor q o = omega (arith, step, flip_lt q o hq ho) in
            let f : from ≡ over ks l y = entry_in l c (bit_and o (7 - q)) e in
            let p : from_place ≡ place_over ks l y = place_in l c (bit_and o (7 - q)) e in
            let s : split_at ks l from ≡ is_split ks l (x / 8) = ap (split_at ks l) f ∙ split_over l y (near_cell l c (bit_and o (7 - q))) ∙ ap (is_split ks l) (sym half) in
            let ex : entry ks (suc l) (8 * c + q) o ≡ over ks (suc l) x = entry_in (suc l) (8 * c + q) o (cube_step ∙ e) in
            let px : place_at ks (suc l) (8 * c + q) o ≡ place_over ks (suc l) x = place_in (suc l) (8 * c + q) o (cube_step ∙ e) in
            decided (is_split ks l (x / 8))
            (λ t.
            let sy : is_split ks l y ≡ true = ap (is_split ks l) (sym half) ∙ t in
            let kx : x ≡ 8 * from + bit_xor q o = step ∙ ap (λ (m : ℕ). 8 * m + bit_xor q o) (sym (f ∙ over_split ks l y sy)) in
            let rx : reach ks (suc l) x ≡ first_at ks from_place + bit_xor q o =
            reach_down ks l x ∙ ap₂ (λ (m w : ℕ). first_at ks m + w) (ap (reach ks l) half ∙ sym (p ∙ place_split ks l y sy)) rest in
            down (s ∙ t) (ex ∙ over_next ks l x t ∙ kx) (px ∙ place_next ks l x t ∙ rx)
            (ap (split_at ks (suc l)) ex ∙ split_over (suc l) x (near_cell (suc l) (8 * c + q) o) ∙ split_below ks l x t ∙ ap₂ (steps ks) rx kx))
            (λ t. stay (s ∙ t) (ex ∙ over_next ks l x t ∙ ap (over ks l) half ∙ sym f) (px ∙ place_next ks l x t ∙ ap (place_over ks l) half ∙ sym p))

        outside : in_cube l c (bit_and o (7 - q)) ≡ false → Below
        outside e =
            let z : from ≡ 0 = entry_out l c (bit_and o (7 - q)) e in
            stay (split_low l from (omega (arith, eight_pos l))) (entry_out (suc l) (8 * c + q) o (cube_step ∙ e) ∙ sym z)
            (place_out (suc l) (8 * c + q) o (cube_step ∙ e) ∙ sym (place_out l c (bit_and o (7 - q)) e))

    -- whether it is of the child's own level
    pub fine_up : 8 ^ suc l ≤ entry ks (suc l) (8 * c + q) o → split_at ks l from ≡ true
    fine_up h = go below
      where
        go : Below → split_at ks l from ≡ true
        go (down s e p k) = s
        go (stay s e p) = absurd (omega (arith, from_lt))

    pub fine_down : split_at ks l from ≡ true → 8 ^ suc l ≤ entry ks (suc l) (8 * c + q) o
    fine_down t = go below
      where
        go : Below → 8 ^ suc l ≤ entry ks (suc l) (8 * c + q) o
        go (down s e p k) = omega (arith, split_deep l from s, pow-suc 8 l)
        go (stay s e p) = absurd (true≢false (sym t ∙ s))
