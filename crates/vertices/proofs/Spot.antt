-- Where no entry of a cell's block is split, the cell has one vertex at most: its low corner. Assumes nothing.
use Prim.Native.Nat.{ℕ, zero, suc, ◌+◌, ◌*◌, ◌-◌, ◌/◌, ◌^◌, ◌≤◌, ◌<◌}
use mathlib.Core.Path.{◌≡◌, refl, sym, ◌∙◌, ap, subst}
use mathlib.Core.Bool.{true, false}
use mathlib.Core.Logic.{⊎_elim}
use native.Mathlib.Nat.{pow-suc, add-div_right, div-eq_of_lt-le, mul_assoc, mul-div_cancel, mul-pos, add-mul, one-mul}
use native.Mathlib.Decide.{dec_le}
use native.Mathlib.Omega.{arith}
use lib.Pow.{pow-add, pow_pos, shr_mono}
use Rattle.morton.specs.Level.{deepest, limit, Cell, level}
use Rattle.morton.specs.Field.{bit, coord, key}
use Rattle.morton.specs.Vertex.{corner_at, vertex_of}
use Rattle.morton.proofs.Dilated.{axes}
use Rattle.morton.proofs.Levels.{cell_level, eight_pos}
use Rattle.morton.proofs.Fields.{bit_le, coord_down, coord_key, coord_lt, coord_up, cell_up, key_coord, key_ext, mul_step}
use Rattle.morton.proofs.Vertices.{inside_is, inside_if, vertex_if}
use Rattle.morton.proofs.Sides.{vertex_inside, vertex_is}
use Rattle.tree.specs.Tree.{In, NoChild, tree_of}
use Rattle.tree.specs.Down.{Nodes}
use Rattle.tree.proofs.Pass.{denied}
use Rattle.geometry.specs.Listing.{given}
use Rattle.tree.proofs.Lists.{in_cast}
use Rattle.geometry.proofs.Place.{digit, bit_digit, up_up}
use Rattle.geometry.proofs.Shape.{sound_shape, cell_pos}
use Rattle.geometry.proofs.Lookup.{no_node}
use Rattle.geometry.specs.Near.{near}
use Rattle.vertices.specs.Walk.{split_at, entry, low_corner}
use Rattle.geometry.proofs.Offsets.{Within, near_cell, within_or_not}
use Rattle.vertices.proofs.Sound.{SoundKeys, Over, Block, same_level, over_childless}

-- ---- words

-- a key without children
pub record Leaf (ks : Nodes) (k : ℕ) : Type 0 where
  pub present : In k ks.keys
  pub childless : NoChild k ks.keys

-- all eight entries are nodes; one of them has level l or more; both
abbrev pub Full : Nodes → ℕ → ℕ → Type 0
Full ks l c = (o : ℕ) → o < 8 → 0 < entry ks l c o

abbrev pub Fine : Nodes → ℕ → ℕ → Type 0
Fine ks l c = (o : ℕ) × (o < 8) × (8 ^ l ≤ entry ks l c o)

pub record Meets (ks : Nodes) (l c : ℕ) : Type 0 where
  pub full : Full ks l c
  pub fine : Fine ks l c

-- a leaf of level L gives the vertex v
pub record GivenBy (ks : Nodes) (v L : ℕ) : Type 0 where
  pub leaf : ℕ
  pub corner : ℕ
  pub is_leaf : Leaf ks leaf
  pub is_corner : corner < 8
  pub gives : given leaf corner ≡ v
  pub at_level : level leaf ≡ L

-- ---- cells and their low corners

-- the cells of one level in order
pub corner_next : (l c : ℕ) → low_corner l (c + 1) ≡ low_corner l c + 8 ^ (deepest - l)
unfolding low_corner
corner_next l c = omega (arith, add-mul c 1 (8 ^ (deepest - l)), one-mul (8 ^ (deepest - l)))

pub corner_pos : (l c : ℕ) → 1 ≤ c → 1 ≤ low_corner l c
unfolding low_corner
corner_pos l c h = mul-pos h (eight_pos (deepest - l))

-- the low corner of a cell is that of its first cell j levels down
corner_down : (j l c : ℕ) → l + j ≤ deepest → low_corner l c ≡ low_corner (l + j) (c * 8 ^ j)
unfolding low_corner
corner_down j l c h =
    let e : deepest - l ≡ j + (deepest - (l + j)) = omega arith in
    ap (λ (n : ℕ). c * n) (ap (λ (n : ℕ). 8 ^ n) e ∙ pow-add 8 j (deepest - (l + j))) ∙ sym (mul_assoc c (8 ^ j) (8 ^ (deepest - (l + j))))

-- the cell of level l that has a number
cell_of : (l c v : ℕ) → low_corner l c ≤ v → v < low_corner l (c + 1) → v / 8 ^ (deepest - l) ≡ c
unfolding low_corner
cell_of l c v lo hi = div-eq_of_lt-le (8 ^ (deepest - l)) lo (omega (arith, pow-suc 8 l))

pub corner_cell : (l c : ℕ) → low_corner l c / 8 ^ (deepest - l) ≡ c
unfolding low_corner
corner_cell l c = mul-div_cancel c (eight_pos (deepest - l))

-- one more on an axis is at most one cell more j levels up
div_next : (n b j : ℕ) → b ≤ 1 → (n + b) / 2 ^ j ≤ n / 2 ^ j + 1
div_next n b j h = omega (arith, add-div_right n (pow_pos j), shr_mono {a = n + b} {b = n + 2 ^ j} j (omega (arith, pow_pos j)))

div_same : (n b j : ℕ) → n / 2 ^ j ≤ (n + b) / 2 ^ j
div_same n b j = shr_mono {a = n} {b = n + b} j (omega arith)

-- ---- nodes

module _ (ks : Nodes) (t : SoundKeys ks) where
  leaf_cell : (k : ℕ) → In k ks.keys → Cell (level k) k × (level k ≤ limit)
  leaf_cell k m = t.sound.cells k m

  present_pos : (k : ℕ) → In k ks.keys → 1 ≤ k
  present_pos k m = cell_pos (level k) k (leaf_cell k m).0

  -- no node lies in one that has no children
  none_below : (p k j : ℕ) → In p ks.keys → NoChild p ks.keys → In k ks.keys → k / 8 ^ suc j ≡ p → ⊥
  none_below p k j mp n mk e =
      no_node limit ks.keys t.leaves (sound_shape (tree_of ks.keys t.distances ks.firsts t.leaves) t.sound) p (t.sound.childless_leaves p mp n) j k mk e

  -- the node over a cell that is present is the cell
  over_present : (l x p : ℕ) → Over ks l x p → In x ks.keys → p ≡ x
  over_present l x p v m = go v.up refl
    where
      go : (j : ℕ) → v.up ≡ j → p ≡ x
      go zero e = sym v.is ∙ (ap (λ (n : ℕ). x / 8 ^ n) e ∙ omega arith)
      go (suc j) e = absurd (none_below p x j v.here (v.leaf (omega arith)) m (ap (λ (n : ℕ). x / 8 ^ n) (sym e) ∙ v.is))

  -- ---- what a leaf gives

  module _ (k w : ℕ) (leaf : Leaf ks k) (hw : w < 8) (pos : 0 < given k w) where
    some : vertex_of (level k) k w ≡ 0 → ⊥
    some z = omega arith

    -- the corner, as a cell of the leaf's level
    at_corner : ℕ
    at_corner = key (level k) (corner_at (level k) k w)

    bounds : (a : ℕ) → a < 3 → (1 ≤ corner_at (level k) k w a) × (corner_at (level k) k w a < 2 ^ level k)
    bounds = inside_is (level k) (corner_at (level k) k w) (vertex_inside (level k) k w some)

    corner_coord : (a : ℕ) → a < 3 → coord (level k) at_corner a ≡ corner_at (level k) k w a
    unfolding at_corner
    corner_coord a h = coord_key (level k) (corner_at (level k) k w) a h (bounds a h).1

    given_is : given k w ≡ low_corner (level k) at_corner
    unfolding at_corner low_corner
    given_is = vertex_is (level k) k w some

    module _ (l c : ℕ) (hl : l ≤ limit) (blk : Block ks l c) (still : (o : ℕ) → o < 8 → split_at ks l (entry ks l c o) ≡ false)
        (lo : low_corner l c ≤ given k w) (hi : given k w < low_corner l (c + 1)) where
      mine : given k w / 8 ^ (deepest - l) ≡ c
      mine = cell_of l c (given k w) lo hi

      still_childless : (o : ℕ) → o < 8 → Within l c o → NoChild (entry ks l c o) ks.keys
      still_childless o h i = over_childless ks t l (near l c o) (entry ks l c o) (near_cell l c o) (blk.over o h i) (denied (split_at ks l (entry ks l c o)) _ (still o h) (blk.marks o h))

      -- a finer leaf would lie in an entry
      module _ (j : ℕ) (fine : level k ≡ l + suc j) where
        up_is : c ≡ at_corner / 8 ^ suc j
        up_is =
            let e : deepest - l ≡ deepest - level k + suc j = omega (arith, leaf_cell k leaf.present) in
            sym mine
            ∙ ap (λ (n : ℕ). given k w / 8 ^ n) e
            ∙ sym (up_up (given k w) (deepest - level k) (suc j))
            ∙ ap (λ (n : ℕ). n / 8 ^ suc j) (ap (λ (n : ℕ). n / 8 ^ (deepest - level k)) given_is ∙ corner_cell (level k) at_corner)

        cell_coord : (a : ℕ) → a < 3 → coord l c a ≡ corner_at (level k) k w a / 2 ^ suc j
        cell_coord a h =
            ap (λ (n : ℕ). coord l n a) up_is
            ∙ coord_up (suc j) l at_corner a
            ∙ ap (λ (n : ℕ). n / 2 ^ suc j) (ap (λ (n : ℕ). coord n at_corner a) (sym fine) ∙ corner_coord a h)

        above_coord : (a : ℕ) → coord l (k / 8 ^ suc j) a ≡ coord (level k) k a / 2 ^ suc j
        above_coord a = coord_up (suc j) l k a ∙ ap (λ (n : ℕ). coord n k a / 2 ^ suc j) (sym fine)

        lower_by : ℕ → ℕ
        lower_by a = coord l c a - coord l (k / 8 ^ suc j) a

        beside : ℕ
        beside = digit lower_by

        beside_bit : (a : ℕ) → a < 3 → coord l c a ≡ coord l (k / 8 ^ suc j) a + bit a beside
        unfolding beside lower_by
        beside_bit a h =
            omega (
              arith,
              bit_digit a lower_by h,
              cell_coord a h,
              above_coord a,
              div_next (coord (level k) k a) (bit a w) (suc j) (bit_le a w),
              div_same (coord (level k) k a) (bit a w) (suc j),
            )

        beside_lt : beside < 8
        unfolding beside
        beside_lt = omega arith

        beside_within : Within l c beside
        unfolding Within
        beside_within a h = omega (arith, beside_bit a h)

        beside_near : near l c beside ≡ k / 8 ^ suc j
        unfolding near
        beside_near =
            key_ext l (λ a. coord l c a - bit a beside) (coord l (k / 8 ^ suc j)) (λ a h. omega (arith, beside_bit a h))
            ∙ key_coord l (k / 8 ^ suc j) (cell_up (suc j) l k (subst (λ (n : ℕ). Cell n k) fine (leaf_cell k leaf.present).0))

        no_finer : ⊥
        no_finer =
            let v : Over ks l (near l c beside) (entry ks l c beside) = blk.over beside beside_lt beside_within in
            none_below (entry ks l c beside) k (j + v.up) v.here (still_childless beside beside_lt beside_within) leaf.present
            (ap (λ (n : ℕ). k / 8 ^ n) (omega arith) ∙ sym (up_up k (suc j) v.up) ∙ ap (λ (n : ℕ). n / 8 ^ v.up) (sym beside_near) ∙ v.is)

      -- so the leaf is as coarse as the cell, or coarser
      module _ (j : ℕ) (coarse : l ≡ level k + j) where
        moved : given k w ≡ low_corner l (at_corner * 8 ^ j)
        moved =
            given_is
            ∙ corner_down j (level k) at_corner (omega arith)
            ∙ ap (λ (n : ℕ). low_corner n (at_corner * 8 ^ j)) (sym coarse)

        down_is : c ≡ at_corner * 8 ^ j
        down_is = sym mine ∙ ap (λ (n : ℕ). n / 8 ^ (deepest - l)) moved ∙ corner_cell l (at_corner * 8 ^ j)

        is_corner : given k w ≡ low_corner l c
        is_corner = moved ∙ ap (low_corner l) (sym down_is)

        coarse_coord : (a : ℕ) → a < 3 → coord l c a ≡ corner_at (level k) k w a * 2 ^ j
        coarse_coord a h =
            ap (λ (n : ℕ). coord l n a) down_is
            ∙ ap (λ (n : ℕ). coord n (at_corner * 8 ^ j) a) coarse
            ∙ coord_down j (level k) at_corner a h
            ∙ ap (λ (n : ℕ). n * 2 ^ j) (corner_coord a h)

        coord_pos : (a : ℕ) → a < 3 → 1 ≤ coord l c a
        coord_pos a h = subst (λ (n : ℕ). 1 ≤ n) (sym (coarse_coord a h)) (mul-pos (bounds a h).0 (pow_pos j))

        all_full : Full ks l c
        unfolding Within
        all_full o h = present_pos (entry ks l c o) (blk.over o h (all o)).here
          where
            all : (o : ℕ) → Within l c o
            all o a h = omega (arith, coord_pos a h, bit_le a o)

      one_fine : (j : ℕ) → l ≡ level k + j → Fine ks l c
      unfolding near Within
      one_fine (suc j) e =
          ⊎_elim (λ z. absurd (omega arith)) (λ f. f) (blk.fresh (omega (arith, down_is (suc j) e, mul_step at_corner 8 j)))
      one_fine zero e =
          let same : near l c w ≡ k = near_is in
          let inn : Within l c w = near_within in
          let p : entry ks l c w ≡ near l c w = over_present l (near l c w) (entry ks l c w) (blk.over w hw inn) (in_cast same leaf.present) in
          (w, hw, omega (arith, (near_cell l c w).low))
        where
          on : (a : ℕ) → a < 3 → coord l c a ≡ coord (level k) k a + bit a w
          on a h = coarse_coord zero e a h ∙ omega arith

          near_is : near l c w ≡ k
          near_is =
              key_ext l (λ a. coord l c a - bit a w) (coord (level k) k) (λ a h. omega (arith, on a h))
              ∙ ap (λ (n : ℕ). key n (coord (level k) k)) (e ∙ omega arith)
              ∙ key_coord (level k) k (leaf_cell k leaf.present).0

          near_within : Within l c w
          near_within a h = omega (arith, on a h)

      -- what a leaf gives in the cell
      pub record Caught : Type 0 where
        pub is : given k w ≡ low_corner l c
        pub level_le : level k ≤ l
        pub meets : Meets ks l c

      pub caught : Caught
      caught =
          elim (dec_le (level k) l) [
            | yes h ↦
                let e : l ≡ level k + (l - level k) = omega arith in
                record {
                  is = is_corner (l - level k) e;
                  level_le = h;
                  meets = record { full = all_full (l - level k) e; fine = one_fine (l - level k) e };
                }
            | no h ↦ absurd (no_finer (level k - suc l) (omega arith))
          ]

  -- ---- and back: the block tells that the low corner is listed

  module _ (l c : ℕ) (hl : l ≤ limit) (cc : Cell l c) (blk : Block ks l c)
      (still : (o : ℕ) → o < 8 → split_at ks l (entry ks l c o) ≡ false) (m : Meets ks l c) where
    pub coord_some : (a : ℕ) → a < 3 → 1 ≤ coord l c a
    unfolding Within
    coord_some a h =
        elim (within_or_not l c 7) [
          | yes w ↦ omega (arith, w a h, bit_seven a h)
          | no n ↦ absurd (omega (arith, m.full 7 (omega arith), blk.out 7 (omega arith) n))
        ]
      where
        bit_seven : (a : ℕ) → a < 3 → bit a 7 ≡ 1
        bit_seven = axes (λ a. bit a 7 ≡ 1) refl refl refl

    fine_within : Within l c m.fine.0
    unfolding Within
    fine_within a h = omega (arith, coord_some a h, bit_le a m.fine.0)

    fine_over : Over ks l (near l c m.fine.0) (entry ks l c m.fine.0)
    fine_over = blk.over m.fine.0 m.fine.1 fine_within

    fine_is : entry ks l c m.fine.0 ≡ near l c m.fine.0
    fine_is = same_level ks l _ _ (near_cell l c m.fine.0) m.fine.2 fine_over

    fine_level : level (entry ks l c m.fine.0) ≡ l
    fine_level = ap level fine_is ∙ cell_level l (near l c m.fine.0) (omega arith) (near_cell l c m.fine.0)

    fine_corner : (a : ℕ) → a < 3 → corner_at l (entry ks l c m.fine.0) m.fine.0 a ≡ coord l c a
    unfolding near
    fine_corner a h =
        omega (
          arith,
          ap (λ (n : ℕ). coord l n a) fine_is ∙ coord_key l (λ a. coord l c a - bit a m.fine.0) a h (omega (arith, coord_lt l c a)),
          coord_some a h,
          bit_le a m.fine.0,
        )

    pub giver : GivenBy ks (low_corner l c) l
    unfolding low_corner
    giver =
        record {
          leaf = entry ks l c m.fine.0;
          corner = m.fine.0;
          is_leaf =
              record {
                present = fine_over.here;
                childless =
                    over_childless ks t l _ _ (near_cell l c m.fine.0) fine_over
                    (denied (split_at ks l (entry ks l c m.fine.0)) _ (still m.fine.0 m.fine.1) (blk.marks m.fine.0 m.fine.1));
              };
          is_corner = m.fine.1;
          gives = gives;
          at_level = fine_level;
        }
      where
        gives : given (entry ks l c m.fine.0) m.fine.0 ≡ low_corner l c
        gives =
            ap (λ (n : ℕ). vertex_of n (entry ks l c m.fine.0) m.fine.0) fine_level
            ∙ vertex_if l (entry ks l c m.fine.0) m.fine.0 (omega arith) true
            (inside_if l (corner_at l (entry ks l c m.fine.0) m.fine.0)
            (λ a h. (omega (arith, fine_corner a h, coord_some a h), omega (arith, fine_corner a h, coord_lt l c a))))
            ∙ ap (λ (n : ℕ). n * 8 ^ (deepest - l))
            (key_ext l (corner_at l (entry ks l c m.fine.0) m.fine.0) (coord l c) fine_corner ∙ key_coord l c cc)
