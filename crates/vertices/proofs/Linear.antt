-- On any tables at all the walk goes through at most 64 cells and lists at most 19 vertices for each eight keys after the first. Assumes nothing.
use Prim.Native.Nat.{ℕ, zero, suc, ◌+◌, ◌*◌, ◌-◌, ◌/◌, ◌%◌, ◌^◌, ◌≤◌, ◌<◌, min}
use mathlib.Core.Path.{◌≡◌, refl, sym, ◌∙◌, ap, ap₂, subst}
use mathlib.Core.Bool.{true}
use mathlib.Core.Logic.{⊎_elim}
use mathlib.Core.List.{List}
use native.Mathlib.Nat.{div-eq_of_lt, mod-eq_of_lt, mul-add-div, mul-add-mod_self_left, mul-le-mul_left, mul-pos, pow-suc}
use native.Mathlib.Decide.{dec_lt}
use native.Mathlib.Omega.{arith}
use lib.ListN.{length, get_or, length-append}
use lib.Pow.{pow_pos}
use Rattle.morton.specs.Field.{bit, coord, key}
use Rattle.morton.specs.Level.{deepest, limit, Cell, level}
use Rattle.morton.proofs.Cells.{child_cell}
use Rattle.morton.proofs.Dilated.{axes}
use Rattle.morton.proofs.Fields.{coord_key, coord_lt, key_coord, key_ext}
use Rattle.morton.proofs.Levels.{cell_level, eight_pos}
use Rattle.morton.proofs.Vertices.{down_cell}
use Rattle.tree.specs.Down.{Nodes, first_at, reach, is_split, over}
use Rattle.tree.proofs.Down.{split_steps, steps_in, over_split, over_next, over_le}
use Rattle.tree.proofs.Lists.{decided}
use Rattle.geometry.specs.Grid.{sum}
use Rattle.geometry.specs.Corner.{Corner, StrictlyInside}
use Rattle.geometry.specs.Near.{near, in_cube}
use Rattle.geometry.proofs.Place.{corner_grid, inner_level}
use Rattle.geometry.proofs.Middles.{middles, length_middles, corner_up}
use Rattle.geometry.proofs.Vertex.{point_down}
use Rattle.geometry.proofs.Offsets.{Within, near_cell, in_cube_lem}
use Rattle.vertices.specs.Walk.{split_at, entry, Spot, in_turn, low_corner, divided, meets, ending, walked, visited, spots_of, most_of}
use Rattle.vertices.proofs.Entries.{entry_in, entry_out, split_deep, split_over}
use Rattle.vertices.proofs.Blocks.{some_is, walked_end, walked_on, walked_stop, ending_one, ending_none}
use Rattle.vertices.proofs.Spot.{Meets, corner_next}
use Rattle.vertices.proofs.Law.{meets_is, corner_le, corner_last}

-- ---- sums of what each step takes from b

turns : (f b : ℕ → ℕ) (n : ℕ) → ((q : ℕ) → q < n → f q + b (suc q) ≤ b q) → sum f n + b n ≤ b 0
unfolding sum
turns f b zero h = omega arith
turns f b (suc n) h = omega (arith, turns f b n (λ q l. h q (omega arith)), h n (omega arith))

turn_lengths : (g : ℕ → List Spot) (n : ℕ) → length (in_turn g n) ≡ sum (λ q. length (g q)) n
unfolding in_turn sum
turn_lengths g zero = refl
turn_lengths g (suc n) = omega (arith, turn_lengths g n, length-append (in_turn g n) (g n))

module _ (ks : Nodes) where
  -- ---- m points of each cell that can be split: the first child of one stands at place 1, 9, 17 or so on

  abbrev blocks : ℕ
  blocks = (length ks.keys - 1) / 8

  module _ (m : ℕ) (Q : ℕ → ℕ → ℕ → ℕ) where
    point : ℕ → ℕ
    point i = let k : ℕ = get_or ks.keys (8 * (i / m) + 1) 0 / 8 in Q (level k) k (i % m)

    -- how many of the first n of them are x or more
    unfoldable above : ℕ → ℕ → ℕ
    above zero x = 0
    above (suc n) x = min 1 (suc (point n) - x) + above n x

    above_le : (n x z : ℕ) → x ≤ z → above n z ≤ above n x
    unfolding above
    above_le zero x z h = omega arith
    above_le (suc n) x z h = omega (arith, above_le n x z h)

    above_in : (n x v z : ℕ) → (i : ℕ) × (i < n) × (point i ≡ v) → x ≤ v → v < z → 1 + above n z ≤ above n x
    unfolding above
    above_in zero x v z p a b = absurd (omega (arith, p.1))
    above_in (suc n) x v z p a b =
        elim (dec_lt p.0 n) [
          | yes k ↦ omega (arith, above_in n x v z (p.0, k, p.2) a b)
          | no k ↦ let e : n ≡ p.0 = omega (arith, p.1) in omega (arith, ap point e, p.2, above_le n x z (omega arith))
        ]

    above_most : (n x : ℕ) → above n x ≤ n
    unfolding above
    above_most zero x = omega arith
    above_most (suc n) x = omega (arith, above_most n x)

    abbrev count : ℕ → ℕ
    count = above (m * blocks)

    abbrev Point : ℕ → Type 0
    Point v = (i : ℕ) × (i < m * blocks) × (point i ≡ v)

    split_point : (l k o : ℕ) → l ≤ limit → Cell l k → is_split ks l k ≡ true → o < m → Point (Q l k o)
    unfolding point
    split_point l k o h c e g =
        let f : ℕ = first_at ks (reach ks l k) in
        let i : ℕ = m * (f / 8) + o in
        let s = steps_in ks (reach ks l k) k (split_steps ks l k e) in
        let place : 8 * (i / m) + 1 ≡ f = omega (arith, s.0, mul-add-div {m = m} (omega arith) (f / 8) o, div-eq_of_lt g) in
        let is : get_or ks.keys (8 * (i / m) + 1) 0 / 8 ≡ k = omega (arith, s.2, ap (λ (n : ℕ). get_or ks.keys n 0) place) in
        let room : m * suc (f / 8) ≤ m * blocks = mul-le-mul_left m (omega (arith, s.0, s.1)) in
        let rest : i % m ≡ o = mul-add-mod_self_left m (f / 8) o ∙ mod-eq_of_lt g in
        (i, omega arith, ap (λ (n : ℕ). Q (level n) n (i % m)) is ∙ ap₂ (λ (n o : ℕ). Q n k o) (cell_level l k (omega arith) c) rest)

  -- ---- a divided cell is one of eight round the far corner of a split cell

  -- an entry lies over a cell in the cube that has the low corner for its corner o
  inside : (l c o : ℕ) → 0 < entry ks l c o → in_cube l c o ≡ true
  inside l c o h = decided (in_cube l c o) (λ e. e) (λ e. absurd (omega (arith, entry_out ks l c o e)))

  beside : (l c o : ℕ) → 0 < entry ks l c o → (a : ℕ) → a < 3 → coord l (near l c o) a + bit a o ≡ coord l c a
  unfolding near Within
  beside l c o h a g =
      omega (arith, in_cube_lem l c o (inside l c o h) a g, coord_key l (λ a. coord l c a - bit a o) a g (omega (arith, coord_lt l c a)))

  -- the mark of the cell that lies o higher than the cell k: marks ascend as the walk goes
  mark : ℕ → ℕ → ℕ → ℕ
  mark l k o = 32 * low_corner l (key l (λ a. coord l k a + bit a o)) + l

  divided_in : (l c : ℕ) → l ≤ limit → Cell l c → divided ks l c ≡ true → Point 8 mark (32 * low_corner l c + l)
  unfolding divided mark
  divided_in l c h cc d =
      let s = some_is (λ o. split_at ks l (entry ks l c o)) 8 d in
      let p : 0 < entry ks l c s.0 = omega (arith, split_deep ks l _ s.2, eight_pos l) in
      let y : ℕ = near l c s.0 in
      subst (λ (n : ℕ). Point 8 mark (32 * low_corner l n + l)) (key_ext l (λ a. coord l y a + bit a s.0) (coord l c) (beside l c s.0 p) ∙ key_coord l c cc)
      (split_point 8 mark l y s.0 h (near_cell l c s.0)
      (sym (split_over ks l y (near_cell l c s.0)) ∙ ap (split_at ks l) (sym (entry_in ks l c s.0 (inside l c s.0 p))) ∙ s.2) s.1)

  -- ---- a listed vertex is a middle of a split cell

  middle : ℕ → ℕ → ℕ → ℕ
  middle l k o = get_or (middles l k) o 0

  -- a corner of a node, from the node up
  climbs : (l k w v : ℕ) → l ≤ limit → Cell l k → 8 ^ l ≤ over ks l k → StrictlyInside v → Corner l k w v → Point 19 middle v
  unfolding middle
  climbs zero k w v h c o i x = absurd (omega (arith, inner_level 0 v i (corner_grid 0 k w v x)))
  climbs (suc l) k w v h c o i x =
      let up : Cell l (k / 8) = record { low = omega (arith, c.low, pow-suc 8 l); high = omega (arith, c.high, pow-suc 8 l) } in
      let s : is_split ks l (k / 8) ≡ true =
      decided (is_split ks l (k / 8)) (λ e. e) (λ e. absurd (omega (arith, over_next ks l k e, over_le ks l (k / 8), up.high, pow-suc 8 l, eight_pos l))) in
      ⊎_elim (λ u. climbs l (k / 8) u.0 v (omega arith) up (omega (arith, up.low, over_split ks l (k / 8) s)) i u.1)
      (λ m. subst (Point 19 middle) m.here (split_point 19 middle l (k / 8) m.place (omega arith) up s (omega (arith, m.inside, length_middles l (k / 8)))))
      (corner_up l k w v (omega arith) i x)

  meets_in : (l c : ℕ) → l ≤ limit → Cell l c → Meets ks l c → Point 19 middle (low_corner l c)
  unfolding low_corner Corner
  meets_in l c h cc m =
      let o : ℕ = m.fine.0 in
      let p : 0 < entry ks l c o = m.full o m.fine.1 in
      let some : (a : ℕ) → a < 3 → 0 < coord l c a = λ a g. omega (arith, beside l c 7 (m.full 7 (omega arith)) a g, axes (λ a. bit a 7 ≡ 1) refl refl refl a g) in
      climbs l (near l c o) o (c * 8 ^ (deepest - l)) h (near_cell l c o) (omega (arith, m.fine.2, entry_in ks l c o (inside l c o p)))
      (record {
        point = down_cell l c (omega arith) cc;
        inside = λ a g. subst (λ (n : ℕ). 0 < n) (sym (point_down l c a (omega arith) g)) (mul-pos (some a g) (pow_pos (deepest - l)));
      })
      (λ a g. point_down l c a (omega arith) g ∙ ap (λ (n : ℕ). n * 2 ^ (deepest - l)) (sym (beside l c o p a g)))

  -- ---- along the walk

  -- in the cell c the walk goes through one cell and at most eight for each mark there, and lists at most one vertex for each middle there
  record Most (f l c : ℕ) : Type 0 where
    cells : visited f ks l c + 8 * count 8 mark (32 * low_corner l (c + 1)) ≤ 1 + 8 * count 8 mark (32 * low_corner l c + l)
    spots : length (walked f ks l c) + count 19 middle (low_corner l (c + 1)) ≤ count 19 middle (low_corner l c)

  module _ (l c : ℕ) (h : l ≤ limit) (cc : Cell l c) where
    far : low_corner l c < low_corner l (c + 1)
    far = omega (arith, corner_next l c, eight_pos (deepest - l))

    most_end : (f : ℕ) → visited f ks l c ≡ 1 → length (walked f ks l c) ≤ length (ending ks l c) → Most f l c
    most_end f one few =
        record {
          cells = omega (arith, above_le 8 mark (8 * blocks) (32 * low_corner l c + l) (32 * low_corner l (c + 1)) (omega (arith, far)));
          spots =
              decided (meets ks l c)
              (λ e. omega (arith, ap length (ending_one ks l c e), above_in 19 middle (19 * blocks) (low_corner l c) (low_corner l c) _ (meets_in l c h cc (meets_is ks l c e)) (omega arith) far))
              (λ e. omega (arith, ap length (ending_none ks l c e), above_le 19 middle (19 * blocks) (low_corner l c) (low_corner l (c + 1)) (omega (arith, far))));
        }

    -- where the marks of child q begin
    abbrev cut : ℕ → ℕ
    cut q = 32 * low_corner (suc l) (8 * c + q) + (suc l - 32 * q)

    most_on : (f : ℕ) → ((q : ℕ) → q < 8 → Most f (suc l) (8 * c + q)) → divided ks l c ≡ true → Most (suc f) l c
    unfolding visited
    most_on f each e =
        let next : (q : ℕ) → low_corner (suc l) (8 * c + q + 1) ≡ low_corner (suc l) (8 * c + suc q) = λ q. ap (low_corner (suc l)) (omega arith) in
        let begins : (q : ℕ) → count 8 mark (32 * low_corner (suc l) (8 * c + q) + suc l) ≤ count 8 mark (cut q) =
        λ q. above_le 8 mark (8 * blocks) _ _ (omega arith) in
        let ends : (q : ℕ) → count 8 mark (cut (suc q)) ≤ count 8 mark (32 * low_corner (suc l) (8 * c + q + 1)) =
        λ q. above_le 8 mark (8 * blocks) _ _ (omega (arith, next q)) in
        record {
          cells =
              rw e
              (omega (
                arith,
                turns (λ q. visited f ks (suc l) (8 * c + q)) (λ q. 8 * count 8 mark (cut q) + (8 - q)) 8
                    (λ q g. omega (arith, (each q g).cells, begins q, ends q)),
                above_in 8 mark (8 * blocks) (32 * low_corner l c + l) _ (cut 0) (divided_in l c h cc e) (omega arith)
                    (omega (arith, corner_le l c (omega arith) 0)),
                above_le 8 mark (8 * blocks) (cut 8) (32 * low_corner l (c + 1)) (omega (arith, corner_last l c (omega arith))),
              ));
          spots =
              omega (
                arith,
                ap length (walked_on ks l c f e) ∙ turn_lengths (λ q. walked f ks (suc l) (8 * c + q)) 8,
                turns (λ q. length (walked f ks (suc l) (8 * c + q))) (λ q. count 19 middle (low_corner (suc l) (8 * c + q))) 8
                    (λ q g. omega (arith, (each q g).spots, ap (count 19 middle) (next q))),
                above_le 19 middle (19 * blocks) (low_corner l c) (low_corner (suc l) (8 * c + 0)) (corner_le l c (omega arith) 0),
                ap (count 19 middle) (corner_last l c (omega arith)),
              );
        }

  most : (f l c : ℕ) → l + f ≤ limit → Cell l c → Most f l c
  unfolding visited
  most zero l c h cc =
      most_end l c (omega arith) cc 0 refl
      (decided (divided ks l c) (λ e. omega (arith, ap length (walked_stop ks l c e))) (λ e. omega (arith, ap length (walked_end ks l c 0 e))))
  most (suc f) l c h cc =
      decided (divided ks l c) (most_on l c (omega arith) cc f (λ q g. most f (suc l) (8 * c + q) (omega arith) (child_cell l c q cc (omega arith))))
      (λ e. most_end l c (omega arith) cc (suc f) (rw e refl) (omega (arith, ap length (walked_end ks l c (suc f) e))))

  all : Most limit 0 1
  all = most limit 0 1 (omega arith) (record { low = omega arith; high = omega arith })

  pub steps_linear : visited limit ks 0 1 ≤ 64 * ((length ks.keys - 1) / 8) + 1
  steps_linear = omega (arith, all.cells, above_most 8 mark (8 * blocks) (32 * low_corner 0 1 + 0))

  pub vertices_linear : length (spots_of ks) ≤ most_of (length ks.keys)
  unfolding spots_of most_of
  vertices_linear = omega (arith, all.spots, above_most 19 middle (19 * blocks) (low_corner 0 1))

  -- fewer than a walk over all of them has room for
  pub vertices_few : length ks.keys ≤ 2 ^ 60 → length (spots_of ks) ≤ 2 ^ 62
  unfolding most_of
  vertices_few h = omega (arith, vertices_linear)
