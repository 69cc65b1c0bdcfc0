-- The places that are handed out with a vertex are those of the nodes over the cells on its eight sides, on any tables. Assumes nothing.
use Prim.Native.Nat.{ℕ, zero, suc, ◌+◌, ◌*◌, ◌-◌, ◌/◌, ◌^◌, ◌≤◌, ◌<◌}
use mathlib.Core.Path.{◌≡◌, refl, sym, ◌∙◌, ap, subst}
use mathlib.Core.Bool.{Bool, true, false, cond}
use mathlib.Core.List.{List, [], ◌∷◌, ◌++◌}
use native.Mathlib.Omega.{arith}
use lib.Dec.{leb}
use lib.ListN.{length, get_or, take, drop, length-drop, get_or-append}
use lib.Seq.{take-append-le, drop-append-le, drop-append-add}
use Rattle.morton.specs.Field.{bit, coord, sub}
use Rattle.morton.specs.Level.{deepest, limit, Cell}
use Rattle.morton.specs.Vertex.{is_inner, side_of}
use Rattle.morton.proofs.Cells.{child_cell}
use Rattle.morton.proofs.Dilated.{axes}
use Rattle.morton.proofs.Fields.{coord_lt}
use Rattle.morton.proofs.Levels.{eight_mono}
use Rattle.morton.proofs.Sides.{sub_key, inner_is}
use Rattle.morton.proofs.Vertices.{down_cell}
use Rattle.tree.specs.Down.{Nodes, place_over}
use Rattle.tree.proofs.Down.{over_place}
use Rattle.geometry.specs.Near.{near}
use Rattle.geometry.proofs.Offsets.{Within, near_cell, cube_in}
use Rattle.vertices.specs.Walk.{place_at, Spot, low_corner, spots_of, vertices_of, levels_of}
use Rattle.vertices.specs.Cells.{since, wanted, round_of, places_of, places_at, Cells, room_of, CellsSays}
use Rattle.vertices.specs.Listing.{written}
use Rattle.vertices.proofs.Entries.{node_within, entry_in, place_in}
use Rattle.vertices.proofs.Blocks.{Each, each_turn, walk_ind, ending_by, vertices_length, levels_length}
use Rattle.vertices.proofs.Spot.{Meets, corner_cell}
use Rattle.vertices.proofs.Law.{meets_is}
use Rattle.vertices.proofs.Storing.{eight_at_lem, places_length}

-- ---- all of some vertices

module _ (P : Spot → Type 0) where
  each_since : (from : ℕ) (ss : List Spot) → Each P ss → Each P (since from ss)
  unfolding since
  each_since from [] a = tt
  each_since from (s ∷ ss) a = go (leb from s.vertex) (each_since from ss a.1)
    where
      go : (r : Bool) → Each P (since from ss) → Each P (cond r (s ∷ since from ss) (since from ss))
      go true b = (a.0, b)
      go false b = b

  each_take : (n : ℕ) (ss : List Spot) → Each P ss → Each P (take n ss)
  each_take zero ss a = tt
  each_take (suc n) [] a = tt
  each_take (suc n) (s ∷ ss) a = (a.0, each_take n ss a.1)

  each_wanted : (from room : ℕ) (ss : List Spot) → Each P ss → Each P (wanted from room ss)
  unfolding wanted
  each_wanted from room ss a = each_take room (since from ss) (each_since from ss a)

-- ---- the nodes round a vertex

-- v is an inner vertex at level L, the root isn't alone, and the places are those of the nodes over its sides
pub record Placed (n : Nodes) (L v : ℕ) (places : List ℕ) : Type 0 where
  pub inner : is_inner L v ≡ true
  pub word : v < 2 ^ 64
  pub more : 1 < length n.keys
  pub eight : length places ≡ 8
  pub at : (i : ℕ) → i < 8 → get_or places i 0 ≡ place_over n L (side_of L v i)

bit_seven : (a : ℕ) → a < 3 → bit a 7 ≡ 1
bit_seven = axes (λ a. bit a 7 ≡ 1) refl refl refl

module _ (n : Nodes) where
  module _ (l c : ℕ) (hl : l ≤ limit) (cc : Cell l c) (m : Meets n l c) where
    within : (i : ℕ) → i < 8 → Within l c i
    within i h = node_within n l c i (m.full i h)

    some_coord : (a : ℕ) → a < 3 → 1 ≤ coord l c a
    unfolding Within
    some_coord a h = omega (arith, within 7 (omega arith) a h, bit_seven a h)

    deep : 1 ≤ l
    deep = go l refl
      where
        go : (j : ℕ) → l ≡ j → 1 ≤ l
        go zero e = absurd (omega (arith, some_coord 0 (omega arith), coord_lt l c 0, ap (λ (n : ℕ). 2 ^ n) e))
        go (suc j) e = omega arith

    side_near : (i : ℕ) → i < 8 → side_of l (low_corner l c) i ≡ near l c i
    unfolding near Within
    side_near i h = ap (λ (k : ℕ). sub k i) (corner_cell l c) ∙ sub_key l c i (omega arith) cc (omega arith) (within i h)

    -- the entry of the cell's own level is another node than the root
    more : 1 < length n.keys
    more =
        let f = m.fine in
        let e = entry_in n l c f.0 (cube_in l c f.0 (within f.0 f.1)) in
        omega (arith, over_place n l (near l c f.0) (near_cell l c f.0) (omega (arith, f.2, e, eight_mono {i = 1} {j = l} deep)))

    placed_here : Placed n l (low_corner l c) (round_of n (record { vertex = low_corner l c; level = l }))
    unfolding low_corner round_of
    placed_here =
        record {
          inner = inner_is l c deep (omega arith) cc some_coord;
          word = omega (arith, (down_cell l c (omega arith) cc).high);
          more = more;
          eight = refl;
          at = λ i h.
              eight_at_lem (λ o. place_at n l (low_corner l c / 8 ^ (deepest - l)) o) i h
              ∙ ap (λ (k : ℕ). place_at n l k i) (corner_cell l c)
              ∙ place_in n l c i (cube_in l c i (within i h))
              ∙ ap (place_over n l) (sym (side_near i h));
        }

  abbrev Round : Spot → Type 0
  Round s = Placed n s.level s.vertex (round_of n s)

  rounds : Each Round (spots_of n)
  unfolding spots_of
  rounds =
      walk_ind n Cell (λ l c. Each Round)
      (λ l c q h a d. child_cell l c q a (omega arith))
      (λ l c hl a d. ending_by n l c (Each Round) (λ e. (placed_here l c hl a (meets_is n l c e), tt)) (λ e. tt))
      (λ l c e a d. tt) (λ l c h g each. each_turn Round g 8 each) limit 0 1 (omega arith)
      (record { low = omega arith; high = omega arith })

  -- ---- in the tables

  eight_first : (s : Spot) (ps : List ℕ) → places_at 0 (round_of n s ++ ps) ≡ round_of n s
  unfolding round_of
  eight_first s ps = refl

  eight_later : (s : Spot) (ps : List ℕ) (j : ℕ) → places_at (suc j) (round_of n s ++ ps) ≡ places_at j ps
  unfolding round_of
  eight_later s ps j =
      let e : 8 * suc j ≡ 8 + 8 * j = omega arith in
      ap (λ (k : ℕ). take 8 (drop k (round_of n s ++ ps))) e ∙ ap (take 8) (drop-append-add (round_of n s) ps (8 * j))

  -- vertex j of some, with the eight places that go with it
  of_spots : (ss : List Spot) → Each Round ss → (j : ℕ) → j < length ss
      → Placed n (get_or (levels_of ss) j 0) (get_or (vertices_of ss) j 0) (places_at j (places_of n ss))
  unfolding levels_of vertices_of places_of
  of_spots [] a j h = absurd (omega arith)
  of_spots (s ∷ ss) a zero h = subst (Placed n s.level s.vertex) (sym (eight_first s (places_of n ss))) a.0
  of_spots (s ∷ ss) a (suc j) h =
      subst (Placed n (get_or (levels_of ss) j 0) (get_or (vertices_of ss) j 0)) (sym (eight_later s (places_of n ss) j)) (of_spots ss a.1 j (omega arith))

  -- of all
  pub spots_right : (j : ℕ) → j < length (spots_of n)
      → Placed n (get_or (levels_of (spots_of n)) j 0) (get_or (vertices_of (spots_of n)) j 0) (places_at j (places_of n (spots_of n)))
  spots_right = of_spots (spots_of n) rounds

  -- of one call
  pub cells_right : (from : ℕ) (was left : Cells) (k : ℕ) → CellsSays n from was left k → (j : ℕ) → j < k
      → Placed n (get_or left.levels j 0) (get_or left.vertices j 0) (places_at j left.places)
  cells_right from was left k says j h =
      subst (λ (L : ℕ). Placed n L (get_or left.vertices j 0) (places_at j left.places)) (sym (at_first levels_of was.levels says.levels_are (levels_length some)))
      (subst (λ (v : ℕ). Placed n (get_or (levels_of some) j 0) v (places_at j left.places)) (sym (at_first vertices_of was.vertices says.vertices_are (vertices_length some)))
      (subst (Placed n (get_or (levels_of some) j 0) (get_or (vertices_of some) j 0)) (sym places_first)
      (of_spots some (each_wanted Round from (room_of was) (spots_of n) rounds) j short)))
    where
      some : List Spot
      some = wanted from (room_of was) (spots_of n)

      short : j < length some
      short = omega (arith, says.count)

      -- in a table that the call wrote to
      at_first : (of : List Spot → List ℕ) (before : List ℕ) {after : List ℕ} → after ≡ written before 0 (of some) → length (of some) ≡ length some
          → get_or after j 0 ≡ get_or (of some) j 0
      at_first of before e l = ap (λ (xs : List ℕ). get_or xs j 0) e ∙ get_or-append (of some) (drop (0 + length (of some)) before) 0 j (omega (arith, short))

      places_first : places_at j left.places ≡ places_at j (places_of n some)
      places_first =
          let rest : List ℕ = drop (0 + length (places_of n some)) was.places in
          ap (places_at j) says.places_are
          ∙ ap (take 8) (drop-append-le (8 * j) (places_of n some) rest (omega (arith, places_length n some, short)))
          ∙ take-append-le 8 (drop (8 * j) (places_of n some)) rest (omega (arith, length-drop (8 * j) (places_of n some), places_length n some, short))
