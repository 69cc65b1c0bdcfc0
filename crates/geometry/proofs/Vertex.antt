-- The vertex of a corner is that corner, where it lies strictly inside the cube; an inner vertex is a point of its grid. Assumes nothing.
use Prim.Native.Nat.{ℕ, ◌+◌, ◌*◌, ◌-◌, ◌/◌, ◌%◌, ◌^◌, ◌≤◌, ◌<◌}
use mathlib.Core.Path.{◌≡◌, sym, ◌∙◌, ap, subst}
use mathlib.Core.Bool.{true, ◌&&◌}
use native.Mathlib.Nat.{lt_of_mul-lt-mul_right, mul-pos, mul-mod_left, div-add-mod', div-lt_iff_lt-mul, mod-eq_of_lt}
use native.Mathlib.Omega.{arith}
use lib.Dec.{leb, eqb}
use lib.Pow.{pow_pos, pow-add}
use borrow.Author.Tests.{eqb-true}
use Rattle.morton.specs.Field.{bit, coord, key}
use Rattle.morton.specs.Level.{deepest, Cell}
use Rattle.morton.specs.Vertex.{inside, corner_at, vertex_of, is_inner, side_of}
use Rattle.morton.proofs.Levels.{and_true, lead_cell}
use Rattle.morton.proofs.Fields.{coord_lt, coord_key, key_coord, key_ext, key_cell, coord_down}
use Rattle.morton.proofs.Vertices.{inside_is, inside_if, down_cell, low_pow, vertex_if, inner_level}
use Rattle.morton.proofs.Sides.{vertex_level, vertex_inside, vertex_is}
use Rattle.geometry.specs.Corner.{Corner, StrictlyInside}
use Rattle.geometry.proofs.Place.{key_down, OnGrid, corner_of_side, side_on_grid}

-- the coordinates of a key that is moved down to the vertex grid
pub point_down : (L q a : ℕ) → L ≤ deepest → a < 3 → coord deepest (q * 8 ^ (deepest - L)) a ≡ coord L q a * 2 ^ (deepest - L)
point_down L q a h l =
    let e : deepest ≡ L + (deepest - L) = omega arith in
    ap (λ (n : ℕ). coord n (q * 8 ^ (deepest - L)) a) e ∙ coord_down (deepest - L) L q a l

-- what a vertex that is one says of the cell
module _ (L k w v : ℕ) (e : vertex_of L k w ≡ v) (p : 0 < v) where
  some : vertex_of L k w ≡ 0 → ⊥
  some z = omega arith

  pub given_level : L ≤ 20
  given_level = vertex_level L k w some

  corner : ℕ
  corner = key L (corner_at L k w)

  moved : v ≡ corner * 8 ^ (deepest - L)
  unfolding corner
  moved = sym e ∙ vertex_is L k w some

  pub vertex_cell : Cell deepest v
  unfolding corner
  vertex_cell = subst (Cell deepest) (sym moved) (down_cell L corner (omega (arith, given_level)) (key_cell L (corner_at L k w)))

  inner : (a : ℕ) → a < 3 → (1 ≤ corner_at L k w a) × (corner_at L k w a < 2 ^ L)
  inner = inside_is L (corner_at L k w) (vertex_inside L k w some)

  at : (a : ℕ) → a < 3 → coord deepest v a ≡ corner_at L k w a * 2 ^ (deepest - L)
  unfolding corner
  at a l =
      ap (λ (n : ℕ). coord deepest n a) moved
      ∙ point_down L corner a (omega (arith, given_level)) l
      ∙ ap (λ (n : ℕ). n * 2 ^ (deepest - L)) (coord_key L (corner_at L k w) a l (inner a l).1)

  pub vertex_corner : Corner L k w v
  unfolding Corner
  vertex_corner = at

  pub vertex_strict : StrictlyInside v
  vertex_strict =
      record {
        point = vertex_cell;
        inside = λ a l. subst (λ (n : ℕ). 0 < n) (sym (at a l)) (mul-pos (inner a l).0 (pow_pos (deepest - L)));
      }

-- and back
module _ (L k w v : ℕ) (h : L ≤ 20) (c : Corner L k w v) (i : StrictlyInside v) where
  whole : 2 ^ deepest ≡ 2 ^ L * 2 ^ (deepest - L)
  whole = let e : deepest ≡ L + (deepest - L) = omega arith in ap (λ (n : ℕ). 2 ^ n) e ∙ pow-add 2 L (deepest - L)

  low : (a : ℕ) → a < 3 → 1 ≤ corner_at L k w a
  unfolding Corner
  low a l = lt_of_mul-lt-mul_right (2 ^ (deepest - L)) (omega (arith, c a l, i.inside a l))

  high : (a : ℕ) → a < 3 → corner_at L k w a < 2 ^ L
  unfolding Corner
  high a l = lt_of_mul-lt-mul_right (2 ^ (deepest - L)) (omega (arith, c a l, coord_lt deepest v a, whole))

  pub corner_vertex : vertex_of L k w ≡ v
  unfolding Corner
  corner_vertex =
      let e : L + (deepest - L) ≡ deepest = omega arith in
      vertex_if L k w h true (inside_if L (corner_at L k w) (λ a l. (low a l, high a l)))
      ∙ sym (key_down (deepest - L) L (corner_at L k w))
      ∙ ap (λ (n : ℕ). key n (λ a. corner_at L k w a * 2 ^ (deepest - L))) e
      ∙ key_ext deepest (λ a. corner_at L k w a * 2 ^ (deepest - L)) (coord deepest v) (λ a l. sym (c a l))
      ∙ key_coord deepest v i.point

-- ---- inner vertices, as the document tests them

module _ (L v : ℕ) (l : v < 2 ^ 64) (e : is_inner L v ≡ true) where
  parts : (bit 63 v ≡ 1) × (v % 8 ^ (deepest - L) ≡ 0) × (inside L (coord L (v / 8 ^ (deepest - L))) ≡ true)
  unfolding is_inner
  parts =
      let p = and_true (leb 1 L && leb L 20) _ e in
      let q = and_true (eqb (bit 63 v) 1) _ p.1 in
      let r = and_true (eqb (v % 2 ^ (3 * (deepest - L))) 0) _ q.1 in (
        eqb-true (bit 63 v) 1 q.0,
        ap (λ (n : ℕ). v % n) (sym (low_pow L)) ∙ eqb-true (v % 2 ^ (3 * (deepest - L))) 0 r.0,
        r.1,
      )

  shallow : L ≤ deepest
  shallow = omega (arith, inner_level L v e)

  inner_cell : Cell deepest v
  inner_cell = lead_cell deepest v (sym (mod-eq_of_lt ((div-lt_iff_lt-mul (pow_pos 63)).1 l)) ∙ parts.0)

  moved_up : v ≡ v / 8 ^ (deepest - L) * 8 ^ (deepest - L)
  moved_up = omega (arith, div-add-mod' v (8 ^ (deepest - L)), parts.1)

  on : (a : ℕ) → a < 3 → coord deepest v a ≡ coord L (v / 8 ^ (deepest - L)) a * 2 ^ (deepest - L)
  on a h = ap (λ (n : ℕ). coord deepest n a) moved_up ∙ point_down L (v / 8 ^ (deepest - L)) a shallow h

  pub inner_strict : StrictlyInside v
  inner_strict =
      record {
        point = inner_cell;
        inside = λ a h.
            subst (λ (n : ℕ). 0 < n) (sym (on a h))
            (mul-pos (inside_is L (coord L (v / 8 ^ (deepest - L))) parts.2 a h).0 (pow_pos (deepest - L)));
      }

  pub inner_grid : OnGrid L v
  unfolding OnGrid
  inner_grid a h = ap (λ (n : ℕ). n % 2 ^ (deepest - L)) (on a h) ∙ mul-mod_left (coord L (v / 8 ^ (deepest - L)) a) (2 ^ (deepest - L))

  -- so it is the vertex at corner w of its cell on side w: what is inner and what is a vertex of a cell are the same numbers
  pub inner_vertex : (w : ℕ) → w < 8 → vertex_of L (side_of L v w) w ≡ v
  inner_vertex w h =
      corner_vertex L (side_of L v w) w v (inner_level L v e).1
      (subst (λ (k : ℕ). Corner L k w v) (sym (side_on_grid L v w shallow h inner_strict inner_grid)) (corner_of_side L w v shallow inner_strict inner_grid))
      inner_strict
