-- Keys between levels, the points of a grid, and the cells around a point. Each fact is shown on one axis, for any axis. Assumes nothing.
use Prim.Native.Nat.{ℕ, zero, suc, ◌+◌, ◌*◌, ◌-◌, ◌/◌, ◌%◌, ◌^◌, ◌≤◌, ◌<◌}
use mathlib.Core.Path.{◌≡◌, refl, sym, ◌∙◌, ap, subst}
use native.Mathlib.Nat.{pow-suc, div-div-eq-div-mul, mul-div_cancel, div-add-mod', add-suc, add-zero, mul_assoc, div-eq_of_lt-le, mul-mod_left, mul-pos, sub-zero, mod-eq_of_lt}
use native.Mathlib.Omega.{arith}
use lib.Pow.{pow_pos, pow-add, shr_lt}
use Rattle.morton.specs.Field.{bit, coord, weave, key}
use Rattle.morton.specs.Level.{deepest, Cell}
use Rattle.morton.specs.Vertex.{side_of}
use Rattle.morton.proofs.Fields.{bit_le, div_step, mul_step, coord_lt, coord_key, key_coord, key_ext, key_cell, coord_up, cell_up}
use Rattle.morton.proofs.Sides.{sub_key}
use Rattle.geometry.specs.Corner.{Corner, StrictlyInside}

-- ---- a key and those above it

-- the octal digit of three bits
abbrev pub digit : (ℕ → ℕ) → ℕ
digit c = c 0 % 2 + 2 * (c 1 % 2) + 4 * (c 2 % 2)

pub bit_digit : (a : ℕ) (c : ℕ → ℕ) → a < 3 → bit a (digit c) ≡ c a % 2
bit_digit zero c h = omega arith
bit_digit (suc zero) c h = omega arith
bit_digit (suc (suc zero)) c h = omega arith
bit_digit (suc (suc (suc a))) c h = omega arith

pub key_suc : (L : ℕ) (c : ℕ → ℕ) → key (suc L) c ≡ 8 * key L (λ a. c a / 2) + digit c
unfolding weave
key_suc L c = omega (arith, pow-suc 8 L)

key_half : (L : ℕ) (c : ℕ → ℕ) → key (suc L) c / 8 ≡ key L (λ a. c a / 2)
key_half L c = omega (arith, key_suc L c)

-- the ancestor j levels up has the coordinates divided by 2^j
pub key_up : (j L : ℕ) (c : ℕ → ℕ) → key (L + j) c / 8 ^ j ≡ key L (λ a. c a / 2 ^ j)
key_up zero L c = rw add-zero (omega (arith, key_ext L c (λ a. c a / 2 ^ 0) (λ a l. omega arith)))
key_up (suc j) L c =
    ap (λ (n : ℕ). key n c / 8 ^ suc j) (add-suc L j)
    ∙ div_step (key (suc (L + j)) c) 8 j
    ∙ ap (λ (n : ℕ). n / 8 ^ j) (key_half (L + j) c)
    ∙ key_up j L (λ a. c a / 2)
    ∙ key_ext L (λ a. c a / 2 / 2 ^ j) (λ a. c a / 2 ^ suc j) (λ a l. sym (div_step (c a) 2 j))

-- a key times 8^j is the key with the coordinates times 2^j
pub key_down : (j L : ℕ) (c : ℕ → ℕ) → key (L + j) (λ a. c a * 2 ^ j) ≡ key L c * 8 ^ j
key_down zero L c = rw add-zero (omega (arith, key_ext L c (λ a. c a * 2 ^ 0) (λ a l. omega arith)))
key_down (suc j) L c =
    ap (λ (n : ℕ). key n (λ a. c a * 2 ^ suc j)) (add-suc L j)
    ∙ omega (
      arith,
      mul_step (key L c) 8 j,
      key_suc (L + j) (λ a. c a * 2 ^ suc j),
      key_down j L c,
      mul_step (c 0) 2 j,
      mul_step (c 1) 2 j,
      mul_step (c 2) 2 j,
      key_ext (L + j) (λ a. c a * 2 ^ suc j / 2) (λ a. c a * 2 ^ j) (λ a l. omega (arith, mul_step (c a) 2 j)),
    )

-- the ancestor of an ancestor
pub up_up : (f i j : ℕ) → f / 8 ^ i / 8 ^ j ≡ f / 8 ^ (i + j)
up_up f i j = rw (pow-add 8 i j) (div-div-eq-div-mul f (8 ^ i) (8 ^ j))

-- ---- points and sides

-- v is a point of the grid of level L
unfoldable pub OnGrid : ℕ → ℕ → Type 0
OnGrid L v = (a : ℕ) → a < 3 → coord deepest v a % 2 ^ (deepest - L) ≡ 0

-- the cell of level L on side w of the point v
unfoldable pub side : ℕ → ℕ → ℕ → ℕ
side L v w = key L (λ a. coord deepest v a / 2 ^ (deepest - L) - bit a w)

pub side_cell : (L v w : ℕ) → Cell L (side L v w)
unfolding side
side_cell L v w = key_cell L (λ a. coord deepest v a / 2 ^ (deepest - L) - bit a w)

-- ---- one axis: X is a coordinate of a point, p the edge of a cell of some level, both in the finest unit; b is 0 or 1

-- the corner at bit b of the interval c is X: the interval on side b of X is c
interval_of_corner : (c b p X : ℕ) → 0 < p → X ≡ (c + b) * p → X / p - b ≡ c
interval_of_corner c b p X h e = rw e (omega (arith, mul-div_cancel (c + b) h))

-- X lies on the grid, and inside
pub on_grid : (p X : ℕ) → 0 < X → X % p ≡ 0 → (m : ℕ) × (X ≡ suc m * p)
on_grid p X hx e = go (X / p) refl
  where
    go : (n : ℕ) → X / p ≡ n → (m : ℕ) × (X ≡ suc m * p)
    go zero z = absurd (omega (arith, div-add-mod' X p, ap (λ (n : ℕ). n * p) z))
    go (suc m) z = (m, omega (arith, div-add-mod' X p, ap (λ (n : ℕ). n * p) z))

-- the interval on side b of X has X for its corner at bit b
corner_of_interval : (b p X : ℕ) → 0 < p → b ≤ 1 → 0 < X → X % p ≡ 0 → X ≡ (X / p - b + b) * p
corner_of_interval b p X h hb hx e =
    let g : (m : ℕ) × (X ≡ suc m * p) = on_grid p X hx e in
    let d : X / p ≡ suc g.0 = ap (λ (n : ℕ). n / p) g.1 ∙ mul-div_cancel (suc g.0) h in
    let s : X / p - b + b ≡ suc g.0 = omega arith in
    g.1 ∙ sym (ap (λ (n : ℕ). n * p) s)

pub step_back : (m q b : ℕ) → 0 < q → b ≤ 1 → (suc m * q - b) / q ≡ suc m - b
step_back m q zero h hb = simp sub-zero (mul-div_cancel (suc m) h)
step_back m q (suc zero) h hb = let e : suc m - 1 ≡ m = omega arith in rw e (div-eq_of_lt-le q (omega arith) (omega arith))
step_back m q (suc (suc b)) h hb = omega arith

-- X on the grid of q * p: the interval of edge p on side b of X lies in that of edge q * p
interval_up : (b p q X : ℕ) → 0 < p → 0 < q → b ≤ 1 → 0 < X → X % (q * p) ≡ 0 → (X / p - b) / q ≡ X / (q * p) - b
interval_up b p q X hp hq hb hx e =
    let g : (m : ℕ) × (X ≡ suc m * (q * p)) = on_grid (q * p) X hx e in
    let d : X / (q * p) ≡ suc g.0 = ap (λ (n : ℕ). n / (q * p)) g.1 ∙ mul-div_cancel (suc g.0) (mul-pos hq hp) in
    let f : X / p ≡ suc g.0 * q =
    ap (λ (n : ℕ). n / p) (g.1 ∙ sym (mul_assoc (suc g.0) q p)) ∙ mul-div_cancel (suc g.0 * q) hp in
    rw (d, f) (step_back g.0 q b hq hb)

-- the grid of a smaller edge has every point of a greater
grid_finer : (p q X : ℕ) → X % (q * p) ≡ 0 → X % p ≡ 0
grid_finer p q X e =
    rw (← (div-add-mod' X (q * p)), e)
    (ap (λ (n : ℕ). n % p) (add-zero (X / (q * p) * (q * p)) ∙ sym (mul_assoc (X / (q * p)) q p)) ∙ mul-mod_left (X / (q * p) * q) p)

-- ---- corners and sides

-- a corner of a cell of level L is a point of its grid
pub corner_grid : (L k w v : ℕ) → Corner L k w v → OnGrid L v
unfolding Corner OnGrid
corner_grid L k w v c a l = rw (c a l) (mul-mod_left (coord L k a + bit a w) (2 ^ (deepest - L)))

-- the cell on side w of its own corner w
pub side_of_corner : (L k w v : ℕ) → Cell L k → Corner L k w v → side L v w ≡ k
unfolding Corner side
side_of_corner L k w v h c =
    key_ext L (λ a. coord deepest v a / 2 ^ (deepest - L) - bit a w) (coord L k)
    (λ a l. interval_of_corner (coord L k a) (bit a w) (2 ^ (deepest - L)) (coord deepest v a) (pow_pos (deepest - L)) (c a l))
    ∙ key_coord L k h

-- the cell on side w of a point of its grid has that point for its corner w
pub corner_of_side : (L w v : ℕ) → L ≤ deepest → StrictlyInside v → OnGrid L v → Corner L (side L v w) w v
unfolding Corner side OnGrid
corner_of_side L w v h i g a l =
    let e : L + (deepest - L) ≡ deepest = omega arith in
    let x : coord deepest v a < 2 ^ (L + (deepest - L)) = rw e (coord_lt deepest v a) in
    rw (coord_key L (λ b. coord deepest v b / 2 ^ (deepest - L) - bit b w) a l (omega (arith, shr_lt L (deepest - L) x)))
    (corner_of_interval (bit a w) (2 ^ (deepest - L)) (coord deepest v a) (pow_pos (deepest - L)) (bit_le a w) (i.inside a l) (g a l))

-- the edge of a cell j levels above
edge_up : (j L : ℕ) → L + j ≤ deepest → 2 ^ (deepest - L) ≡ 2 ^ j * 2 ^ (deepest - (L + j))
edge_up j L h = let e : deepest - L ≡ j + (deepest - (L + j)) = omega arith in ap (λ (n : ℕ). 2 ^ n) e ∙ pow-add 2 j (deepest - (L + j))

grid_down : (j L v : ℕ) → L + j ≤ deepest → OnGrid L v → OnGrid (L + j) v
unfolding OnGrid
grid_down j L v h g a l =
    grid_finer (2 ^ (deepest - (L + j))) (2 ^ j) (coord deepest v a)
    (ap (λ (n : ℕ). coord deepest v a % n) (sym (edge_up j L h)) ∙ g a l)

side_up : (j L w v : ℕ) → L + j ≤ deepest → StrictlyInside v → OnGrid L v → side (L + j) v w / 8 ^ j ≡ side L v w
unfolding side OnGrid
side_up j L w v h i g =
    key_up j L (λ a. coord deepest v a / 2 ^ (deepest - (L + j)) - bit a w)
    ∙ key_ext L (λ a. (coord deepest v a / 2 ^ (deepest - (L + j)) - bit a w) / 2 ^ j) (λ a. coord deepest v a / 2 ^ (deepest - L) - bit a w) (λ a l.
    interval_up (bit a w) (2 ^ (deepest - (L + j))) (2 ^ j) (coord deepest v a) (pow_pos (deepest - (L + j))) (pow_pos j) (bit_le a w) (i.inside a l)
    (ap (λ (n : ℕ). coord deepest v a % n) (sym (edge_up j L h)) ∙ g a l)
    ∙ ap (λ (n : ℕ). coord deepest v a / n - bit a w) (sym (edge_up j L h)))

-- a finer grid has every point of a coarser
pub grid_below : (L M v : ℕ) → L ≤ M → M ≤ deepest → OnGrid L v → OnGrid M v
grid_below L M v h m g = let e : L + (M - L) ≡ M = omega arith in subst (λ (n : ℕ). OnGrid n v) e (grid_down (M - L) L v (omega arith) g)

-- of the cells on side w, those of a finer grid lie in those of a coarser that has the point
pub side_above : (L M w v : ℕ) → L ≤ M → M ≤ deepest → StrictlyInside v → OnGrid L v → side M v w / 8 ^ (M - L) ≡ side L v w
side_above L M w v h m i g =
    let e : L + (M - L) ≡ M = omega arith in
    ap (λ (n : ℕ). side n v w / 8 ^ (M - L)) (sym e) ∙ side_up (M - L) L w v (omega arith) i g

-- a point inside the cube is on no grid of level 0
pub inner_level : (L v : ℕ) → StrictlyInside v → OnGrid L v → 1 ≤ L
unfolding OnGrid
inner_level zero v i g =
    absurd (omega (arith, i.inside 0 (omega arith), g 0 (omega arith), coord_lt deepest v 0, mod-eq_of_lt (coord_lt deepest v 0)))
inner_level (suc L) v i g = omega arith

-- ---- the side by the document's rule

-- the coordinates of the ancestor of a point
pub point_up : (L v a : ℕ) → L ≤ deepest → coord L (v / 8 ^ (deepest - L)) a ≡ coord deepest v a / 2 ^ (deepest - L)
point_up L v a h =
    let e : L + (deepest - L) ≡ deepest = omega arith in
    coord_up (deepest - L) L v a ∙ ap (λ (n : ℕ). coord n v a / 2 ^ (deepest - L)) e

pub point_cell : (L v : ℕ) → L ≤ deepest → Cell deepest v → Cell L (v / 8 ^ (deepest - L))
point_cell L v h c = let e : deepest ≡ L + (deepest - L) = omega arith in cell_up (deepest - L) L v (subst (λ (n : ℕ). Cell n v) e c)

-- no field borrows
pub side_is : (L v w : ℕ) → L ≤ deepest → w < 8 → Cell deepest v → ((a : ℕ) → a < 3 → bit a w ≤ coord deepest v a / 2 ^ (deepest - L)) → side_of L v w ≡ side L v w
unfolding side
side_is L v w h hw c b =
    sub_key L (v / 8 ^ (deepest - L)) w h (point_cell L v h c) (omega arith) (λ a l. omega (arith, b a l, point_up L v a h))
    ∙ key_ext L (λ a. coord L (v / 8 ^ (deepest - L)) a - bit a w) (λ a. coord deepest v a / 2 ^ (deepest - L) - bit a w)
    (λ a l. ap (λ (n : ℕ). n - bit a w) (point_up L v a h))

-- so it is on the grid
pub side_on_grid : (L v w : ℕ) → L ≤ deepest → w < 8 → StrictlyInside v → OnGrid L v → side_of L v w ≡ side L v w
unfolding OnGrid
side_on_grid L v w h hw i g = side_is L v w h hw i.point (λ a l. omega (arith, bit_le a w, some a l))
  where
    some : (a : ℕ) → a < 3 → 1 ≤ coord deepest v a / 2 ^ (deepest - L)
    some a l =
        let p = on_grid (2 ^ (deepest - L)) (coord deepest v a) (i.inside a l) (g a l) in
        omega (arith, ap (λ (n : ℕ). n / 2 ^ (deepest - L)) p.1 ∙ mul-div_cancel (suc p.0) (pow_pos (deepest - L)))
