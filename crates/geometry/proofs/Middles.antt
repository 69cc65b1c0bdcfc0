-- The points that a split adds, the middles of the cell, of its faces and of its edges; and those of the grid of level 2. Assumes nothing.
use Prim.Native.Nat.{ℕ, suc, ◌+◌, ◌*◌, ◌-◌, ◌/◌, ◌%◌, ◌^◌, ◌≤◌, ◌<◌}
use mathlib.Core.Path.{◌≡◌, refl, sym, ◌∙◌, ap, ap₂}
use mathlib.Core.Bool.{Bool, true, false, ◌||◌, true≢false}
use mathlib.Core.Logic.{◌⊎◌, inl, inr}
use mathlib.Core.List.{List, map}
use native.Mathlib.Nat.{pow-succ', mul_assoc}
use native.Mathlib.Omega.{arith}
use lib.Dec.{eqb}
use lib.ListN.{length, length-map}
use borrow.Author.Tests.{eqb-false}
use Rattle.morton.specs.Field.{bit, coord, key}
use Rattle.morton.specs.Level.{deepest, Cell}
use Rattle.morton.proofs.Dilated.{axes}
use Rattle.morton.proofs.Fields.{bit_le, coord_lt, coord_suc, key_coord, key_ext}
use Rattle.tree.specs.Tree.{In}
use Rattle.tree.proofs.Lists.{in_cast}
use Rattle.geometry.specs.Corner.{Corner, StrictlyInside}
use Rattle.geometry.proofs.Place.{digit, bit_digit, OnGrid}
use Rattle.geometry.proofs.Few.{keep, in_keep, numbers, in_numbers, in_map}

-- ---- points by steps from one another

-- A number below 27 as steps of 0, 1 or 2 along each axis, and back.
abbrev steps : ℕ → ℕ → ℕ
steps n a = n / 3 ^ a % 3

abbrev number : (ℕ → ℕ) → ℕ
number o = o 0 + 3 * o 1 + 9 * o 2

steps_number : (o : ℕ → ℕ) → ((a : ℕ) → a < 3 → o a ≤ 2) → (a : ℕ) → a < 3 → steps (number o) a ≡ o a
steps_number o h =
    let x = h 0 (omega arith) in
    let y = h 1 (omega arith) in
    let z = h 2 (omega arith) in
    axes (λ a. steps (number o) a ≡ o a) (omega arith) (omega arith) (omega arith)

number_lt : (o : ℕ → ℕ) → ((a : ℕ) → a < 3 → o a ≤ 2) → number o < 27
number_lt o h = omega (arith, h 0 (omega arith), h 1 (omega arith), h 2 (omega arith))

-- The point that lies n, as steps of 2^j, beyond the coordinates c times 2^j.
abbrev beyond : (ℕ → ℕ) → ℕ → ℕ → ℕ
beyond c j n = key deepest (λ a. (c a + steps n a) * 2 ^ j)

beyond_is : (c o : ℕ → ℕ) (j v : ℕ) → Cell deepest v → ((a : ℕ) → a < 3 → o a ≤ 2) → ((a : ℕ) → a < 3 → coord deepest v a ≡ (c a + o a) * 2 ^ j)
    → v ≡ beyond c j (number o)
beyond_is c o j v p h e =
    sym (key_coord deepest v p)
    ∙ key_ext deepest (coord deepest v) (λ a. (c a + steps (number o) a) * 2 ^ j)
    (λ a l. e a l ∙ ap (λ (n : ℕ). (c a + n) * 2 ^ j) (sym (steps_number o h a l)))

-- ---- the grid of level 2

-- The points of the grid of level 2 inside the cube.
pub coarse : List ℕ
coarse = map (beyond (λ a. 1) 19) (numbers 0 27)

pub length_coarse : length coarse ≡ 27
unfolding coarse numbers
length_coarse = refl

pub in_coarse : (v : ℕ) → StrictlyInside v → OnGrid 2 v → In v coarse
unfolding coarse OnGrid
in_coarse v i g =
    in_cast (beyond_is (λ a. 1) o 19 v i.point few_steps (λ a l. omega (arith, i.inside a l, g a l)))
    (in_map (beyond (λ a. 1) 19) (numbers 0 27) (number o) (in_numbers 0 27 (number o) (omega arith) (number_lt o few_steps)))
  where
    o : ℕ → ℕ
    o a = coord deepest v a / 2 ^ 19 - 1

    few_steps : (a : ℕ) → a < 3 → o a ≤ 2
    few_steps a l = omega (arith, coord_lt deepest v a)

-- ---- the middles of a cell

-- Of the 27 points half an edge apart, those that a step of 1 leads to aren't corners.
abbrev mixed : ℕ → Bool
mixed n = eqb (steps n 0) 1 || (eqb (steps n 1) 1 || eqb (steps n 2) 1)

nineteen : List ℕ
nineteen = keep mixed (numbers 0 27)

length_nineteen : length nineteen ≡ 19
unfolding nineteen keep numbers
length_nineteen = refl

-- The middles of the cell k of level L.
pub middles : ℕ → ℕ → List ℕ
middles L k = map (beyond (λ a. 2 * coord L k a) (deepest - suc L)) nineteen

pub length_middles : (L k : ℕ) → length (middles L k) ≡ 19
unfolding middles
length_middles L k = length-map nineteen (beyond (λ a. 2 * coord L k a) (deepest - suc L)) ∙ length_nineteen

not_mixed : (n : ℕ) → mixed n ≡ false → (a : ℕ) → a < 3 → steps n a ≡ 1 → ⊥
not_mixed n e = go (eqb (steps n 0) 1) refl (eqb (steps n 1) 1) refl e
  where
    go : (b : Bool) → eqb (steps n 0) 1 ≡ b → (c : Bool) → eqb (steps n 1) 1 ≡ c → b || (c || eqb (steps n 2) 1) ≡ false → (a : ℕ) → a < 3 → steps n a ≡ 1 → ⊥
    go false x false y z =
        axes (λ a. steps n a ≡ 1 → ⊥) (eqb-false (steps n 0) 1 x) (eqb-false (steps n 1) 1 y) (eqb-false (steps n 2) 1 z)
    go false x true y z = absurd (true≢false z)
    go true x c y z = absurd (true≢false z)

-- on an axis: without a step of 1 it is a corner of the cell of coordinate c
half_steps : (c o j x : ℕ) → x ≡ (2 * c + o) * 2 ^ j → o ≤ 2 → (o ≡ 1 → ⊥) → x ≡ (c + o / 2) * 2 ^ suc j
half_steps c o j x e h n =
    let f : 2 * c + o ≡ (c + o / 2) * 2 = omega (arith, n) in
    e ∙ ap (λ (m : ℕ). m * 2 ^ j) f ∙ mul_assoc (c + o / 2) 2 (2 ^ j) ∙ ap (λ (m : ℕ). (c + o / 2) * m) (sym (pow-succ' 2 j))

-- A corner of a cell is a corner of its parent or one of the middles of its parent.
module _ (L k w v : ℕ) (h : suc L ≤ deepest) (i : StrictlyInside v) (c : Corner (suc L) k w v) where
  -- the steps from the parent's first corner
  o : ℕ → ℕ
  o a = bit a k + bit a w

  o_le : (a : ℕ) → a < 3 → o a ≤ 2
  unfolding o
  o_le a l = omega (arith, bit_le a k, bit_le a w)

  at : (a : ℕ) → a < 3 → coord deepest v a ≡ (2 * coord L (k / 8) a + o a) * 2 ^ (deepest - suc L)
  unfolding Corner o
  at a l =
      let e : coord (suc L) k a + bit a w ≡ 2 * coord L (k / 8) a + (bit a k + bit a w) = omega (arith, coord_suc L k a) in
      c a l ∙ ap (λ (n : ℕ). n * 2 ^ (deepest - suc L)) e

  corner_above : mixed (number o) ≡ false → Corner L (k / 8) (digit (λ a. o a / 2)) v
  unfolding Corner
  corner_above e a l =
      let n : o a ≡ 1 → ⊥ = λ z. not_mixed (number o) e a l (steps_number o o_le a l ∙ z) in
      let b : o a / 2 ≡ bit a (digit (λ a. o a / 2)) = omega (arith, o_le a l, bit_digit a (λ a. o a / 2) l) in
      let up : suc (deepest - suc L) ≡ deepest - L = omega arith in
      half_steps (coord L (k / 8) a) (o a) (deepest - suc L) (coord deepest v a) (at a l) (o_le a l) n
      ∙ ap₂ (λ (x y : ℕ). (coord L (k / 8) a + x) * 2 ^ y) b up

  in_middles : mixed (number o) ≡ true → In v (middles L (k / 8))
  unfolding middles nineteen
  in_middles e =
      in_cast (beyond_is (λ a. 2 * coord L (k / 8) a) o (deepest - suc L) v i.point o_le at)
      (in_map (beyond (λ a. 2 * coord L (k / 8) a) (deepest - suc L)) nineteen (number o)
      (in_keep mixed (numbers 0 27) (number o) e (in_numbers 0 27 (number o) (omega arith) (number_lt o o_le))))

  pub corner_up : ((u : ℕ) × Corner L (k / 8) u v) ⊎ In v (middles L (k / 8))
  corner_up = go (mixed (number o)) refl
    where
      go : (b : Bool) → mixed (number o) ≡ b → ((u : ℕ) × Corner L (k / 8) u v) ⊎ In v (middles L (k / 8))
      go true e = inr (in_middles e)
      go false e = inl (digit (λ a. o a / 2), corner_above e)
