-- The cells one lower on the axes, from those of the parent. Assumes nothing.
use Prim.Native.Nat.{ℕ, zero, suc, ◌+◌, ◌*◌, ◌-◌, ◌/◌, ◌%◌, ◌^◌, ◌≤◌, ◌<◌, min}
use mathlib.Core.Path.{◌≡◌, refl, sym, ◌∙◌, ap, ap₂}
use mathlib.Core.Bool.{Bool, true, false, ◌&&◌, true≢false}
use native.Mathlib.Omega.{arith}
use borrow.Author.Tests.{leb-true, le-leb}
use lib.Bits.{bit_and, bit_xor, differ, and_le_l, and_shr, and_step, xor_lt, xor_shr, xor_step}
use Rattle.morton.specs.Level.{Cell}
use Rattle.morton.specs.Field.{bit, coord}
use Rattle.morton.proofs.Dilated.{axes}
use Rattle.morton.proofs.Levels.{and_true}
use Rattle.morton.proofs.Fields.{bit_le, coord_child, key_cell, key_ext}
use Rattle.geometry.proofs.Place.{key_suc}
use Rattle.geometry.specs.Near.{near, in_cube}

-- ---- bits of offsets

pub and_bit : (a x y : ℕ) → bit a (bit_and x y) ≡ min (bit a x) (bit a y)
and_bit a x y = ap (λ (n : ℕ). n % 2) (and_shr x y a) ∙ omega (arith, and_step (x / 2 ^ a) (y / 2 ^ a))

differ_bits : (x y : ℕ) → x ≤ 1 → y ≤ 1 → differ x y ≡ (x + y) % 2
differ_bits zero y h l = omega arith
differ_bits (suc zero) zero h l = omega arith
differ_bits (suc zero) (suc zero) h l = omega arith
differ_bits (suc zero) (suc (suc y)) h l = absurd (omega arith)
differ_bits (suc (suc x)) y h l = absurd (omega arith)

xor_bit : (a x y : ℕ) → bit a (bit_xor x y) ≡ (bit a x + bit a y) % 2
xor_bit a x y =
    ap (λ (n : ℕ). n % 2) (xor_shr x y a) ∙ omega (arith, xor_step (x / 2 ^ a) (y / 2 ^ a), differ_bits (bit a x) (bit a y) (bit_le a x) (bit_le a y))

-- the offset q taken from 7
pub rest_bit : (q : ℕ) → q < 8 → (a : ℕ) → a < 3 → bit a (7 - q) ≡ 1 - bit a q
rest_bit q h = axes (λ a. bit a (7 - q) ≡ 1 - bit a q) (omega arith) (omega arith) (omega arith)

kept_bit : (a o q : ℕ) → a < 3 → q < 8 → bit a (bit_and o (7 - q)) ≡ bit a o - bit a q
kept_bit a o q l hq = omega (arith, and_bit a o (7 - q), rest_bit q hq a l, bit_le a o, bit_le a q)

pub kept_lt : (o q : ℕ) → o < 8 → bit_and o (7 - q) < 8
kept_lt o q h = omega (arith, and_le_l o (7 - q))

pub flip_lt : (q o : ℕ) → q < 8 → o < 8 → bit_xor q o < 8
flip_lt q o hq ho = xor_lt 3 q o hq ho

bits_join : (w : ℕ) → w < 8 → bit 0 w + 2 * bit 1 w + 4 * bit 2 w ≡ w
bits_join w h = omega arith

bits_same : (v w : ℕ) → v < 8 → w < 8 → ((a : ℕ) → a < 3 → bit a v ≡ bit a w) → v ≡ w
bits_same v w h g e =
    sym (bits_join v h)
    ∙ ap₂ ◌+◌ (ap₂ ◌+◌ (e 0 (omega arith)) (ap (λ (n : ℕ). 2 * n) (e 1 (omega arith)))) (ap (λ (n : ℕ). 4 * n) (e 2 (omega arith)))
    ∙ bits_join w g

-- an offset without bits
pub no_bits : (o : ℕ) → o < 8 → ((a : ℕ) → a < 3 → bit a o ≡ 0) → o ≡ 0
no_bits o h z = omega (arith, bits_join o h, z 0 (omega arith), z 1 (omega arith), z 2 (omega arith))

-- what is kept shares no bit with q, and is kept again
module _ (o q : ℕ) (ho : o < 8) (hq : q < 8) where
  pub kept_none : bit_and (bit_and o (7 - q)) q ≡ 0
  kept_none =
      no_bits (bit_and (bit_and o (7 - q)) q) (omega (arith, kept_lt o q ho, and_le_l (bit_and o (7 - q)) q))
      (λ a l. omega (arith, and_bit a (bit_and o (7 - q)) q, kept_bit a o q l hq, bit_le a o, bit_le a q))

  pub kept_again : bit_and (bit_and o (7 - q)) (7 - q) ≡ bit_and o (7 - q)
  kept_again =
      bits_same (bit_and (bit_and o (7 - q)) (7 - q)) (bit_and o (7 - q)) (kept_lt (bit_and o (7 - q)) q (kept_lt o q ho)) (kept_lt o q ho)
      (λ a l. omega (arith, kept_bit a (bit_and o (7 - q)) q l hq, kept_bit a o q l hq))

-- ---- cells

pub near_cell : (l c o : ℕ) → Cell l (near l c o)
unfolding near
near_cell l c o = key_cell l (λ a. coord l c a - bit a o)

-- the cell that lies o lower lies in the cube
unfoldable pub Within : ℕ → ℕ → ℕ → Type 0
Within l c o = (a : ℕ) → a < 3 → bit a o ≤ coord l c a

pub in_cube_lem : (l c o : ℕ) → in_cube l c o ≡ true → Within l c o
unfolding in_cube Within
in_cube_lem l c o e =
    let x = and_true _ _ e in
    let y = and_true _ _ x.1 in
    axes (λ a. bit a o ≤ coord l c a) (leb-true _ _ x.0) (leb-true _ _ y.0) (leb-true _ _ y.1)

pub cube_in : (l c o : ℕ) → Within l c o → in_cube l c o ≡ true
unfolding in_cube Within
cube_in l c o w =
    ap₂ ◌&&◌ (le-leb _ _ (w 0 (omega arith))) (ap₂ ◌&&◌ (le-leb _ _ (w 1 (omega arith))) (le-leb _ _ (w 2 (omega arith))))

pub cube_out : (l c o : ℕ) → (Within l c o → ⊥) → in_cube l c o ≡ false
cube_out l c o n = go (in_cube l c o) refl
  where
    go : (r : Bool) → in_cube l c o ≡ r → in_cube l c o ≡ false
    go true e = absurd (n (in_cube_lem l c o e))
    go false e = e

pub within_or_not : (l c o : ℕ) → Dec (Within l c o)
within_or_not l c o = go (in_cube l c o) refl
  where
    go : (r : Bool) → in_cube l c o ≡ r → Dec (Within l c o)
    go true e = yes (in_cube_lem l c o e)
    go false e = no (λ w. true≢false (sym (cube_in l c o w) ∙ e))

-- entry o of child q lies in entry o and not q of its parent, as the child q xor o
module _ (l c q o : ℕ) (hq : q < 8) (ho : o < 8) where
  pub within_up : Within (suc l) (8 * c + q) o → Within l c (bit_and o (7 - q))
  unfolding Within
  within_up w a h = omega (arith, w a h, kept_bit a o q h hq, coord_child l c q a (omega arith) h, bit_le a o, bit_le a q)

  pub within_down : Within l c (bit_and o (7 - q)) → Within (suc l) (8 * c + q) o
  unfolding Within
  within_down w a h = omega (arith, w a h, kept_bit a o q h hq, coord_child l c q a (omega arith) h, bit_le a o, bit_le a q)

  pub near_step : Within l c (bit_and o (7 - q)) → near (suc l) (8 * c + q) o ≡ 8 * near l c (bit_and o (7 - q)) + bit_xor q o
  unfolding near Within
  near_step w =
      key_suc l (λ a. coord (suc l) (8 * c + q) a - bit a o)
      ∙ omega (
        arith,
        key_ext l (λ a. (coord (suc l) (8 * c + q) a - bit a o) / 2) (λ a. coord l c a - bit a (bit_and o (7 - q))) half,
        odd 0 (omega arith),
        odd 1 (omega arith),
        odd 2 (omega arith),
        bits_join (bit_xor q o) (flip_lt q o hq ho),
      )
    where
      half : (a : ℕ) → a < 3 → (coord (suc l) (8 * c + q) a - bit a o) / 2 ≡ coord l c a - bit a (bit_and o (7 - q))
      half a h = omega (arith, w a h, kept_bit a o q h hq, coord_child l c q a (omega arith) h, bit_le a o, bit_le a q)

      odd : (a : ℕ) → a < 3 → (coord (suc l) (8 * c + q) a - bit a o) % 2 ≡ bit a (bit_xor q o)
      odd a h =
          omega (arith, w a h, kept_bit a o q h hq, xor_bit a q o, coord_child l c q a (omega arith) h, bit_le a o, bit_le a q)
