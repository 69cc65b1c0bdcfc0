-- The order of centre heights, and that rounding down to slabs keeps it. Assumes nothing.
use Prim.Native.Nat.{ℕ, ◌+◌, ◌-◌, ◌*◌, ◌/◌, ◌%◌, ◌^◌, ◌≤◌, ◌<◌}
use mathlib.Core.Path.{◌≡◌, sym, ap, ◌∙◌}
use mathlib.Core.Bool.{Bool}
use mathlib.Core.Logic.{◌⊎◌}
use native.Mathlib.Nat.{mul_comm, mul_assoc, mul_right_comm, mul-le-mul_right, le_of_mul-le-mul_right, le-div_iff_mul-le, div-mul-le_self, div-lt_iff_lt-mul, mul-lt-mul_of_pos_right, mul-div-mul_right, mul-div_cancel}
use native.Mathlib.Omega.{arith}
use borrow.Author.Tests.{le-leb, lt-leb}
use lib.Pow.{pow-add, pow_pos, pow_mono, shl_exact}
use Rattle.morton.specs.Field.{coord}
use Rattle.morton.specs.Level.{limit, level, if₀}
use Rattle.morton.proofs.Fields.{coord_lt}
use Rattle.morton.proofs.Levels.{level_le}
use Rattle.tree.proofs.Lists.{order}
use Rattle.slabs.specs.Heights.{height_over, height_under, NoHigher, slab_of, slab_at}

pub under_pos : (k : ℕ) → 0 < height_under k
under_pos k = pow_pos (level k + 1)

-- no centre is as high as the cube
pub over_lt : (k : ℕ) → height_over k < height_under k
over_lt k = let e : 2 ^ (level k + 1) ≡ 2 ^ level k * 2 = pow-add 2 (level k) 1 in omega (arith, coord_lt (level k) k 2, e)

pub height_small : (k : ℕ) → coord (level k) k 2 < 2 ^ 21
height_small k = omega (arith, coord_lt (level k) k 2, pow_mono {i = level k} {j = 21} (level_le k))

-- ---- fractions a / b, c / d and e / f, multiplied out

middle_out : (a b c d e f : ℕ) → 0 < d → a * d ≤ c * b → c * f ≤ e * d → a * f ≤ e * b
middle_out a b c d e f h p q =
    le_of_mul-le-mul_right {k = d}
    (omega (arith, mul-le-mul_right f p, mul-le-mul_right b q, mul_right_comm a f d, mul_right_comm c b f, mul_right_comm e b d))
    h

pub rounded : (a b c d n : ℕ) → 0 < b → 0 < d → a * d ≤ c * b → a * n / b ≤ c * n / d
rounded a b c d n h g p =
    (le-div_iff_mul-le g).1
    (le_of_mul-le-mul_right {k = b}
    (omega (arith, mul-le-mul_right d (div-mul-le_self (a * n) b), mul-le-mul_right n p, mul_right_comm (a * n / b) d b, mul_right_comm a n d, mul_right_comm c n b))
    h)

-- ---- heights

pub either_higher : (j k : ℕ) → (height_over j * height_under k < height_over k * height_under j) ⊎ NoHigher k j
either_higher j k = order (height_over j * height_under k) (height_over k * height_under j)

pub no_higher_through : (i j k : ℕ) → NoHigher i j → NoHigher j k → NoHigher i k
no_higher_through i j k =
    middle_out (height_over i) (height_under i) (height_over j) (height_under j) (height_over k) (height_under k) (under_pos j)

pub slab_order : (s j k : ℕ) → NoHigher j k → slab_of s j ≤ slab_of s k
slab_order s j k = rounded (height_over j) (height_under j) (height_over k) (height_under k) (2 ^ s) (under_pos j) (under_pos k)

pub slab_lt : (s k : ℕ) → slab_of s k < 2 ^ s
slab_lt s k =
    (div-lt_iff_lt-mul (under_pos k)).1
    (omega (arith, mul-lt-mul_of_pos_right {k = 2 ^ s} (over_lt k) (pow_pos s), mul_comm (2 ^ s) (height_under k)))

-- ---- the shift either way

pub shifted_down : (s k : ℕ) → s < level k + 1 → height_over k / 2 ^ (level k + 1 - s) ≡ slab_of s k
shifted_down s k h =
    let e : level k + 1 - s + s ≡ level k + 1 = omega arith in
    sym (mul-div-mul_right {m = 2 ^ s} (height_over k) (2 ^ (level k + 1 - s)) (pow_pos s))
    ∙ ap (λ (x : ℕ). height_over k * 2 ^ s / x) (sym (pow-add 2 (level k + 1 - s) s) ∙ ap (λ (x : ℕ). 2 ^ x) e)

pub shifted_up : (s k : ℕ) → level k + 1 ≤ s → s ≤ 32 → (height_over k * 2 ^ (s - (level k + 1))) % 2 ^ 32 ≡ slab_of s k
shifted_up s k h g =
    let e : s - (level k + 1) + (level k + 1) ≡ s = omega arith in
    shl_exact (level k + 1) (s - (level k + 1)) 32 (over_lt k) (omega arith)
    ∙ sym (mul-div_cancel (height_over k * 2 ^ (s - (level k + 1))) (under_pos k))
    ∙ ap (λ (x : ℕ). x / height_under k)
    (mul_assoc (height_over k) (2 ^ (s - (level k + 1))) (height_under k)
    ∙ ap (λ (x : ℕ). height_over k * x) (sym (pow-add 2 (s - (level k + 1)) (level k + 1)) ∙ ap (λ (x : ℕ). 2 ^ x) e))

-- ---- at any exponent

pub at_within : (s k r : ℕ) → s ≤ limit → r ≡ slab_of s k → r ≡ slab_at s k
at_within s k r h e = e ∙ sym (ap (λ (r : Bool). if₀ r (slab_of s k) 0) (le-leb s limit h))

pub at_above : (s k : ℕ) → limit < s → 0 ≡ slab_at s k
at_above s k h = sym (ap (λ (r : Bool). if₀ r (slab_of s k) 0) (lt-leb s limit h))
