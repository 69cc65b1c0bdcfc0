-- Which float a bit pattern is, and which floats are finite. Assumes nothing.
use Prim.Native.Nat.{ℕ, ◌*◌, ◌%◌, ◌^◌, ◌≤◌, ◌<◌}
use mathlib.Core.Path.{◌≡◌, refl, sym, ◌∙◌, subst}
use mathlib.Core.Bool.{Bool, true, false, ◌&&◌, ◌||◌, not, beq, true≢false, false≢true}
use native.Mathlib.Nat.{zero-mul, mul-pos, sub_self, eq_of_mul-eq-mul_right}
use native.Mathlib.Omega.{arith}
use lib.Dec.{T, eqb}
use lib.IntN.{pos}
use lib.Pow.{pow_pos}
use lib.Ieee.{Float, nan, inf, fin, binary32, low, up, down, round, sum, add, sub, div, neg, eq, ne, of_bits, to_bits, is_nan, nan_bits}
use lib.Ieee.Exact.{HasValue, round_exact}
use lib.Ieee.Fits.{down_pos}
use lib.Ieee.Scale.{finite}
use lib.Ieee.Bits.{nan_bits_is, nan_bits_above}
use lib.Ieee.Compare.{differs_from_itself}
use Rattle.std.specs.Float.{float_is_finite}
use borrow.Author.Tests.{lt-ltb, le-ltb}

pub zero_over_zero : div binary32 (of_bits binary32 0) (of_bits binary32 0) ≡ nan
unfolding div of_bits
zero_over_zero = refl

is_nan_lem : (x : Float) → is_nan x ≡ true → x ≡ nan
unfolding is_nan
is_nan_lem nan e = refl
is_nan_lem (inf s) e = absurd (false≢true e)
is_nan_lem (fin s m k) e = absurd (false≢true e)

pub above_is_nan : (n : ℕ) → 0x7f80_0000 < n % 2 ^ 31 → of_bits binary32 n ≡ nan
above_is_nan n h = is_nan_lem (of_bits binary32 n) (sym (nan_bits_is binary32 n) ∙ nan_bits_above binary32 n ∙ lt-ltb 0x7f80_0000 (n % 2 ^ 31) h)

pub below_no_nan : (n : ℕ) → n % 2 ^ 31 ≤ 0x7f80_0000 → T (not (nan_bits binary32 n))
below_no_nan n h = subst (λ (b : Bool). T (not b)) (sym (nan_bits_above binary32 n ∙ le-ltb 0x7f80_0000 (n % 2 ^ 31) h)) tt

-- the pattern of a float, from which it comes back
abbrev pub PatternOf : Float → ℕ → Type 0
PatternOf d r = (r ≡ to_bits binary32 d) × (of_bits binary32 r ≡ d)

pub equal_no_nan : (x : Float) → ne x x ≡ false → T (not (is_nan x))
unfolding is_nan ne
equal_no_nan nan t = absurd (true≢false t)
equal_no_nan (inf s) t = tt
equal_no_nan (fin s m e) t = tt

pub nan_bits_lem : PatternOf nan 0x7fc0_0000
unfolding to_bits of_bits
nan_bits_lem = (refl, refl)

pub nan_pattern : (x : Float) → is_nan x ≡ true → PatternOf x 0x7fc0_0000
nan_pattern x e = subst (λ (d : Float). PatternOf d 0x7fc0_0000) (sym (is_nan_lem x e)) nan_bits_lem

pub unequal_nan : (x : Float) → ne x x ≡ true → PatternOf x 0x7fc0_0000
unequal_nan x e = subst (λ (d : Float). PatternOf d 0x7fc0_0000) (sym (differs_from_itself x (subst T (sym e) tt))) nan_bits_lem

-- ---- what is finite: taken from itself it leaves 0, and an infinity or the NaN leaves the NaN

pub zero_is : of_bits binary32 0 ≡ fin false 0 (pos 0)
unfolding of_bits
zero_is = refl

none_left : (a b c : ℕ) → 0 < c → a * c ≡ 0 * b → a ≡ 0
none_left a b c p h = eq_of_mul-eq-mul_right c p a 0 (h ∙ zero-mul b ∙ sym (zero-mul c))

equals_zero : (x : Float) (c : ℕ) → 0 < c → HasValue x false 0 c → eq x (fin false 0 (pos 0)) ≡ true
unfolding eq
equals_zero nan c p v = absurd v
equals_zero (inf s) c p v = absurd v
equals_zero (fin s m e) c p (_, h) =
    let z : m * up e ≡ 0 = none_left (m * up e) (down e) c p h in
    rw (z, zero-mul (down e)) (go s)
  where
    go : (s : Bool) → (eqb 0 0 && (beq s false || eqb 0 0)) ≡ true
    go true = refl
    go false = refl

rounds_to_zero : (c : ℕ) → 0 < c → eq (round binary32 false 0 c) (fin false 0 (pos 0)) ≡ true
rounds_to_zero c p = equals_zero _ c p (round_exact binary32 false 0 c 0 0 p (pow_pos 24) (pow_pos 277) (zero-mul (2 ^ low binary32) ∙ sym (zero-mul c)))

nothing_left : (s : Bool) (a c : ℕ) → 0 < c → eq (sum binary32 s a (not s) a c) (fin false 0 (pos 0)) ≡ true
unfolding sum
nothing_left true a c p = rw (le-ltb a a (omega arith), sub_self a) (rounds_to_zero c p)
nothing_left false a c p = rw (le-ltb a a (omega arith), sub_self a) (rounds_to_zero c p)

pub less_itself : (x : Float) → eq (sub binary32 x x) (of_bits binary32 0) ≡ finite x
unfolding sub add neg eq
less_itself nan = refl
less_itself (inf true) = refl
less_itself (inf false) = refl
less_itself (fin s m e) = rw zero_is (nothing_left s (m * up e * down e) (down e * down e) (mul-pos (down_pos e) (down_pos e)))

pub finite_is : (x : Float) → float_is_finite x ≡ finite x
unfolding float_is_finite
finite_is nan = refl
finite_is (inf s) = refl
finite_is (fin s m e) = refl
