-- `&` half by half, and the greater of two words that comes of it. Assumes nothing.
use Prim.Native.Nat.{ℕ, ◌+◌, ◌-◌, ◌*◌, ◌/◌, ◌<◌}
use mathlib.Core.Path.{◌≡◌, ap, ◌∙◌}
use mathlib.Core.Logic.{by_cases}
use native.Mathlib.Omega.{arith}
use native.Mathlib.Decide.{dec_lt}
use lib.Bits.{bit_and, and_mask, and_high, and_mod, and_shr, and_zero_r}
use Rattle.spans.specs.Steps.{upper, lower, Small, Raised}

-- ---- one half

top_bit : (o : ℕ) → o < 65536 → bit_and o 32768 ≡ o / 32768 * 32768
top_bit o h = omega (arith, and_high o 1 15)

-- all bits under the top one, if that is set
cut : (o : ℕ) → o < 65536 → bit_and o (o / 32768 * 32767) ≡ o - 32768
cut o h =
    by_cases (dec_lt o 32768)
    (λ l. omega (arith, at 0 (omega arith), and_zero_r o))
    (λ l. omega (arith, at 1 (omega arith), and_mask o 15))
  where
    at : (p : ℕ) → o / 32768 ≡ p → bit_and o (o / 32768 * 32767) ≡ bit_and o (p * 32767)
    at p e = ap (λ (x : ℕ). bit_and o (x * 32767)) e

-- ---- both

-- 32767 where a half of s is its top bit
under : (s p q : ℕ) → p < 2 → lower s ≡ p * 32768 → upper s ≡ q * 32768 → s - s / 32768 ≡ q * 32767 * 65536 + p * 32767
under s p q h e f = omega arith

module _ (a b : ℕ) (h : Small a) (k : Small b) where
  abbrev over : ℕ
  over = a + 2147516416 - b

  abbrev sign : ℕ
  sign = bit_and over 2147516416

  abbrev rest : ℕ
  rest = bit_and over (sign - sign / 32768)

  over_low : lower over ≡ 32768 + lower a - lower b
  over_low = omega (arith, h.low, h.high, k.low, k.high)

  over_high : upper over ≡ 32768 + upper a - upper b
  over_high = omega (arith, h.low, h.high, k.low, k.high)

  mask : sign - sign / 32768 ≡ upper over / 32768 * 32767 * 65536 + lower over / 32768 * 32767
  mask =
      under sign (lower over / 32768) (upper over / 32768) (omega arith)
      (and_mod over 2147516416 16 ∙ top_bit (lower over) (omega arith))
      (and_shr over 2147516416 16 ∙ top_bit (upper over) (omega (arith, over_high, h.high)))

  rest_low : lower rest ≡ lower a - lower b
  rest_low =
      let e : lower (sign - sign / 32768) ≡ lower over / 32768 * 32767 = omega (arith, mask) in
      omega (arith, and_mod over (sign - sign / 32768) 16 ∙ ap (bit_and (lower over)) e ∙ cut (lower over) (omega arith), over_low)

  rest_high : upper rest ≡ upper a - upper b
  rest_high =
      let e : upper (sign - sign / 32768) ≡ upper over / 32768 * 32767 = omega (arith, mask) in
      omega (
        arith,
        and_shr over (sign - sign / 32768) 16 ∙ ap (bit_and (upper over)) e ∙ cut (upper over) (omega (arith, over_high, h.high)),
        over_high,
      )

  pub fits : b + rest < 4294967296
  fits = omega (arith, rest_low, rest_high, h.low, h.high, k.low, k.high)

  pub is_raised : Raised a b (b + rest)
  is_raised = omega (arith, rest_low, rest_high, h.low, h.high, k.low, k.high)

pub raised_small : {a b r : ℕ} → Small a → Small b → Raised a b r → Small r
raised_small a b r = record { low = omega (arith, a.low, b.low, r.low); high = omega (arith, a.high, b.high, r.high) }
