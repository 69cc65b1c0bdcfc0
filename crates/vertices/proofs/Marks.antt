-- Masks bit by bit, and the masks of a node's split children. Assumes nothing.
use Prim.Native.Nat.{ℕ, zero, suc, ◌+◌, ◌*◌, ◌-◌, ◌/◌, ◌%◌, ◌^◌, ◌≤◌, ◌<◌, min}
use mathlib.Core.Path.{◌≡◌, refl, sym, ◌∙◌, ap, ap₂, subst}
use mathlib.Core.Bool.{Bool, true, false, ◌&&◌, true≢false}
use mathlib.Core.List.{List}
use native.Mathlib.Nat.{add-mul-div_right, mul_assoc, mul-le-mul_right, zero-div, div-eq_of_lt, add-mul, one-mul, pow-suc}
use native.Mathlib.Decide.{dec_lt, ℕ_discrete}
use native.Mathlib.Numerals.{add-one}
use native.Mathlib.Omega.{arith}
use lib.Bits.{bit_and, bit_xor, and_le_l}
use lib.Dec.{eqb}
use lib.ListN.{get_or}
use lib.Pow.{pow-add, pow-lt, pow_pos, pow_mono, high, shr-shr, shl_exact}
use borrow.Author.Tests.{eq-eqb, ne_eqb}
use Rattle.morton.specs.Field.{bit, sub}
use Rattle.morton.proofs.Fields.{bit_le, div_step, mul_step}
use Rattle.morton.proofs.Levels.{and_true}
use Rattle.tree.specs.Tree.{Decides}
use Rattle.tree.proofs.Lists.{unless}
use Rattle.tree.specs.Down.{Nodes, first_at, leads, steps}
use Rattle.tree.proofs.Down.{leads_none}
use Rattle.vertices.specs.Block.{marked, ChildMarks, lowered_mark}
use Rattle.geometry.proofs.Offsets.{and_bit}

-- ---- one bit

marked_ext : (m n i j : ℕ) → bit i m ≡ bit j n → marked m i ≡ marked n j
unfolding marked
marked_ext m n i j e = ap (λ (x : ℕ). eqb x 1) e

pub marked_zero : (i : ℕ) → marked 0 i ≡ false
unfolding marked
marked_zero i = ne_eqb (bit i 0) 1 (λ e. omega (arith, zero-div (2 ^ i)))

-- no bit from k on
marked_past : (m k : ℕ) → m < 2 ^ k → marked m k ≡ false
unfolding marked
marked_past m k h = ne_eqb (bit k m) 1 (λ e. omega (arith, div-eq_of_lt h))

pub marked_first : marked 1 0 ≡ true
unfolding marked
marked_first = refl

pub marked_one : (o : ℕ) → 0 < o → marked 1 o ≡ false
marked_one o h = marked_past 1 o (pow-lt {i = 0} {j = o} h)

-- a mask that is not 0 has a bit
pub some_marked : (k m : ℕ) → m < 2 ^ k → (m ≡ 0 → ⊥) → (o : ℕ) × (o < k) × (marked m o ≡ true)
unfolding marked
some_marked zero m h n = absurd (n (omega arith))
some_marked (suc k) m h n =
    elim (ℕ_discrete (m % 2) 1) [
      | yes e ↦ (0, omega arith, eq-eqb (bit 0 m) 1 (omega arith))
      | no e ↦
          let r = some_marked k (m / 2) (omega (arith, pow-suc 2 k)) (λ z. n (omega arith)) in
          (suc r.0, omega (arith, r.1), ap (λ (x : ℕ). eqb (x % 2) 1) (div_step m 2 r.0) ∙ r.2)
    ]

-- ---- x put over a mask of k bits

module _ (m x k : ℕ) (h : m < 2 ^ k) where
  marked_under : (i : ℕ) → i < k → marked (m + x * 2 ^ k) i ≡ marked m i
  marked_under i l = marked_ext (m + x * 2 ^ k) m i i even
    where
      d : ℕ
      d = k - suc i

      over : x * 2 ^ k ≡ x * 2 ^ suc d * 2 ^ i
      over =
          let e : k ≡ suc d + i = omega arith in
          ap (λ (n : ℕ). x * n) (ap (λ (n : ℕ). 2 ^ n) e ∙ pow-add 2 (suc d) i) ∙ sym (mul_assoc x (2 ^ suc d) (2 ^ i))

      even : bit i (m + x * 2 ^ k) ≡ bit i m
      even =
          ap (λ (n : ℕ). (m + n) / 2 ^ i % 2) over
          ∙ ap (λ (n : ℕ). n % 2) (add-mul-div_right m (x * 2 ^ suc d) (pow_pos i))
          ∙ omega (arith, mul_step x 2 d)

  marked_over : (i : ℕ) → marked (m + x * 2 ^ k) (k + i) ≡ marked x i
  marked_over i =
      marked_ext (m + x * 2 ^ k) x (k + i) i
      (ap (λ (n : ℕ). n % 2) (sym (shr-shr (m + x * 2 ^ k) k i) ∙ ap (λ (n : ℕ). n / 2 ^ i) (ap (λ (n : ℕ). n / 2 ^ k) (omega arith) ∙ high x k h)))

  -- and it has as many bits more as x
  put_lt : (j : ℕ) → x < 2 ^ j → m + x * 2 ^ k < 2 ^ (j + k)
  put_lt j l =
      omega (
        arith,
        pow-add 2 j k,
        mul-le-mul_right {m = suc x} {n = 2 ^ j} (2 ^ k) l,
        add-mul x 1 (2 ^ k),
        one-mul (2 ^ k),
        ap (λ (n : ℕ). n * 2 ^ k) (add-one x),
      )

-- x of j bits moved up by n
shift_exact : (n j x : ℕ) → j + n ≤ 64 → x < 2 ^ j → (x * 2 ^ n) % 2 ^ 64 ≡ x * 2 ^ n
shift_exact n j x h l = shl_exact {a = x} j n 64 l h

-- ---- a mask filled bit by bit

-- the first n bits tell of what P holds
pub record Filled (P : ℕ → Type 0) (n mask : ℕ) : Type 0 where
  pub small : mask < 2 ^ n
  pub marks : (i : ℕ) → i < n → Decides (marked mask i) (P i)

module _ (P : ℕ → Type 0) where
  at_end : (n mask : ℕ) → Decides (marked mask n) (P n) → ((i : ℕ) → i < n → Decides (marked mask i) (P i))
      → (i : ℕ) → i < n + 1 → Decides (marked mask i) (P i)
  at_end n mask last marks i h =
      elim (dec_lt i n) [ yes l ↦ marks i l | no l ↦ let e : n ≡ i = omega arith in subst (λ (j : ℕ). Decides (marked mask j) (P j)) e last ]

  pub filled_yes : (n mask : ℕ) → n < 63 → P n → Filled P n mask → Filled P (n + 1) (mask + (1 * 2 ^ n) % 2 ^ 64)
  filled_yes n mask h p f =
      rw (shift_exact n 1 1 (omega arith) (omega arith))
      (record {
        small = subst (λ (j : ℕ). mask + 1 * 2 ^ n < 2 ^ j) (omega arith) (put_lt mask 1 n f.small 1 (omega arith));
        marks = at_end n (mask + 1 * 2 ^ n) (rw here p) (λ i h. rw (marked_under mask 1 n f.small i h) (f.marks i h));
      })
    where
      here : marked (mask + 1 * 2 ^ n) n ≡ true
      here = let e : n ≡ n + 0 = omega arith in ap (marked (mask + 1 * 2 ^ n)) e ∙ marked_over mask 1 n f.small 0 ∙ marked_first

  pub filled_no : (n mask : ℕ) → (P n → ⊥) → Filled P n mask → Filled P (n + 1) mask
  filled_no n mask p f =
      record {
        small = omega (arith, f.small, pow-lt {i = n} {j = n + 1} (omega arith));
        marks = at_end n mask (rw (marked_past mask n f.small) p) f.marks;
      }

pub is_lowered : (below q o : ℕ) {r : Bool} → marked below (8 * bit_and o (7 - q) + bit_xor q o) ≡ r → lowered_mark below q o ≡ r
unfolding lowered_mark
is_lowered below q o e = e

-- ---- the split children of a node

-- the children of p at a place on
module _ (ks : Nodes) (first p : ℕ) where
  -- child w is split
  abbrev pub Steps : ℕ → Type 0
  Steps w = steps ks (first + w) (8 * p + w) ≡ true

  pub steps_is : (w f : ℕ) → f ≡ first_at ks (first + w) → leads ks.keys f (64 * p + 8 * w) ≡ steps ks (first + w) (8 * p + w)
  unfolding steps
  steps_is w f e = ap₂ (leads ks.keys) e (omega arith)

  -- none is, where none has a first child
  pub told_none : ((w : ℕ) → w < 8 → first_at ks (first + w) ≡ 0) → ChildMarks ks first p 0
  unfolding steps
  told_none z =
      record {
        small = omega arith;
        marks = λ w h. marked_zero w ∙ sym (leads_none ks.keys (first_at ks (first + w)) (8 * (8 * p + w)) (λ e. omega (arith, z w h)));
      }

pub marks_as : {ks : Nodes} {first k j mask : ℕ} → k ≡ j → ChildMarks ks first k mask → ChildMarks ks first j mask
marks_as {ks} {first} {k} {j} {mask} e m = subst (λ (i : ℕ). ChildMarks ks first i mask) e m

-- ---- the same for each split entry of a block

module _ (ks : Nodes) (c : ℕ) (at : List ℕ) (mask : ℕ) where
  -- bit w of entry o
  abbrev Bit : ℕ → ℕ → Bool
  Bit o w = marked mask o && steps ks (get_or at o 0 + w) (8 * sub c o + w)

  pub record Stacked (n below : ℕ) : Type 0 where
    pub small : below < 2 ^ (8 * n)
    pub marks : (o : ℕ) → o < n → (w : ℕ) → w < 8 → marked below (8 * o + w) ≡ Bit o w

  module _ (n below : ℕ) (s : Stacked n below) where
    wider : 8 + 8 * n ≡ 8 * (n + 1)
    wider = omega arith

    -- the bits of entry n over those before
    over : (m : ℕ) → ((i : ℕ) → i < 8 * n → marked m i ≡ marked below i) → ((w : ℕ) → w < 8 → marked m (8 * n + w) ≡ Bit n w)
        → (o : ℕ) → o < n + 1 → (w : ℕ) → w < 8 → marked m (8 * o + w) ≡ Bit o w
    over m under last o h w l =
        elim (dec_lt o n) [
          | yes g ↦ under (8 * o + w) (omega arith) ∙ s.marks o g w l
          | no g ↦ let q : n ≡ o = omega arith in subst (λ (j : ℕ). marked m (8 * j + w) ≡ Bit j w) q (last w l)
        ]

    pub stacked_yes : (x : ℕ) → n < 8 → marked mask n ≡ true → ChildMarks ks (get_or at n 0) (sub c n) x
        → Stacked (n + 1) (below + (x * 2 ^ (8 * n)) % 2 ^ 64)
    stacked_yes x h e cm =
        rw (shift_exact (8 * n) 8 x (omega arith) cm.small)
        (record {
          small = subst (λ (j : ℕ). below + x * 2 ^ (8 * n) < 2 ^ j) wider (put_lt below x (8 * n) s.small 8 cm.small);
          marks = over (below + x * 2 ^ (8 * n)) (marked_under below x (8 * n) s.small)
              (λ w l. marked_over below x (8 * n) s.small w ∙ cm.marks w l ∙ sym (ap (λ (r : Bool). r && steps ks (get_or at n 0 + w) (8 * sub c n + w)) e));
        })

    pub stacked_no : marked mask n ≡ false → Stacked (n + 1) below
    stacked_no f =
        record {
          small = omega (arith, s.small, pow-lt {i = 8 * n} {j = 8 * (n + 1)} (omega arith));
          marks = over below (λ i h. refl)
              (λ w l. marked_past below (8 * n + w) (omega (arith, s.small, pow_mono {i = 8 * n} {j = 8 * n + w} (omega arith)))
              ∙ sym (ap (λ (r : Bool). r && steps ks (get_or at n 0 + w) (8 * sub c n + w)) f));
        }

-- ---- masks in common

pub marked_and : (m n i : ℕ) → marked (bit_and m n) i ≡ (marked m i && marked n i)
unfolding marked
marked_and m n i = go (bit i m) (bit i n) (bit i (bit_and m n)) (bit_le i m) (bit_le i n) (and_bit i m n)
  where
    go : (x y z : ℕ) → x ≤ 1 → y ≤ 1 → z ≡ min x y → eqb z 1 ≡ (eqb x 1 && eqb y 1)
    go zero y z h l e = ne_eqb z 1 (λ t. omega arith)
    go (suc zero) zero z h l e = ne_eqb z 1 (λ t. omega arith)
    go (suc zero) (suc zero) z h l e = eq-eqb z 1 (omega arith)
    go (suc zero) (suc (suc y)) z h l e = absurd (omega arith)
    go (suc (suc x)) y z h l e = absurd (omega arith)

-- nothing in common with a mask that has the bit
pub apart : (m n i : ℕ) → bit_and m n ≡ 0 → marked n i ≡ true → marked m i ≡ false
apart m n i z e =
    unless (marked m i) (λ t. true≢false (sym (marked_and m n i ∙ ap₂ ◌&&◌ t e) ∙ ap (λ (x : ℕ). marked x i) z ∙ marked_zero i))

-- something in common
pub shared : (k m n : ℕ) → m < 2 ^ k → (bit_and m n ≡ 0 → ⊥) → (i : ℕ) × (i < k) × (marked m i ≡ true) × (marked n i ≡ true)
shared k m n h z =
    let s = some_marked k (bit_and m n) (omega (arith, and_le_l m n)) z in
    let b = and_true (marked m s.0) (marked n s.0) (sym (marked_and m n s.0) ∙ s.2) in
    (s.0, s.1, b.0, b.1)
