-- Places of nodes and of entries, on any table of keys. Assumes nothing.
use Prim.Native.Nat.{ℕ, zero, suc, ◌+◌, ◌*◌, ◌-◌, ◌/◌, ◌^◌, ◌≤◌, ◌<◌}
use mathlib.Core.Path.{◌≡◌, refl, sym, ◌∙◌, ap, ap₂}
use mathlib.Core.Bool.{Bool, true, false}
use mathlib.Core.List.{List, [], ◌∷◌, ◌++◌}
use native.Mathlib.Nat.{div-lt_iff_lt-mul}
use native.Mathlib.Numerals.{add-one}
use native.Mathlib.Decide.{dec_le, dec_lt}
use native.Mathlib.Omega.{arith}
use lib.Bits.{bit_or, or_add_and, and_le_l, and_comm}
use borrow.Author.Tests.{ltb-true, ltb-false}
use lib.Dec.{ltb}
use lib.ListN.{length, get_or, set, length-append}
use lib.Seq.{sets}
use Rattle.morton.specs.Level.{deepest, limit, if₀}
use Rattle.morton.proofs.Levels.{eight_pos}
use Rattle.morton.proofs.Vertices.{up_pow}
use Rattle.tree.specs.Tree.{Decides}
use Rattle.tree.specs.Down.{Nodes, first_at}
use Rattle.vertices.specs.Walk.{low_corner}
use Rattle.vertices.specs.Cells.{eight}
use Rattle.vertices.specs.Block.{marked, lowered_place, lowered_at}
use Rattle.vertices.proofs.Blocks.{sets_append}

-- ---- the places of a child's entries: of the split ones, where their first child stands
pub at_is : (fs at : List ℕ) (mask child q o p : ℕ) {r : Bool} → p ≡ lowered_place at mask q o → marked child o ≡ r
    → if₀ r (get_or fs p 0) p ≡ lowered_at fs at mask child q o
unfolding lowered_at
at_is fs at mask child q o p e m = sym (ap₂ (λ (r : Bool) (n : ℕ). if₀ r (get_or fs n 0) n) m (sym e))

-- ---- no first child at some places

pub or_none : (a b : ℕ) → bit_or a b ≡ 0 → (a ≡ 0) × (b ≡ 0)
or_none a b e = (omega (arith, or_add_and a b, and_le_l a b, and_comm a b, and_le_l b a), omega (arith, or_add_and a b, and_le_l a b))

-- what the table says, in the walk's words
pub first_is : (n : Nodes) (p : ℕ) {x : ℕ} → get_or n.firsts p 0 ≡ x → first_at n p ≡ x
unfolding first_at
first_is n p e = e

pub is_first : (n : Nodes) (p : ℕ) {x : ℕ} → x ≡ get_or n.firsts p 0 → x ≡ first_at n p
unfolding first_at
is_first n p e = e

-- ---- eight places written one by one

unfoldable pub firsts : (ℕ → ℕ) → ℕ → List ℕ
firsts f zero = []
firsts f (suc n) = firsts f n ++ (f n ∷ [])

firsts_length : (f : ℕ → ℕ) (n : ℕ) → length (firsts f n) ≡ n
unfolding firsts
firsts_length f zero = refl
firsts_length f (suc n) = omega (arith, length-append (firsts f n) (f n ∷ []), firsts_length f n)

-- so many are written
abbrev pub Written : (ℕ → ℕ) → ℕ → List ℕ → ℕ → List ℕ → Type 0
Written f o p0 i p = p ≡ sets p0 i (firsts f o)

pub written_none : (f : ℕ → ℕ) (p : List ℕ) (i : ℕ) → Written f 0 p i p
unfolding firsts
written_none f p i = refl

pub written_more : (f : ℕ → ℕ) (o i x : ℕ) (p0 p : List ℕ) → x ≡ f o → Written f o p0 i p → Written f (o + 1) p0 i (set p (i + o) x)
unfolding firsts
written_more f o i x p0 p e w =
    ap₂ (λ (l : List ℕ) (y : ℕ). set l (i + o) y) w e
    ∙ ap (λ (n : ℕ). set (sets p0 i (firsts f o)) (i + n) (f o)) (sym (firsts_length f o))
    ∙ sym (sets_append (firsts f o) (f o ∷ []) p0 i)
    ∙ ap (λ (n : ℕ). sets p0 i (firsts f n)) (sym (add-one o))

pub written_all : (f : ℕ → ℕ) (o i : ℕ) (p0 p : List ℕ) → o ≡ 8 → Written f o p0 i p → p ≡ sets p0 i (eight f)
unfolding firsts
written_all f o i p0 p e w = w ∙ ap (λ (n : ℕ). sets p0 i (firsts f n)) e

-- ---- cells that a number has passed

passed_is : (l c n s : ℕ) → l ≤ limit → s ≡ 63 - l * 3 → (r : Bool) → Decides r (c < n / 2 ^ s) → Decides r (low_corner l (c + 1) ≤ n)
unfolding low_corner
passed_is l c n s h e = go
  where
    unit : 2 ^ s ≡ 8 ^ (deepest - l)
    unit = ap (λ (n : ℕ). 2 ^ n) e ∙ up_pow l (omega arith)

    same : n / 2 ^ s ≡ n / 8 ^ (deepest - l)
    same = ap (λ (m : ℕ). n / m) unit

    beyond : (c + 1) * 8 ^ (deepest - l) ≤ n → c < n / 8 ^ (deepest - l)
    beyond g =
        elim (dec_lt c (n / 8 ^ (deepest - l))) [
          | yes y ↦ y
          | no m ↦ absurd (omega (arith, (div-lt_iff_lt-mul {k = 8 ^ (deepest - l)} {x = n} {y = c + 1} (eight_pos (deepest - l))).0 (omega arith)))
        ]

    go : (r : Bool) → Decides r (c < n / 2 ^ s) → Decides r ((c + 1) * 8 ^ (deepest - l) ≤ n)
    go true d =
        elim (dec_le ((c + 1) * 8 ^ (deepest - l)) n) [
          | yes y ↦ y
          | no m ↦ absurd (omega (arith, same, (div-lt_iff_lt-mul {k = 8 ^ (deepest - l)} {x = n} {y = c + 1} (eight_pos (deepest - l))).1 (omega arith)))
        ]
    go false d = λ g. d (omega (arith, same, beyond g))

pub passed_lt : (l c n s : ℕ) → l ≤ limit → s ≡ 63 - l * 3 → Decides (ltb c (n / 2 ^ s)) (low_corner l (c + 1) ≤ n)
passed_lt l c n s h e = passed_is l c n s h e (ltb c (n / 2 ^ s)) (tested (ltb c (n / 2 ^ s)) refl)
  where
    tested : (r : Bool) → ltb c (n / 2 ^ s) ≡ r → Decides r (c < n / 2 ^ s)
    tested true t = ltb-true c (n / 2 ^ s) t
    tested false t = λ k. omega (arith, ltb-false c (n / 2 ^ s) t)
