-- What a child sees of its parent's block: the rules of the two constant tables, each tested once over the whole table. Assumes nothing.
use Prim.Native.Nat.{ℕ, ◌+◌, ◌*◌, ◌-◌, ◌^◌, ◌<◌}
use mathlib.Core.Path.{◌≡◌, refl, sym, ◌∙◌, ap}
use mathlib.Core.Bool.{Bool, true, false, not, ◌||◌, true≢false}
use lib.Bits.{bit_and, bit_xor}
use lib.Dec.{eqb}
use borrow.Author.Tests.{eqb-true, eqb-false}
use Rattle.tree.specs.Tree.{Decides}
use Rattle.vertices.specs.Walk.{all}
use Rattle.vertices.specs.Block.{seen_by, kept_by, marked, lowered_mark, SeenSays, Touched}
use Rattle.vertices.proofs.Marks.{apart, shared}
use Rattle.vertices.proofs.Blocks.{all_is}

-- a rule that holds at every q and o below 8
each : (f : ℕ → ℕ → Bool) → all (λ q. all (f q) 8) 8 ≡ true → (q o : ℕ) → q < 8 → o < 8 → f q o ≡ true
each f t q o hq ho = all_is (f q) 8 (all_is (λ q. all (f q) 8) 8 t q hq) o ho

-- ---- the entries' children

seen_bit : (q o : ℕ) → q < 8 → o < 8 → marked (seen_by q) (8 * bit_and o (7 - q) + bit_xor q o) ≡ true
unfolding all marked
seen_bit = each (λ q o. marked (seen_by q) (8 * bit_and o (7 - q) + bit_xor q o)) refl

pub seen_says : (below q m : ℕ) → q < 8 → m ≡ seen_by q → SeenSays below q (bit_and below m)
unfolding lowered_mark
seen_says below q m hq e z o ho =
    let i = 8 * bit_and o (7 - q) + bit_xor q o in
    apart below m i z (ap (λ (n : ℕ). marked n i) e ∙ seen_bit q o hq ho)

-- ---- the entries

kept_bit : (q o : ℕ) → q < 8 → o < 8 → marked (kept_by q) (bit_and o (7 - q)) ≡ true
unfolding all marked
kept_bit = each (λ q o. marked (kept_by q) (bit_and o (7 - q))) refl

kept_test : (q o : ℕ) → q < 8 → o < 8 → (not (marked (kept_by q) o) || eqb (bit_and o (7 - q)) o) ≡ true
unfolding all marked
kept_test = each (λ q o. not (marked (kept_by q) o) || eqb (bit_and o (7 - q)) o) refl

kept_only : (q o : ℕ) → q < 8 → o < 8 → marked (kept_by q) o ≡ true → bit_and o (7 - q) ≡ o
kept_only q o hq ho e = eqb-true (bit_and o (7 - q)) o (sym (ap (λ (r : Bool). not r || eqb (bit_and o (7 - q)) o) e) ∙ kept_test q o hq ho)

module _ (mask q m : ℕ) (hq : q < 8) (e : m ≡ kept_by q) where
  pub touched_none : (low : ℕ) → bit_and mask m ≡ 0 → Touched low mask q → ⊥
  touched_none low z t =
      let i = bit_and t.fine.0 (7 - q) in
      true≢false (sym t.fine.2 ∙ apart mask m i z (ap (λ (n : ℕ). marked n i) e ∙ kept_bit q t.fine.0 hq t.fine.1))

  pub touched_yes : (low : ℕ) → mask < 2 ^ 8 → bit_and low (7 - q) ≡ 0 → (bit_and mask m ≡ 0 → ⊥) → Touched low mask q
  touched_yes low h z n =
      let s = shared 8 mask m h n in
      record {
        full = z;
        fine = (s.0, s.1, ap (marked mask) (kept_only q s.0 hq s.1 (sym (ap (λ (n : ℕ). marked n s.0) e) ∙ s.3)) ∙ s.2);
      }

  -- the test, where the child lies at no side
  pub touched_is : (low : ℕ) → mask < 2 ^ 8 → bit_and low (7 - q) ≡ 0 → Decides (not (eqb (bit_and mask m) 0)) (Touched low mask q)
  touched_is low h z = go (eqb (bit_and mask m) 0) refl
    where
      go : (r : Bool) → eqb (bit_and mask m) 0 ≡ r → Decides (not r) (Touched low mask q)
      go true e = touched_none low (eqb-true (bit_and mask m) 0 e)
      go false e = touched_yes low h z (eqb-false (bit_and mask m) 0 e)
