-- The greatest so far, and the nodes of a cell that are met. Assumes nothing.
use Prim.Native.Nat.{ℕ, ◌+◌, ◌-◌, ◌*◌, ◌≤◌, ◌<◌, min, max}
use mathlib.Core.Path.{◌≡◌, refl, ◌∙◌, ap, subst}
use mathlib.Core.List.{List}
use mathlib.Core.Logic.{◌⊎◌, inl, inr, ⊎_elim}
use native.Mathlib.Omega.{arith}
use lib.ListN.{get_or}
use Rattle.tree.proofs.Lists.{order}
use Rattle.spans.specs.Steps.{Raised, GreatestYet, down, Meets, Reach}
use Rattle.spans.proofs.Raising.{raised_small}

pub yet_none : {Kind : ℕ → Type 0} → ((y : ℕ) → Kind y → ⊥) → GreatestYet Kind 0
yet_none none = record { all = λ y k. absurd (none y k); one = inl refl }

-- of one kind or the other
pub yet_both : {A B C : ℕ → Type 0} {x y : ℕ} (z : ℕ) → z ≡ max x y → GreatestYet A x → GreatestYet B y → ((v : ℕ) → A v → C v)
    → ((v : ℕ) → B v → C v)
    → ((v : ℕ) → C v → A v ⊎ B v) → GreatestYet C z
yet_both {A} {B} {C} {x} {y} z e a b from-a from-b either = record {
  all = λ v c. ⊎_elim (λ h. omega (arith, a.all v h)) (λ h. omega (arith, b.all v h)) (either v c);
  one = ⊎_elim
      (λ l. let is : y ≡ z = omega arith in ⊎_elim (λ o. inl (omega arith)) (λ k. inr (subst C is (from-b y k))) b.one)
      (λ g. let is : x ≡ z = omega arith in ⊎_elim (λ o. inl (omega arith)) (λ k. inr (subst C is (from-a x k))) a.one)
      (order x y);
}

pub yet_same : {A B : ℕ → Type 0} {x : ℕ} (z : ℕ) → x ≡ z → GreatestYet A x → ((v : ℕ) → A v → B v) → ((v : ℕ) → B v → A v) → GreatestYet B z
yet_same {A} {B} {x} z e a to fro = record {
  all = λ v b. omega (arith, a.all v (fro v b));
  one = ⊎_elim (λ o. inl (omega arith)) (λ k. inr (subst B e (to x k))) a.one;
}

-- ---- one node more

module _ (height : ℕ → ℕ) (places : List ℕ) (from n : ℕ) where
  next : ℕ
  next = height (get_or places (from + n) 0)

  old : (y : ℕ) → Meets height places from n y → Meets height places from (n + 1) y
  old y m = record { o = m.o; o_inside = omega (arith, m.o_inside); there = m.there }

  new : (y : ℕ) → next ≡ y → Meets height places from (n + 1) y
  unfolding next
  new y e = record { o = n; o_inside = omega arith; there = e }

  either : (y : ℕ) → Meets height places from (n + 1) y → Meets height places from n y ⊎ (next ≡ y)
  unfolding next
  either y m = ⊎_elim
      (λ l. inl (record { o = m.o; o_inside = l; there = m.there }))
      (λ g. let e : n ≡ m.o = omega (arith, m.o_inside) in inr (ap (λ (o : ℕ). height (get_or places (from + o) 0)) e ∙ m.there))
      (order m.o n)

  pub meets_more : (x z : ℕ) → z ≡ max x (height (get_or places (from + n) 0)) → GreatestYet (Meets height places from n) x
      → GreatestYet (Meets height places from (n + 1)) z
  unfolding next
  meets_more x z e a = yet_both z e a (record { all = λ v e. omega (arith, e); one = inr refl }) old new either

-- low and high, as the loop has them
pub record Reaching (height : ℕ → ℕ) (places : List ℕ) (from n low high : ℕ) : Type 0 where
  pub low_small : low ≤ 32767
  pub high_small : high ≤ 32767
  highest : GreatestYet (Meets height places from n) high
  lowest : GreatestYet (Meets (down height) places from n) (32767 - low)

pub reaching_none : (height : ℕ → ℕ) (places : List ℕ) (from : ℕ) → Reaching height places from 0 32767 0
reaching_none height places from = record {
  low_small = omega arith;
  high_small = omega arith;
  highest = yet_none (λ y m. omega (arith, m.o_inside));
  lowest = yet_none (λ y m. omega (arith, m.o_inside));
}

pub reaching_more : (height : ℕ → ℕ) (places : List ℕ) (from n low high low' high' x : ℕ) → x ≡ height (get_or places (from + n) 0) → x < 32768
    → low' ≡ min low x → high' ≡ max high x
    → Reaching height places from n low high → Reaching height places from (n + 1) low' high'
reaching_more height places from n low high low' high' x e small l h r = record {
  low_small = omega (arith, r.low_small);
  high_small = omega (arith, r.high_small);
  highest = meets_more height places from n high high' (omega (arith, e)) r.highest;
  lowest = meets_more (down height) places from n (32767 - low) (32767 - low') (omega (arith, e, r.low_small)) r.lowest;
}

pub reaching_all : (height : ℕ → ℕ) (places : List ℕ) (from n low high : ℕ) → 4 ≤ n → n ≤ 4 → Reaching height places from n low high
    → Reach height places from 4 (65536 * (32767 - low) + high)
reaching_all height places from n low high g h r₀ = record {
  small = record { low = omega (arith, r.high_small); high = omega (arith, r.high_small) };
  highest = yet_same _ (omega (arith, r.high_small)) r.highest (λ v m. m) (λ v m. m);
  lowest = yet_same _ (omega (arith, r.high_small)) r.lowest (λ v m. m) (λ v m. m);
}
  where
    r : Reaching height places from 4 low high
    r = let e : n ≡ 4 = omega arith in subst (λ (n : ℕ). Reaching height places from n low high) e r₀

-- ---- two fours

module _ (height : ℕ → ℕ) (places : List ℕ) (from : ℕ) where
  lower_four : (y : ℕ) → Meets height places from 4 y → Meets height places from 8 y
  lower_four y m = record { o = m.o; o_inside = omega (arith, m.o_inside); there = m.there }

  upper_four : (y : ℕ) → Meets height places (from + 4) 4 y → Meets height places from 8 y
  upper_four y m =
      let e : from + (4 + m.o) ≡ from + 4 + m.o = omega arith in
      record { o = 4 + m.o; o_inside = omega (arith, m.o_inside); there = ap (λ (i : ℕ). height (get_or places i 0)) e ∙ m.there }

  which_four : (y : ℕ) → Meets height places from 8 y → Meets height places from 4 y ⊎ Meets height places (from + 4) 4 y
  which_four y m = ⊎_elim
      (λ l. inl (record { o = m.o; o_inside = l; there = m.there }))
      (λ g.
      let e : from + 4 + (m.o - 4) ≡ from + m.o = omega arith in
      inr (record { o = m.o - 4; o_inside = omega (arith, m.o_inside); there = ap (λ (i : ℕ). height (get_or places i 0)) e ∙ m.there }))
      (order m.o 4)

  fours : {x y : ℕ} (z : ℕ) → z ≡ max x y → GreatestYet (Meets height places from 4) x → GreatestYet (Meets height places (from + 4) 4) y
      → GreatestYet (Meets height places from 8) z
  fours z e a b = yet_both z e a b lower_four upper_four which_four

pub both_fours : (height : ℕ → ℕ) (places : List ℕ) (from a b r : ℕ) → Reach height places from 4 a → Reach height places (from + 4) 4 b
    → Raised a b r → Reach height places from 8 r
both_fours height places from a b r x y j = record {
  small = raised_small x.small y.small j;
  highest = fours height places from _ j.low x.highest y.highest;
  lowest = fours (down height) places from _ j.high x.lowest y.lowest;
}
