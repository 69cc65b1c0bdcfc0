-- The words of a cell's nodes are raised, one after another. Assumes nothing.
use Prim.Native.Nat.{ℕ, ◌+◌, ◌*◌, ◌/◌, ◌≤◌, ◌<◌}
use mathlib.Core.Path.{◌≡◌, refl, sym, ◌∙◌, ap, subst}
use mathlib.Core.List.{List, ◌++◌}
use mathlib.Core.Logic.{◌⊎◌, inl, inr, ⊎_elim}
use native.Mathlib.Omega.{arith}
use lib.ListN.{length, get_or}
use Rattle.tree.proofs.Lists.{order}
use Rattle.spans.specs.Steps.{Small, Raised, own, Ready, RaiseSays, Entry, AllRaised, Inside}
use Rattle.spans.proofs.HowMany.{same}
use Rattle.spans.proofs.Raising.{raised_small}
use Rattle.spans.proofs.Memory.{own_is}

module _ (places : List ℕ) (at n reach : ℕ) (first₀ last₀ first last : List ℕ) (A : AllRaised places at n reach first₀ last₀ first last) where
  pub words_small : (nodes : ℕ) → Ready nodes first₀ last₀ → Small reach → (p : ℕ) → p < nodes → Small (get_or (first ++ last) p 0)
  words_small nodes R small p h =
      ⊎_elim (λ a. raised_small (R.words p h) small a.1) (λ b. subst Small (sym b.1) (R.words p h)) (A.each p)

  module _ (first' last' : List ℕ) (S : RaiseSays (get_or places (8 * at + n) 0) reach first last first' last') where
    abbrev place : ℕ
    place = get_or places (8 * at + n) 0

    abbrev Each : ℕ → Type 0
    Each p =
        (Entry places at (n + 1) p × Raised (get_or (first₀ ++ last₀) p 0) reach (get_or (first' ++ last') p 0))
        ⊎ ((Entry places at (n + 1) p → ⊥) × (get_or (first' ++ last') p 0 ≡ get_or (first₀ ++ last₀) p 0))

    -- raised once more, it stays
    this_one : Each place
    this_one = inl (
      record { o = n; o_inside = omega arith; here = refl },
      ⊎_elim (λ a. omega (arith, a.1.low, a.1.high, S.here.low, S.here.high))
          (λ b. subst (λ (x : ℕ). Raised x reach (get_or (first' ++ last') place 0)) b.1 S.here) (A.each place),
    )

    another : (p : ℕ) → (p ≡ place → ⊥) → Each p
    another p d = ⊎_elim
        (λ a. inl (
          record { o = a.0.o; o_inside = omega (arith, a.0.o_inside); here = a.0.here },
          subst (Raised (get_or (first₀ ++ last₀) p 0) reach) (sym (S.others p d)) a.1,
        ))
        (λ b. inr (
          (λ e. ⊎_elim
              (λ l. b.0 (record { o = e.o; o_inside = l; here = e.here }))
              (λ g. let is : n ≡ e.o = omega (arith, e.o_inside) in d (sym e.here ∙ ap (λ (o : ℕ). get_or places (8 * at + o) 0) (sym is)))
              (order e.o n)),
          S.others p d ∙ b.1,
        ))
        (A.each p)

    pub raised_more : AllRaised places at (n + 1) reach first₀ last₀ first' last'
    raised_more = record {
      first_long = S.first_long ∙ A.first_long;
      last_long = S.last_long ∙ A.last_long;
      each = λ p. ⊎_elim (λ e. subst Each (sym e) this_one) (another p) (same p place);
    }

-- ---- the slabs behind the words stay

module _ (nodes : ℕ) (places : List ℕ) (at reach : ℕ) (first last first' last' : List ℕ) (R : Ready nodes first last) (inside : Inside nodes places)
    (room : 8 * at + 8 ≤ length places) (A : AllRaised places at 8 reach first last first' last') where
  pub own_stays : (p : ℕ) → own nodes last' p ≡ own nodes last p
  own_stays p =
      sym (own_is nodes p first' last' (A.first_long ∙ R.first_long) (A.last_long ∙ R.last_long))
      ∙ ⊎_elim
      (λ a. absurd (omega (arith, a.0.here, inside (8 * at + a.0.o) (omega (arith, a.0.o_inside, room)))))
      (λ b. b.1)
      (A.each (nodes + (p + 3) / 4))
      ∙ own_is nodes p first last R.first_long R.last_long

  pub ready_again : Small reach → Ready nodes first' last'
  ready_again small = record {
    first_long = A.first_long ∙ R.first_long;
    last_long = A.last_long ∙ R.last_long;
    words = words_small places at 8 reach first last first' last' A nodes R small;
    slabs = λ p h. omega (arith, own_stays p, R.slabs p h);
  }
