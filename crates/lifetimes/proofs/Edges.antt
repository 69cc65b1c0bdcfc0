-- Least and greatest so far, and what a cell adds to the spans of its leaves. Assumes nothing.
use Rattle.std.proofs.Common.{◌≡◌, ℕ, ◌+◌, ◌-◌, ◌*◌, ◌%◌, ◌<◌, ◌≤◌, min, max, ◌⊎◌, List, length, get_or, set, Option, Some, None, sym, refl, ap, ◌∙◌, subst, inl, inr, ⊎_elim, arith, length-set, get_or-set_other, get_or-set_same}
use Rattle.tree.proofs.Lists.{order}
use Rattle.lifetimes.specs.Trusted.{LeafAt}
use Rattle.lifetimes.specs.Steps.{upper, lower, Finds, Edge, NoMore, NoLess, Meets, MeetingSays, Among, Pulled, PullSays, Widened}
use Rattle.spans.proofs.HowMany.{same}
use Rattle.lifetimes.proofs.Numbers.{leaf_one}

-- ---- one lemma for least and greatest

-- how the least of two is picked, or the greatest
pub record Picking (so : ℕ → ℕ → Type 0) (pick : ℕ → ℕ → ℕ) : Type 0 where
  pub itself : (x : ℕ) → so x x
  pub left : (x y v : ℕ) → so x v → so (pick x y) v
  pub right : (x y v : ℕ) → so y v → so (pick x y) v
  pub either : (x y : ℕ) → (pick x y ≡ x) ⊎ (pick x y ≡ y)

pub downward : Picking NoMore min
downward = record {
  itself = λ x. omega arith;
  left = λ x y v h. omega arith;
  right = λ x y v h. omega arith;
  either = λ x y. ⊎_elim (λ h. inl (omega arith)) (λ h. inr (omega arith)) (order x y);
}

pub upward : Picking NoLess max
upward = record {
  itself = λ x. omega arith;
  left = λ x y v h. omega arith;
  right = λ x y v h. omega arith;
  either = λ x y. ⊎_elim (λ h. inr (omega arith)) (λ h. inl (omega arith)) (order x y);
}

module _ {so : ℕ → ℕ → Type 0} {start : ℕ} where
  -- the same numbers are of another kind
  pub edge_map : {P Q : ℕ → Type 0} (x y : ℕ) → x ≡ y → ((v : ℕ) → P v → Q v) → ((v : ℕ) → Q v → P v) → Edge so start P x → Edge so start Q y
  edge_map {P} {Q} x y e to from r =
      subst (Edge so start Q) e (record { all = λ v q. r.all v (from v q); one = ⊎_elim (λ s. inl s) (λ p. inr (to x p)) r.one })

  pub edge_pick : {pick : ℕ → ℕ → ℕ} {P Q R : ℕ → Type 0} → Picking so pick → (x y z : ℕ) → z ≡ pick x y
      → ((v : ℕ) → P v ⊎ Q v → R v) → ((v : ℕ) → R v → P v ⊎ Q v) → Edge so start P x → Edge so start Q y → Edge so start R z
  edge_pick {pick} {P} {Q} {R} w x y z e to from p q =
      subst (Edge so start R) (sym e) (record {
        all = λ v r. ⊎_elim (λ a. w.left x y v (p.all v a)) (λ b. w.right x y v (q.all v b)) (from v r);
        one = ⊎_elim
            (λ i. subst (λ (u : ℕ). (u ≡ start) ⊎ R u) (sym i) (⊎_elim (λ s. inl s) (λ a. inr (to x (inl a))) p.one))
            (λ i. subst (λ (u : ℕ). (u ≡ start) ⊎ R u) (sym i) (⊎_elim (λ s. inl s) (λ b. inr (to y (inr b))) q.one))
            (w.either x y);
      })

-- ---- the leaves of a cell

-- what is found at a place is the leaf there
pub found_is : {fs : List ℕ} {nodes p i : ℕ} (r : Option ℕ) → Finds fs nodes p r → LeafAt fs nodes p i → r ≡ Some i
found_is None none l = absurd (none _ l)
found_is (Some _) here l = ap Some (leaf_one here l)

module _ (fs : List ℕ) (nodes : ℕ) (first places : List ℕ) (at : ℕ) where
  module _ (n low high : ℕ) (numbers : List (Option ℕ)) (h : n < 8) (M : MeetingSays fs nodes first places at n numbers low high) where
    each_more : (r : Option ℕ) → Finds fs nodes (get_or places (8 * at + n) 0) r
        → (o : ℕ) → o < n + 1 → Finds fs nodes (get_or places (8 * at + o) 0) (get_or (set numbers n r) o None)
    each_more r found o l = ⊎_elim
        (λ c. subst (λ (o : ℕ). Finds fs nodes (get_or places (8 * at + o) 0) (get_or (set numbers n r) o None)) (sym c)
        (subst (Finds fs nodes (get_or places (8 * at + n) 0)) (sym (get_or-set_same numbers n r None (omega (arith, M.eight)))) found))
        (λ d. subst (Finds fs nodes (get_or places (8 * at + o) 0)) (sym (get_or-set_other numbers n o r None d)) (M.each o (omega arith)))
        (same o n)

    -- an earlier entry counts still
    still : (y : ℕ) → Meets fs nodes first places at n y → Meets fs nodes first places at (n + 1) y
    still y m = record { o = m.o; o_inside = omega (arith, m.o_inside); leaf = m.leaf; here = m.here; slab_is = m.slab_is }

    -- a later one is the new one
    before_or_new : (y : ℕ) (m : Meets fs nodes first places at (n + 1) y)
        → Meets fs nodes first places at n y ⊎ LeafAt fs nodes (get_or places (8 * at + n) 0) m.leaf
    before_or_new y m = ⊎_elim
        (λ c. inr (subst (λ (o : ℕ). LeafAt fs nodes (get_or places (8 * at + o) 0) m.leaf) c m.here))
        (λ d. inl (record { o = m.o; o_inside = omega (arith, m.o_inside); leaf = m.leaf; here = m.here; slab_is = m.slab_is }))
        (same m.o n)

    -- it is no leaf
    pub meeting_other : Finds fs nodes (get_or places (8 * at + n) 0) None
        → MeetingSays fs nodes first places at (n + 1) (set numbers n None) low high
    meeting_other none =
        let only : (y : ℕ) → Meets fs nodes first places at (n + 1) y → Meets fs nodes first places at n y =
        λ y m. ⊎_elim (λ b. b) (λ l. absurd (none m.leaf l)) (before_or_new y m) in
        record {
          eight = length-set numbers n None ∙ M.eight;
          each = each_more None none;
          lowest = edge_map low low refl still only M.lowest;
          highest = edge_map high high refl still only M.highest;
          low_small = M.low_small;
          high_small = M.high_small;
        }

    -- it is one
    module _ (r : ℕ) (leaf_here : LeafAt fs nodes (get_or places (8 * at + n) 0) r) (slab : ℕ) (slab_is : slab ≡ upper (get_or first r 0)) where
      to : (y : ℕ) → Meets fs nodes first places at n y ⊎ (slab ≡ y) → Meets fs nodes first places at (n + 1) y
      to y c = ⊎_elim (still y) (λ e. record { o = n; o_inside = omega arith; leaf = r; here = leaf_here; slab_is = sym slab_is ∙ e }) c

      from : (y : ℕ) → Meets fs nodes first places at (n + 1) y → Meets fs nodes first places at n y ⊎ (slab ≡ y)
      from y m = ⊎_elim (λ b. inl b)
          (λ l. inr (slab_is ∙ ap (λ (i : ℕ). upper (get_or first i 0)) (leaf_one leaf_here l) ∙ m.slab_is)) (before_or_new y m)

      new : {so : ℕ → ℕ → Type 0} {pick : ℕ → ℕ → ℕ} {start : ℕ} → Picking so pick → Edge so start (λ y. slab ≡ y) slab
      new {so} w = record { all = λ y e. subst (so slab) e (w.itself slab); one = inr refl }

      pub meeting_leaf : (low' high' : ℕ) → low' ≡ min low slab → high' ≡ max high slab → slab ≤ 65535
          → MeetingSays fs nodes first places at (n + 1) (set numbers n (Some r)) low' high'
      meeting_leaf low' high' e f small = record {
        eight = length-set numbers n (Some r) ∙ M.eight;
        each = each_more (Some r) leaf_here;
        lowest = edge_pick downward low slab low' e to from M.lowest (new downward);
        highest = edge_pick upward high slab high' f to from M.highest (new upward);
        low_small = omega (arith, M.low_small);
        high_small = omega (arith, M.high_small);
      }

-- ---- pulling

-- a half is put in another's place
pub halves : (a r : ℕ) → r < 65536 → (upper (a - a % 65536 + r) ≡ upper a) × (lower (a - a % 65536 + r) ≡ r)
halves a r h = (omega arith, omega arith)

-- there is a number, and it is i
abbrev Is : ℕ → Option ℕ → Type 0
Is i None = ⊥
Is i (Some j) = j ≡ i

same_some : (x : Option ℕ) (i : ℕ) → (x ≡ Some i) ⊎ (x ≡ Some i → ⊥)
same_some None i = inr (λ e. subst (Is i) (sym e) refl)
same_some (Some j) i = ⊎_elim (λ e. inl (ap Some e)) (λ d. inr (λ e. d (subst (Is i) (sym e) refl))) (same j i)

module _ (numbers : List (Option ℕ)) (low high : ℕ) (first₀ last₀ : List ℕ) where
  module _ (n : ℕ) (first last first' last' : List ℕ) (W : Widened numbers n low high first₀ last₀ first last)
      (P : PullSays low high (get_or numbers n None) first last first' last') where
    again : (i : ℕ) → Pulled low high (get_or first₀ i 0) (get_or last₀ i 0) (get_or first i 0) (get_or last i 0)
        → Pulled low high (get_or first i 0) (get_or last i 0) (get_or first' i 0) (get_or last' i 0)
        → Pulled low high (get_or first₀ i 0) (get_or last₀ i 0) (get_or first' i 0) (get_or last' i 0)
    again i a b = record {
      first_upper = b.first_upper ∙ a.first_upper;
      first_lower = omega (arith, b.first_lower, a.first_lower);
      last_upper = b.last_upper ∙ a.last_upper;
      last_lower = omega (arith, b.last_lower, a.last_lower);
    }

    abbrev Both : ℕ → Type 0
    Both i =
        (Among numbers (n + 1) i × Pulled low high (get_or first₀ i 0) (get_or last₀ i 0) (get_or first' i 0) (get_or last' i 0))
        ⊎ ((Among numbers (n + 1) i → ⊥) × (get_or first' i 0 ≡ get_or first₀ i 0) × (get_or last' i 0 ≡ get_or last₀ i 0))

    before : (i : ℕ) → (get_or numbers n None ≡ Some i → ⊥) → Among numbers (n + 1) i → Among numbers n i
    before i d a = record {
      o = a.o;
      o_inside = ⊎_elim (λ c. absurd (d (ap (λ (o : ℕ). get_or numbers o None) (sym c) ∙ a.here))) (λ e. omega (arith, a.o_inside)) (same a.o n);
      here = a.here;
    }

    after : (i : ℕ) → Among numbers n i → Among numbers (n + 1) i
    after i a = record { o = a.o; o_inside = omega (arith, a.o_inside); here = a.here }

    hit : (i : ℕ) → i < length first₀ → get_or numbers n None ≡ Some i → Both i
    hit i h c =
        let p = P.2 i c in inl (
          record { o = n; o_inside = omega arith; here = c },
          ⊎_elim (λ a. again i a.1 p)
              (λ b. subst (λ (x : ℕ). Pulled low high x (get_or last₀ i 0) (get_or first' i 0) (get_or last' i 0)) b.1
              (subst (λ (x : ℕ). Pulled low high (get_or first i 0) x (get_or first' i 0) (get_or last' i 0)) b.2 p)) (W.each i h),
        )

    miss : (i : ℕ) → i < length first₀ → (get_or numbers n None ≡ Some i → ⊥) → Both i
    miss i h d =
        let kept = P.3 i d in
        ⊎_elim
        (λ a. inl (
          after i a.0,
          subst (λ (x : ℕ). Pulled low high (get_or first₀ i 0) (get_or last₀ i 0) x (get_or last' i 0)) (sym kept.0)
              (subst (λ (x : ℕ). Pulled low high (get_or first₀ i 0) (get_or last₀ i 0) (get_or first i 0) x) (sym kept.1) a.1),
        ))
        (λ b. inr ((λ a. b.0 (before i d a)), kept.0 ∙ b.1, kept.1 ∙ b.2))
        (W.each i h)

    pub widened_more : Widened numbers (n + 1) low high first₀ last₀ first' last'
    widened_more = record {
      first_long = P.0 ∙ W.first_long;
      last_long = P.1 ∙ W.last_long;
      each = λ i h. ⊎_elim (hit i h) (miss i h) (same_some (get_or numbers n None) i);
    }
