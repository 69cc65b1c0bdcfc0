-- One answer only: two answers of a call that meet its promise are the same, and so are the tables. Of a sound tree both calls have the same. Assumes
-- nothing.
use Rattle.std.proofs.Common.{◌≡◌, ℕ, ◌^◌, ◌<◌, ◌≤◌, ◌⊎◌, List, length, get_or, sym, ◌∙◌, subst₂, inl, inr, ⊎_elim, le_antisymm, arith, ext_get_or, Result, Ok, Err}
use Rattle.morton.specs.Level.{limit}
use Rattle.morton.proofs.One.{OnlyOne}
use Rattle.tree.specs.Tree.{Tree, Sound}
use Rattle.tree.specs.Down.{Nodes}
use Rattle.tree.proofs.Finding.{nodes}
use Rattle.refusals.specs.declared.Refusal.{Refusal}
use Rattle.refusals.specs.declared.Refusal.TheVariants.{AboveFifteen, ReportShort}
use Rattle.lifetimes.specs.Needed.{CellOf, LeastOf, GreatestOf, Counts, Reports, Room, stands, Reported, LifetimesSays}
use Rattle.lifetimes.specs.Trusted.{nodes_in, leaves_of, Sharing, TrustedReport, TrustingSays}
use Rattle.lifetimes.proofs.Counting.{greatest_one, count_one}
use Rattle.lifetimes.proofs.Joining.{trusting_lifetimes}

least_one : {Kind : ℕ → Type 0} {x y : ℕ} → LeastOf Kind x → LeastOf Kind y → x ≡ y
least_one {x = x} {y = y} a b = le_antisymm (a.least y b.one_of) (b.least x a.one_of)

-- ---- what both calls report

-- the least of some numbers and the greatest of others, or 1 and 0 where there are none
abbrev Ends : (ℕ → Type 0) → (ℕ → Type 0) → ℕ → ℕ → Type 0
Ends From To x y = (LeastOf From x × GreatestOf To y) ⊎ (((z : ℕ) → From z → ⊥) × (x ≡ 1) × (y ≡ 0))

ends_one : (From To : ℕ → Type 0) {x y z w : ℕ} → Ends From To x y → Ends From To z w → (x ≡ z) × (y ≡ w)
ends_one From To (inl a) (inl b) = (least_one a.0 b.0, greatest_one a.1 b.1)
ends_one From To {x} (inl a) (inr b) = absurd (b.0 x a.0.one_of)
ends_one From To {z = z} (inr a) (inl b) = absurd (a.0 z b.0.one_of)
ends_one From To (inr a) (inr b) = (a.1 ∙ sym b.1, a.2 ∙ sym b.2)

module _ (s m : ℕ) (was : Reports) (From To : ℕ → ℕ → Type 0) where
  -- for each of m leaves
  record Told (left : Reports) (most : ℕ) : Type 0 where
    firsts : List ℕ
    lasts : List ℕ
    counts : List ℕ
    as_many_firsts : length firsts ≡ m
    as_many_lasts : length lasts ≡ m
    each : (i : ℕ) → i < m → Ends (From i) (To i) (get_or firsts i 0) (get_or lasts i 0)
    needed : Counts s firsts lasts counts most
    left_is : left ≡ stands was firsts lasts counts

  told_one : {left right : Reports} {most top : ℕ} → Told left most → Told right top → ◌≡◌ {A = Reports × Result ℕ Refusal} (left, Ok most) (right, Ok top)
  told_one {most = most} a b =
      let f : a.firsts ≡ b.firsts =
      ext_get_or 0 a.firsts b.firsts (a.as_many_firsts ∙ sym b.as_many_firsts) (λ i h. (same i (omega (arith, a.as_many_firsts))).0) in
      let l : a.lasts ≡ b.lasts =
      ext_get_or 0 a.lasts b.lasts (a.as_many_lasts ∙ sym b.as_many_lasts) (λ i h. (same i (omega (arith, a.as_many_lasts))).1) in
      let n : Counts s b.firsts b.lasts a.counts most = subst₂ (λ (f l : List ℕ). Counts s f l a.counts most) f l a.needed in
      let (c, e) = count_one n b.needed in
      λ i. ((a.left_is ∙ (λ j. stands was (f j) (l j) (c j)) ∙ sym b.left_is) i, Ok (e i))
    where
      same : (i : ℕ) → i < m → (get_or a.firsts i 0 ≡ get_or b.firsts i 0) × (get_or a.lasts i 0 ≡ get_or b.lasts i 0)
      same i h = ends_one (From i) (To i) (a.each i h) (b.each i h)

-- why there is no report
module _ (s m : ℕ) (was : Reports) where
  abbrev Why : Refusal → Type 0
  Why k = ((limit < s) × (k ≡ AboveFifteen)) ⊎ ((s ≤ limit) × (Room m s was → ⊥) × (k ≡ ReportShort))

  why_one : {j k : Refusal} → Why j → Why k → j ≡ k
  why_one (inl a) (inl b) = a.1 ∙ sym b.1
  why_one (inl a) (inr b) = absurd (omega (arith, a.0, b.0))
  why_one (inr a) (inl b) = absurd (omega (arith, a.0, b.0))
  why_one (inr a) (inr b) = a.2 ∙ sym b.2

  not_why : {k : Refusal} → s ≤ limit → Room m s was → Why k → ⊥
  not_why h room (inl a) = omega (arith, a.0)
  not_why h room (inr a) = a.1 room

refused_one : {was left right : Reports} {j k : Refusal}
    → left ≡ was → right ≡ was → j ≡ k → ◌≡◌ {A = Reports × Result ℕ Refusal} (left, Err j) (right, Err k)
refused_one a b e = λ i. ((a ∙ sym b) i, Err (e i))

-- ---- of a tree that is trusted

module _ (n : Nodes) (s : ℕ) (was : Reports) where
  abbrev m : ℕ
  m = leaves_of (nodes_in n)

  trusted : {left : Reports} {most : ℕ} → TrustedReport n s was left most → Told s m was (Sharing n s) (Sharing n s) left most
  trusted a =
      record {
        firsts = a.firsts;
        lasts = a.lasts;
        counts = a.counts;
        as_many_firsts = a.spans.as_many_firsts;
        as_many_lasts = a.spans.as_many_lasts;
        each = λ i h. ⊎_elim (λ x. inl (x.from, x.to)) (λ x. inr (x.none, x.from, x.to)) (a.spans.each i h);
        needed = a.needed;
        left_is = a.left_is;
      }

  pub lifetimes_trusting_one : OnlyOne (λ (o : Reports × Result ℕ Refusal). TrustingSays n s was o.0 o.1)
  lifetimes_trusting_one (left, Ok x) (right, Ok y) a b = told_one s m was (Sharing n s) (Sharing n s) (trusted a.2) (trusted b.2)
  lifetimes_trusting_one (left, Ok x) (right, Err k) a b = absurd (not_why s m was a.0 a.1 b.1)
  lifetimes_trusting_one (left, Err j) (right, Ok y) a b = absurd (not_why s m was b.0 b.1 a.1)
  lifetimes_trusting_one (left, Err j) (right, Err k) a b = refused_one a.0 b.0 (why_one s m was a.1 b.1)

-- ---- of a tree that is checked

module _ (t : Tree) (s : ℕ) (was : Reports) where
  abbrev FirstOf : ℕ → ℕ → Type 0
  FirstOf i x = (y : ℕ) × CellOf t s (get_or t.leaves i 0) x y

  abbrev LastOf : ℕ → ℕ → Type 0
  LastOf i y = (x : ℕ) × CellOf t s (get_or t.leaves i 0) x y

  reported : {left : Reports} {most : ℕ} → Reported t s was left most → Told s (length t.leaves) was FirstOf LastOf left most
  reported a =
      record {
        firsts = a.firsts;
        lasts = a.lasts;
        counts = a.counts;
        as_many_firsts = a.spans.as_many_firsts;
        as_many_lasts = a.spans.as_many_lasts;
        each = λ i h. ⊎_elim (λ x. inl (x.from, x.to)) (λ x. inr ((λ z c. x.none z c.0 c.1), x.from, x.to)) (a.spans.each i h);
        needed = a.needed;
        left_is = a.left_is;
      }

  abbrev SoundWhy : Refusal → Type 0
  SoundWhy k = (Sound t × (limit < s) × (k ≡ AboveFifteen)) ⊎ (Sound t × (s ≤ limit) × (Room (length t.leaves) s was → ⊥) × (k ≡ ReportShort))

  is_sound : {k : Refusal} → SoundWhy k → Sound t
  is_sound = ⊎_elim (λ a. a.0) (λ a. a.0)

  why : {k : Refusal} → SoundWhy k → Why s (length t.leaves) was k
  why = ⊎_elim (λ a. inl (a.1, a.2)) (λ a. inr (a.1, a.2, a.3))

  not_refused : {left right : Reports} {x : ℕ} {k : Refusal} → LifetimesSays t s was left (Ok x) → LifetimesSays t s was right (Err k) → ⊥
  not_refused a b = ⊎_elim (λ n. n.0 a.0) (λ w. not_why s (length t.leaves) was a.1 a.2 (why w)) b.1

  pub lifetimes_one : OnlyOne (λ (o : Reports × Result ℕ Refusal). LifetimesSays t s was o.0 o.1)
  lifetimes_one (left, Ok x) (right, Ok y) a b = told_one s (length t.leaves) was FirstOf LastOf (reported a.3) (reported b.3)
  lifetimes_one (left, Ok x) (right, Err k) a b = absurd (not_refused a b)
  lifetimes_one (left, Err j) (right, Ok y) a b = absurd (not_refused b a)
  lifetimes_one (left, Err j) (right, Err k) a b =
      refused_one a.0 b.0
      (⊎_elim
      (λ n. ⊎_elim (λ o. n.1 ∙ sym o.1) (λ w. absurd (n.0 (is_sound w))) b.1)
      (λ v. ⊎_elim (λ o. absurd (o.0 (is_sound v))) (λ w. why_one s (length t.leaves) was (why v) (why w)) b.1)
      a.1)

  -- of a sound tree the report of one who trusts is the same
  pub trusting_is_lifetimes : Sound t → ((i : ℕ) → i < length t.firsts → get_or t.firsts i 0 < 2 ^ 16) → (o p : Reports × Result ℕ Refusal)
      → LifetimesSays t s was o.0 o.1 → TrustingSays (nodes t) s was p.0 p.1 → o ≡ p
  trusting_is_lifetimes S short o p a b = lifetimes_one o p a (trusting_lifetimes t S short s was p.0 p.1 b)
