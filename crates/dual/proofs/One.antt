-- One answer only: of each public call, two answers that meet its promise are the same. Assumes nothing.
use Prim.Native.Nat.{ℕ, ◌^◌, ◌<◌}
use mathlib.Core.Path.{◌≡◌, refl, sym, ap, ◌∙◌}
use mathlib.Core.Bool.{true, true≢false}
use mathlib.Core.Logic.{◌⊎◌, inl, inr, ⊎_elim}
use mathlib.Core.List.{List}
use native.Mathlib.Omega.{arith}
use lib.Ieee.{Float, nan}
use lib.Ieee.Scale.{finite}
use lib.ListN.{length, get_or}
use lib.Seq.{ext_get_or}
use Rattle.morton.specs.Vertex.{is_inner, side_of}
use Rattle.morton.proofs.One.{OnlyOne}
use Rattle.tree.specs.Tree.{Tree, Sound}
use Rattle.tree.specs.Down.{Nodes}
use Rattle.tree.proofs.Finding.{nodes}
use Rattle.tree.proofs.One.{deepest_key, deepest_distance, deepest_place, deepest_finite}
use Rattle.dual.specs.declared.Dual.{Dual}
use Rattle.std.specs.Prelude.{Result, Ok, Err}
use Rattle.refusals.specs.declared.Refusal.{Refusal}
use Rattle.refusals.specs.declared.Refusal.TheVariants.{NotAVertex, NotSound}
use Rattle.geometry.specs.Grid.{sum}
use Rattle.dual.specs.Dual.{tried_to, DualCell, NoCell, DualSays, Around, TrustingSays}
use Rattle.dual.proofs.Filling.{trusting_dual}

-- ---- dual cells

same : (r s : Dual) → r.tried ≡ s.tried → r.keys ≡ s.keys → r.distances ≡ s.distances → r.places ≡ s.places → r ≡ s
same r s t k d p = λ i. record { tried = t i; keys = k i; distances = d i; places = p i }

module _ (t : Tree) (S : Sound t) (L v : ℕ) {k₁ k₂ : List ℕ} {d₁ d₂ : List Float} {p₁ p₂ : List ℕ} {n₁ n₂ : ℕ}
    (c : DualCell t L v k₁ d₁ p₁ n₁) (e : DualCell t L v k₂ d₂ p₂ n₂) where
  keys_one : k₁ ≡ k₂
  keys_one = ext_get_or 0 k₁ k₂ (c.eight_keys ∙ sym e.eight_keys)
      (λ i h. let l : i < 8 = omega (arith, c.eight_keys) in deepest_key t (side_of L v i) (c.entry i l) (e.entry i l))

  distances_one : d₁ ≡ d₂
  distances_one = ext_get_or nan d₁ d₂ (c.eight_distances ∙ sym e.eight_distances)
      (λ i h. let l : i < 8 = omega (arith, c.eight_distances) in deepest_distance t (side_of L v i) S.ascending (c.entry i l) (e.entry i l))

  places_one : p₁ ≡ p₂
  places_one = ext_get_or 0 p₁ p₂ (c.eight_places ∙ sym e.eight_places)
      (λ i h. let l : i < 8 = omega (arith, c.eight_places) in deepest_place t (side_of L v i) S.ascending (c.entry i l) (e.entry i l))

  tried_one : n₁ ≡ n₂
  tried_one = c.count ∙ ap (λ (ks : List ℕ). sum (λ i. tried_to L (get_or ks i 0)) 8) keys_one ∙ sym e.count

-- why it is refused
abbrev Why : Tree → ℕ → ℕ → Refusal → Type 0
Why t L v e = ((Sound t → ⊥) × (e ≡ NotSound)) ⊎ (Sound t × NoCell t.keys L v × (e ≡ NotAVertex))

why_one : (t : Tree) (L v : ℕ) (j k : Refusal) → Why t L v j → Why t L v k → j ≡ k
why_one t L v j k (inl x) (inl y) = x.1 ∙ sym y.1
why_one t L v j k (inl x) (inr y) = absurd (x.0 y.0)
why_one t L v j k (inr x) (inl y) = absurd (y.0 x.0)
why_one t L v j k (inr x) (inr y) = x.2 ∙ sym y.2

not_why : (t : Tree) (L v : ℕ) (k : Refusal) → Sound t → is_inner L v ≡ true → 1 < length t.keys → Why t L v k → ⊥
not_why t L v k S e more w =
    ⊎_elim (λ x. x.0 S) (λ x. ⊎_elim (λ f. true≢false (sym e ∙ f)) (λ alone. omega arith) x.1) w

pub dual_cell_one : (t : Tree) (L v : ℕ) → OnlyOne (λ (r : Dual). DualSays t L v r.keys r.distances r.places r.tried)
dual_cell_one t L v r s p q = go r.tried s.tried refl refl p q
  where
    go : (a b : Result ℕ Refusal) → r.tried ≡ a → s.tried ≡ b → DualSays t L v r.keys r.distances r.places a → DualSays t L v s.keys s.distances s.places b → r ≡ s
    go (Ok n) (Ok m) e f (S, _, _, c) (_, _, _, d) =
        same r s (e ∙ ap Ok (tried_one t S L v c d) ∙ sym f) (keys_one t S L v c d) (distances_one t S L v c d) (places_one t S L v c d)
    go (Ok n) (Err k) e f (S, i, more, _) (_, _, _, w) = absurd (not_why t L v k S i more w)
    go (Err j) (Ok n) e f (_, _, _, w) (S, i, more, _) = absurd (not_why t L v j S i more w)
    go (Err j) (Err k) e f (ks, ds, ps, w) (ks', ds', ps', w') =
        same r s (e ∙ ap Err (why_one t L v j k w w') ∙ sym f) (ks ∙ sym ks') (ds ∙ sym ds') (ps ∙ sym ps')

-- no distance is a NaN, whose bits the logic doesn't tell apart
pub dual_finite : (t : Tree) (L v n : ℕ) (keys : List ℕ) (distances : List Float) (places : List ℕ) → DualSays t L v keys distances places (Ok n) → (i : ℕ) → i < 8 → finite (get_or distances i nan) ≡ true
dual_finite t L v n keys distances places (S, _, _, c) i h = deepest_finite t S (c.entry i h)

-- ---- dual cells of a tree that is trusted

module _ {ns : Nodes} {ds : List Float} {q : ℕ} {k₁ k₂ : List ℕ} {d₁ d₂ : List Float} {p₁ p₂ : List ℕ} {n₁ n₂ : ℕ}
    (a : Around ns ds q k₁ d₁ p₁ n₁) (b : Around ns ds q k₂ d₂ p₂ n₂) where
  around_keys : k₁ ≡ k₂
  around_keys = ext_get_or 0 k₁ k₂ (a.eight_keys ∙ sym b.eight_keys)
      (λ i h. let l : i < 8 = omega (arith, a.eight_keys) in a.key i l ∙ sym (b.key i l))

  around_distances : d₁ ≡ d₂
  around_distances = ext_get_or nan d₁ d₂ (a.eight_distances ∙ sym b.eight_distances)
      (λ i h. let l : i < 8 = omega (arith, a.eight_distances) in a.distance i l ∙ sym (b.distance i l))

  around_places : p₁ ≡ p₂
  around_places = ext_get_or 0 p₁ p₂ (a.eight_places ∙ sym b.eight_places)
      (λ i h. let l : i < 8 = omega (arith, a.eight_places) in a.place i l ∙ sym (b.place i l))

not_none : (ks : List ℕ) (L v : ℕ) → is_inner L v ≡ true → (length ks ≡ 1 → ⊥) → NoCell ks L v → ⊥
not_none ks L v e alone w = ⊎_elim (λ f. true≢false (sym e ∙ f)) alone w

pub dual_cell_trusting_one : (ns : Nodes) (ds : List Float) (L v : ℕ) → OnlyOne (λ (r : Dual). TrustingSays ns ds L v r.keys r.distances r.places r.tried)
dual_cell_trusting_one ns ds L v r s p q = go r.tried s.tried refl refl p q
  where
    go : (a b : Result ℕ Refusal) → r.tried ≡ a → s.tried ≡ b → TrustingSays ns ds L v r.keys r.distances r.places a → TrustingSays ns ds L v s.keys s.distances s.places b → r ≡ s
    go (Ok n) (Ok m) e f (_, _, c) (_, _, d) = same r s (e ∙ ap Ok (c.count ∙ sym d.count) ∙ sym f) (around_keys c d) (around_distances c d) (around_places c d)
    go (Ok n) (Err k) e f (i, alone, _) (_, _, _, w, _) = absurd (not_none ns.keys L v i alone w)
    go (Err j) (Ok n) e f (_, _, _, w, _) (i, alone, _) = absurd (not_none ns.keys L v i alone w)
    go (Err j) (Err k) e f (xs, ds, ps, _, four) (xs', ds', ps', _, four') =
        same r s (e ∙ ap Err (four ∙ sym four') ∙ sym f) (xs ∙ sym xs') (ds ∙ sym ds') (ps ∙ sym ps')

-- of a sound tree, what a dual cell's call may answer is what the trusting one answers
pub trusting_is_dual_cell : (t : Tree) → Sound t → (L v : ℕ) → v < 2 ^ 64 → (r s : Dual)
    → DualSays t L v r.keys r.distances r.places r.tried → TrustingSays (nodes t) t.distances L v s.keys s.distances s.places s.tried → r ≡ s
trusting_is_dual_cell t S L v word r s p q = dual_cell_one t L v r s p (trusting_dual t S L v word s.keys s.distances s.places s.tried q)
