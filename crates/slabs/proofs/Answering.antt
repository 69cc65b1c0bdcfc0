-- What is answered of a dual cell, case by case; and that of a sound tree the form that trusts it answers alike. Assumes nothing.
use Prim.Native.Nat.{ℕ, ◌-◌, ◌/◌, ◌^◌, ◌<◌}
use mathlib.Core.Path.{◌≡◌, refl, sym, subst, ◌∙◌}
use mathlib.Core.Logic.{inl}
use mathlib.Core.List.{List, []}
use native.Mathlib.Omega.{arith}
use lib.Dec.{leb}
use lib.Ieee.{Float}
use lib.Seq.{ext_get_or}
use Rattle.morton.specs.Field.{sub}
use Rattle.morton.specs.Level.{deepest, level, is_cell}
use Rattle.tree.specs.Tree.{Tree, Sound}
use Rattle.tree.specs.Down.{Nodes, over}
use Rattle.tree.specs.Climb.{down_of, trusting_of}
use Rattle.tree.proofs.Finding.{nodes}
use Rattle.tree.proofs.Lists.{decided}
use Rattle.std.specs.Prelude.{Result, Ok, Err}
use Rattle.refusals.specs.declared.Refusal.{Refusal}
use Rattle.refusals.specs.declared.Refusal.TheVariants.{NotSound}
use Rattle.dual.specs.Dual.{no_keys, no_distances, no_places, key_in, Around, TrustingSays as CellTrustingSays}
use Rattle.dual.proofs.Filling.{AnyAround, any_around, trusting_dual}
use Rattle.slabs.specs.declared.Reach.{Reach}
use Rattle.slabs.specs.Heights.{OfCell, SlabsSays, TrustingSays}

-- ---- a tree that is checked

pub slabs_unsound : (t : Tree) (L v s : ℕ) → (Sound t → ⊥) → SlabsSays t L v s (Err NotSound)
slabs_unsound t L v s not = (
  record { tried = Err NotSound; keys = no_keys; distances = no_distances; places = no_places },
  (refl, refl, refl, inl (not, refl)),
  refl,
)

-- ---- a tree that is trusted

-- a key that is found doesn't depend on the distances
key_any : (ns : Nodes) (ds es : List Float) (k : ℕ) → key_in (trusting_of ns ds k) ≡ key_in (trusting_of ns es k)
unfolding down_of
key_any ns ds es k =
    decided (is_cell k) (λ c. decided (leb 8 (over ns (level k) k)) (λ d. rw (c, d) refl) (λ d. rw (c, d) refl)) (λ c. rw c refl)

keys_any : (ns : Nodes) (q : ℕ) {ds es : List Float} {k₁ k₂ : List ℕ} {d₁ d₂ : List Float} {p₁ p₂ : List ℕ} {n₁ n₂ : ℕ}
    → Around ns ds q k₁ d₁ p₁ n₁ → Around ns es q k₂ d₂ p₂ n₂ → k₁ ≡ k₂
keys_any ns q {ds} {es} {k₁} {k₂} a b =
    ext_get_or 0 k₁ k₂ (a.eight_keys ∙ sym b.eight_keys)
    (λ i h. let l : i < 8 = omega (arith, a.eight_keys) in a.key i l ∙ key_any ns ds es (sub q i) ∙ sym (b.key i l))

of_keys : (m n : ℕ) (keys : List ℕ) (s : ℕ) (r : Result Reach Refusal) → OfCell (Ok m) keys s r → OfCell (Ok n) keys s r
of_keys m n keys s (Ok x) p = p
of_keys m n keys s (Err e) p = p

-- of a sound tree the answer is the one that is promised of it; a vertex is a number of 64 bits
pub trusting_slabs : (t : Tree) → Sound t → (L v s : ℕ) → v < 2 ^ 64 → (r : Result Reach Refusal) → TrustingSays (nodes t) L v s r → SlabsSays t L v s r
trusting_slabs t S L v s word r (c, says, of) = go c.tried says of
  where
    q : ℕ
    q = v / 8 ^ (deepest - L)

    dual : (keys : List ℕ) (distances : List Float) (places : List ℕ) (a : Result ℕ Refusal) → CellTrustingSays (nodes t) t.distances L v keys distances places a
        → OfCell a keys s r → SlabsSays t L v s r
    dual keys distances places a p o =
        (record { tried = a; keys = keys; distances = distances; places = places }, trusting_dual t S L v word keys distances places a p, o)

    go : (a : Result ℕ Refusal) → CellTrustingSays (nodes t) [] L v c.keys c.distances c.places a → OfCell a c.keys s r → SlabsSays t L v s r
    go (Err k) p o = dual c.keys c.distances c.places (Err k) p o
    go (Ok n) (inner, alone, a) o = found (any_around (nodes t) t.distances q)
      where
        found : AnyAround (nodes t) t.distances q → SlabsSays t L v s r
        found (keys, distances, places, m, b) =
            dual keys distances places (Ok m) (inner, alone, b)
            (subst (λ (ks : List ℕ). OfCell (Ok m) ks s r) (keys_any (nodes t) q a b) (of_keys n m c.keys s r o))
