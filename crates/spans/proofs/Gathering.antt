-- The leaves' words are gathered, a place at a time. Assumes nothing.
use Prim.Native.Nat.{ℕ, ◌+◌, ◌≤◌, ◌<◌, min}
use mathlib.Core.Path.{◌≡◌, refl, sym, ◌∙◌, subst}
use mathlib.Core.List.{List, ◌++◌}
use mathlib.Core.Logic.{⊎_elim}
use native.Mathlib.Omega.{arith}
use lib.ListN.{length, get_or}
use Rattle.tree.proofs.Lists.{order}
use Rattle.spans.specs.Least.{how_many}
use Rattle.spans.specs.Trusted.{leaves_of, childless, number_of, LeafAt}
use Rattle.spans.specs.Steps.{Takes}
use Rattle.spans.proofs.HowMany.{same, at_most}
use Rattle.spans.proofs.Numbers.{number_leaf, number_other, number_below}
use Rattle.spans.proofs.Memory.{words_stay}

-- ---- leaves

-- a leaf stands at one place only
pub leaf_place : {firsts : List ℕ} {nodes p q i : ℕ} → LeafAt firsts nodes p i → LeafAt firsts nodes q i → p ≡ q
leaf_place {firsts} {nodes} {p} {q} a b =
    ⊎_elim
    (λ l. absurd (omega (arith, number_below firsts p q l a.alone, a.number, b.number)))
    (λ l. ⊎_elim (λ g. absurd (omega (arith, number_below firsts q p g b.alone, a.number, b.number))) (λ g. omega arith) (order q p))
    (order p q)

-- past the number that were gathered there is no leaf
pub none_past : {firsts : List ℕ} {nodes r p i : ℕ} → r ≡ min (number_of firsts nodes) (leaves_of nodes) → r ≤ i → LeafAt firsts nodes p i → ⊥
none_past {firsts} {nodes} {r} {p} e h a = omega (arith, number_below firsts p nodes a.inside a.alone, a.number, a.few)

-- ---- the pass

-- what is gathered of the places below p; those from p on are as they were
pub record GatheredTo (fs : List ℕ) (nodes : ℕ) (memory last first : List ℕ) (number p : ℕ) : Type 0 where
  pub as_long : length first ≡ leaves_of nodes
  pub count : number ≡ min (number_of fs p) (leaves_of nodes)
  pub each : (i : ℕ) → i < number → (q : ℕ) × LeafAt fs nodes q i × (get_or first i 0 ≡ get_or memory q 0)
  pub ahead : (j : ℕ) → p ≤ j → get_or (first ++ last) j 0 ≡ get_or memory j 0

pub gathered_none : (fs : List ℕ) (nodes : ℕ) (first last : List ℕ) → length first ≡ leaves_of nodes
    → GatheredTo fs nodes (first ++ last) last first 0 0
unfolding how_many
gathered_none fs nodes first last e = record { as_long = e; count = omega arith; each = λ i h. absurd (omega arith); ahead = λ j h. refl }

module _ (fs : List ℕ) (nodes : ℕ) (memory last first : List ℕ) (number p : ℕ) (G : GatheredTo fs nodes memory last first number p) where
  module _ (h : p < nodes) (word child : ℕ) (w : word ≡ get_or (first ++ last) p 0) (c : child ≡ get_or fs p 0) (first' : List ℕ) (r : ℕ)
      (T : Takes first number word child first' r) where
    count_more : r ≡ min (number_of fs (p + 1)) (leaves_of nodes)
    count_more =
        ⊎_elim
        (λ t. omega (arith, t.1, t.2, G.count, number_leaf fs p (sym c ∙ t.0)))
        (λ t.
        ⊎_elim
        (λ z.
        ⊎_elim (λ l. absurd (t.0 (z, l))) (λ l. omega (arith, t.1, l, G.as_long, G.count, number_leaf fs p (sym c ∙ z)))
        (order number (length first)))
        (λ n. omega (arith, t.1, G.count, number_other fs p (λ z. n (c ∙ z))))
        (same child 0))
        T.3

    last_one : number < r → (q : ℕ) × LeafAt fs nodes q number × (get_or first' number 0 ≡ get_or memory q 0)
    last_one l =
        ⊎_elim
        (λ t. (
          p,
          record { inside = h; alone = sym c ∙ t.0; number = omega (arith, t.1, G.as_long, G.count); few = omega (arith, t.1, G.as_long) },
          T.2 t.1 ∙ w ∙ G.ahead p (omega arith),
        ))
        (λ t. absurd (omega (arith, t.1)))
        T.3

    next_most : r ≤ number + 1
    next_most = ⊎_elim (λ t. omega (arith, t.2)) (λ t. omega (arith, t.1)) T.3

    pub gathered_more : GatheredTo fs nodes memory last first' r (p + 1)
    gathered_more = record {
      as_long = T.0 ∙ G.as_long;
      count = count_more;
      each = λ i l.
          ⊎_elim
          (λ e. subst (λ (i : ℕ). (q : ℕ) × LeafAt fs nodes q i × (get_or first' i 0 ≡ get_or memory q 0)) (sym e) (last_one (omega arith)))
          (λ n. let g = G.each i (omega (arith, next_most)) in (g.0, g.1, T.1 i n ∙ g.2))
          (same i number);
      ahead = λ j l. words_stay first first' last j T.0 (T.1 j (omega (arith, G.count, at_most (childless fs) p))) ∙ G.ahead j (omega arith);
    }
