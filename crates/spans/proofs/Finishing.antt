-- The memory before any cell, and the spans that come of it after all. Assumes nothing.
use Prim.Native.Nat.{ℕ, ◌-◌, ◌≤◌, ◌<◌}
use mathlib.Core.Path.{◌≡◌, refl, sym, ◌∙◌, ap, subst}
use mathlib.Core.List.{List, [], ◌++◌}
use mathlib.Core.Logic.{◌⊎◌, inl, inr, ⊎_elim}
use native.Mathlib.Omega.{arith}
use borrow.Rule.Slice.PartMut.{mid_of, post_of, put_mid, same_len_mid, mid_len}
use lib.ListN.{length, get_or, take, replicate, length-take, length-replicate, get_or-replicate}
use lib.Seq.{get_or-take}
use Rattle.morton.specs.Level.{limit}
use Rattle.tree.specs.Down.{Nodes}
use Rattle.tree.proofs.Lists.{order}
use Rattle.vertices.specs.Walk.{spots_of}
use Rattle.vertices.specs.Cells.{places_of}
use Rattle.spans.specs.Least.{LeastOf, GreatestOf}
use Rattle.spans.specs.Trusted.{nodes_in, leaves_of, four_of, LeafAt, Beside, slab_of_place, Sharing, Shared, Alone, TrustedSpans}
use Rattle.spans.specs.declared.Tables.{Tables}
use Rattle.spans.specs.Tables.{Same}
use Rattle.spans.specs.Steps.{upper, lower, Small, GreatestYet, down, SlabsPut, Ready, Reached, Spanned, Widens, Prepared, Gathered, AllSmall, Unpacked, AllUnpacked}
use Rattle.spans.proofs.Memory.{in_first, in_last}
use Rattle.spans.proofs.Slabbing.{slab_small}
use Rattle.spans.proofs.Yet.{yet_none, yet_same}
use Rattle.spans.proofs.Gathering.{leaf_place, none_past}

-- ---- before

-- of no cell at all
no_cell : (height : ℕ → ℕ) (p x : ℕ) → 0 ≡ x → GreatestYet (Beside height [] p) x
no_cell height p x e = yet_same x e (yet_none {Kind = Beside height [] p} (λ y b. omega (arith, b.e_inside))) (λ y b. b) (λ y b. b)

module _ (n : Nodes) (s : ℕ) (small : s ≤ limit) (first last last' : List ℕ) where
  abbrev nodes : ℕ
  nodes = nodes_in n

  abbrev m : ℕ
  m = leaves_of nodes

  module _ (f : first ≡ replicate m 0) (l : last ≡ replicate m 0) (S : SlabsPut n s nodes last last') where
    first_long : length first ≡ m
    first_long = ap length f ∙ length-replicate m 0

    last_long : length last ≡ m
    last_long = ap length l ∙ length-replicate m 0

    -- all words are 0
    empty : (p : ℕ) → p < nodes → get_or (first ++ last') p 0 ≡ 0
    empty p h = ⊎_elim
        (λ i. in_first first last' p i ∙ ap (λ (xs : List ℕ). get_or xs p 0) f ∙ get_or-replicate {A = ℕ} m p 0 0 (omega (arith, first_long)))
        (λ i.
        in_last first last' p i
        ∙ S.before (p - length first) (omega (arith, first_long, last_long))
        ∙ ap (λ (xs : List ℕ). get_or xs (p - length first) 0) l
        ∙ get_or-replicate {A = ℕ} m (p - length first) 0 0 (omega (arith, first_long)))
        (order p (length first))

    prepared : Prepared n s first last'
    prepared = record {
      ready = record {
        first_long = first_long;
        last_long = S.as_long ∙ last_long;
        words = λ p h. record { low = omega (arith, empty p h); high = omega (arith, empty p h) };
        slabs = λ p h. omega (arith, S.each p h, slab_small s (get_or n.keys (four_of p) 0) small);
      };
      spans = record {
        owned = S.each;
        each = λ p h. record {
          highest = no_cell (slab_of_place n s) p (lower (get_or (first ++ last') p 0)) (omega (arith, empty p h));
          lowest = no_cell (down (slab_of_place n s)) p (upper (get_or (first ++ last') p 0)) (omega (arith, empty p h));
        };
      };
    }

-- ---- after

-- by another height
beside_as : {height height' : ℕ → ℕ} {places : List ℕ} {p y y' : ℕ} → ((q : ℕ) → height q ≡ y → height' q ≡ y') → Beside height places p y
    → Beside height' places p y'
beside_as {height} {height'} {places} to b = record {
  e = b.e;
  f = b.f;
  e_inside = b.e_inside;
  f_inside = b.f_inside;
  one_cell = b.one_cell;
  here = b.here;
  there = to (get_or places b.f 0) b.there;
}

module _ (n : Nodes) (s : ℕ) (small : s ≤ limit) where
  abbrev slab : ℕ → ℕ
  slab = slab_of_place n s

  abbrev places : List ℕ
  places = places_of n (spots_of n)

  slab_most : (p : ℕ) → slab p ≤ 32767
  slab_most p = omega (arith, slab_small s (get_or n.keys (four_of p) 0) small)

  module _ (p : ℕ) where
    as_down : (y : ℕ) → Beside slab places p y → Beside (down slab) places p (32767 - y)
    as_down y b = beside_as (λ q e. ap (λ (x : ℕ). 32767 - x) e) b

    as_up : (y : ℕ) → Beside (down slab) places p y → Beside slab places p (32767 - y)
    as_up y b = beside_as (λ q e. omega (arith, e, slab_most q)) b

  -- of a leaf, by its word
  module _ (i p w : ℕ) (leaf : LeafAt n.firsts (nodes_in n) p i) (R : Reached slab places p w) (few : Small w) where
    beside : (y : ℕ) → Sharing n s i y → Beside slab places p y
    beside y b = subst (λ (p : ℕ). Beside slab places p y) (leaf_place b.leaf leaf) b.beside

    sharing : (y : ℕ) → Beside slab places p y → Sharing n s i y
    sharing y b = record { place = p; leaf = leaf; beside = b }

    below : (y : ℕ) → Sharing n s i y → y ≤ lower w
    below y b = R.highest.all y (beside y b)

    above : (y : ℕ) → Sharing n s i y → 32767 - upper w ≤ y
    above y b = omega (arith, R.lowest.all (32767 - y) (as_down p y (beside y b)))

    module _ (o : 32767 - upper w ≤ lower w) where
      lowest : Sharing n s i (32767 - upper w)
      lowest = ⊎_elim
          (λ z. let e : lower w ≡ 32767 - upper w = omega (arith, few.low) in
          subst (Sharing n s i) e (sharing (lower w) (⊎_elim (λ y. absurd (omega arith)) (λ b. b) R.highest.one)))
          (λ b. sharing (32767 - upper w) (as_up p (upper w) b))
          R.lowest.one

      highest : Sharing n s i (lower w)
      highest = ⊎_elim
          (λ z. let e : 32767 - upper w ≡ lower w = omega arith in subst (Sharing n s i) e lowest)
          (λ b. sharing (lower w) b)
          R.highest.one

    leaf_span : (first last : ℕ) → Unpacked w first last → Shared n s i first last ⊎ Alone n s i first last
    leaf_span first last u = ⊎_elim
        (λ u. inl (record {
          from = subst (LeastOf (Sharing n s i)) (sym u.1) (record { one_of = lowest u.0; least = above });
          to = subst (GreatestOf (Sharing n s i)) (sym u.2) (record { one_of = highest u.0; greatest = below });
        }))
        (λ u. inr (record { none = λ y b. omega (arith, below y b, above y b, u.0); from = u.1; to = u.2 }))
        u

  no_leaf_span : (i first last : ℕ) → ((p : ℕ) → LeafAt n.firsts (nodes_in n) p i → ⊥) → Unpacked 0 first last
      → Shared n s i first last ⊎ Alone n s i first last
  no_leaf_span i first last none u =
      inr (⊎_elim (λ u. absurd (omega (arith, u.0))) (λ u. record { none = λ y b. none b.place b.leaf; from = u.1; to = u.2 }) u)

  -- the words of the leaves in their order, and 0 where there is none
  module _ (first last words zeros after : List ℕ) (r k : ℕ) (R : Ready (nodes_in n) first last) (S : Spanned (nodes_in n) slab places first last)
      (G : Gathered n.firsts (nodes_in n) (first ++ last) first words r) (zeros-are : zeros ≡ replicate k 0) (enough : k ≡ length words - r) where
    abbrev count : ℕ
    count = leaves_of (nodes_in n)

    abbrev gone : List ℕ
    gone = take r words ++ (zeros ++ after)

    words_long : length words ≡ count
    words_long = G.as_long ∙ R.first_long

    taken : length (take r words) ≡ r
    taken = omega (arith, length-take r words, words_long, G.count)

    gathered : (i : ℕ) → i < r → get_or gone i 0 ≡ get_or words i 0
    gathered i h = in_first (take r words) (zeros ++ after) i (omega (arith, taken)) ∙ get_or-take r words i 0 h

    cleared : (i : ℕ) → i < count → r ≤ i → get_or gone i 0 ≡ 0
    cleared i l h =
        let j : i - length (take r words) < k = omega (arith, taken, enough, words_long) in
        in_last (take r words) (zeros ++ after) i (omega (arith, taken))
        ∙ in_first zeros after (i - length (take r words)) (omega (arith, ap length zeros-are, length-replicate {A = ℕ} k 0))
        ∙ ap (λ (xs : List ℕ). get_or xs (i - length (take r words)) 0) zeros-are
        ∙ get_or-replicate {A = ℕ} k (i - length (take r words)) 0 0 j

    -- the word of a leaf, or there is none
    word : (i : ℕ) → i < count
        → ((p : ℕ) × LeafAt n.firsts (nodes_in n) p i × (get_or gone i 0 ≡ get_or (first ++ last) p 0))
        ⊎ (((p : ℕ) → LeafAt n.firsts (nodes_in n) p i → ⊥) × (get_or gone i 0 ≡ 0))
    word i l = ⊎_elim
        (λ h. let g = G.each i h in inl (g.0, g.1, gathered i h ∙ g.2))
        (λ h. inr ((λ p a. none_past G.count h a), cleared i l h))
        (order i r)

    all_small : length gone ≡ length words → AllSmall gone
    all_small long i h = ⊎_elim
        (λ (p, leaf, e). subst Small (sym e) (R.words p leaf.inside))
        (λ b. record { low = omega (arith, b.1); high = omega (arith, b.1) })
        (word i (omega (arith, long, words_long)))

    spans_done : length gone ≡ length words → (first' last' : List ℕ) → AllUnpacked gone last first' last' → TrustedSpans n s first' last'
    spans_done long first' last' U = record {
      as_many_firsts = U.first_long ∙ long ∙ words_long;
      as_many_lasts = U.last_long ∙ R.last_long;
      each = λ i h.
          let u = U.each i (omega (arith, long, words_long)) in
          ⊎_elim
          (λ (p, leaf, e).
          leaf_span i p (get_or (first ++ last) p 0) leaf (S.each p leaf.inside) (R.words p leaf.inside) (get_or first' i 0) (get_or last' i 0)
          (subst (λ (w : ℕ). Unpacked w (get_or first' i 0) (get_or last' i 0)) e u))
          (λ b.
          no_leaf_span i (get_or first' i 0) (get_or last' i 0) b.0 (subst (λ (w : ℕ). Unpacked w (get_or first' i 0) (get_or last' i 0)) b.1 u))
          (word i h);
    }

-- ---- the steps one after another

pub prepared_at : (n : Nodes) (s many : ℕ) → many ≡ nodes_in n → s ≤ limit → (first₀ last₀ first last last' : List ℕ) → length first₀ ≡ leaves_of many
    → length last₀ ≡ leaves_of many → first ≡ replicate (length first₀) 0 → last ≡ replicate (length last₀) 0 → SlabsPut n s many last last'
    → Prepared n s first last'
prepared_at n s many e small first₀ last₀ first last last' a b f l S =
    prepared n s small first last last' (f ∙ ap (λ (m : ℕ). replicate m 0) (a ∙ ap leaves_of e))
    (l ∙ ap (λ (m : ℕ). replicate m 0) (b ∙ ap leaves_of e))
    (subst (λ (many : ℕ). SlabsPut n s many last last') e S)

-- the memory before any cell, after all cells, and with the words in the order of the leaves, of which r were gathered
module _ (n : Nodes) (s : ℕ) (small : s ≤ limit) {lent before after : Tables} {words last zeros : List ℕ} {r : ℕ} (m : lent.many ≡ nodes_in n)
    (same₀ : Same lent before) (P : Prepared n s before.first.now before.last.now)
    (same₁ : Same before after) (W₀ : Widens before.many (places_of n (spots_of n)) before.first.now before.last.now after.first.now after.last.now)
    (stays : last ≡ after.last.now) (G₀ : Gathered n.firsts after.many (after.first.now ++ after.last.now) after.first.now words r)
    (zeros-are : zeros ≡ replicate (length (mid_of r (length words - r) words)) 0) where
  -- with 0 from place r on
  abbrev kept : List ℕ
  kept = put_mid r (length words - r) words zeros

  long : length kept ≡ length words
  long = same_len_mid r (length words - r) words zeros (ap length zeros-are ∙ length-replicate (length (mid_of r (length words - r) words)) 0)

  W : Widens (nodes_in n) (places_of n (spots_of n)) before.first.now before.last.now after.first.now after.last.now
  W = rw (same₀.many ∙ m) at W₀

  G : Gathered n.firsts (nodes_in n) (after.first.now ++ after.last.now) after.first.now words r
  G = rw (same₁.many ∙ same₀.many ∙ m) at G₀

  S : Spanned (nodes_in n) (slab_of_place n s) (places_of n (spots_of n)) after.first.now after.last.now
  S = W.spans (slab_of_place n s) [] 0 refl P.spans

  pub small_words : AllSmall kept
  small_words =
      all_small n s small after.first.now after.last.now words zeros (post_of r (length words - r) words) r
      (length (mid_of r (length words - r) words)) W.ready S G zeros-are (mid_len r (length words) words (omega arith)) long

  pub spans_left : {first' last' : List ℕ} → AllUnpacked kept last first' last' → TrustedSpans n s first' last'
  spans_left {first'} {last'} U =
      spans_done n s small after.first.now after.last.now words zeros (post_of r (length words - r) words) r
      (length (mid_of r (length words - r) words)) W.ready S G zeros-are (mid_len r (length words) words (omega arith)) long first' last' (rw stays at U)
