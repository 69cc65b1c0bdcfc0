-- Where the leaves of a sound tree stand among its nodes: how many childless nodes come before one is its place in the leaf table. Assumes nothing.
use Rattle.std.proofs.Common.{◌≡◌, ℕ, zero, suc, ◌+◌, ◌*◌, ◌^◌, ◌<◌, ◌≤◌, ◌⊎◌, List, length, get_or, sym, ap, ◌∙◌, subst, subst₂, inl, inr, ⊎_elim, arith}
use native.Mathlib.Decide.{dec_lt, ℕ_discrete}
use native.Mathlib.Nat.{min-eq_left}
use Rattle.morton.specs.Level.{limit}
use Rattle.tree.specs.Tree.{Tree, StandsAt, NoChild, Sound}
use Rattle.tree.proofs.Down.{sound_few}
use Rattle.tree.proofs.Finding.{nodes}
use Rattle.tree.proofs.Lists.{order, in_cast, stands_in, ascending_place}
use Rattle.tree.proofs.Pass.{Walked, start, all_eight, not_too_deep, leaf_next, no_more_keys, no_more_leaves, first_here, first_none, after_split, after_leaf}
use Rattle.lifetimes.specs.Needed.{how_many}
use Rattle.lifetimes.specs.Trusted.{nodes_in, leaves_of, number_of, LeafAt}
use Rattle.spans.proofs.Numbers.{number_leaf, number_other}

stands_or_not : (ks : List ℕ) (p k : ℕ) → StandsAt ks p k ⊎ (StandsAt ks p k → ⊥)
stands_or_not ks p k =
    elim (dec_lt p (length ks)) [
      | yes h ↦ elim (ℕ_discrete (get_or ks p 0) k) [ yes e ↦ inl (record { inside = h; here = e }) | no n ↦ inr (λ s. n s.here) ]
      | no h ↦ inr (λ s. h s.inside)
    ]

module _ (t : Tree) (S : Sound t) where
  -- ---- the pass over the nodes has met as many leaves

  abbrev Come : ℕ → Type 0
  Come i = (c : ℕ) × Walked t.keys t.leaves t.firsts i c (number_of t.firsts i)

  -- nodes are left
  ahead : (i : ℕ) → i < length t.keys → (w : Come i) → i < w.0
  ahead i h (c, W) = ⊎_elim (λ l. l) (λ l. absurd (no_more_keys {d = t.distances} W S l (omega arith))) (order i c)

  -- a first child doesn't stand at the root's place
  not_first : (i : ℕ) (h : i < length t.keys) (w : Come i) → StandsAt t.keys w.0 (8 * get_or t.keys i 0) → get_or t.firsts i 0 ≡ 0 → ⊥
  not_first i h (c, W) s e = omega (arith, first_here {d = t.distances} W S (ahead i h (c, W)) s, W.some)

  next : (i : ℕ) → i < length t.keys → Come i → Come (suc i)
  next i h (c, W) = ⊎_elim split leaf (stands_or_not t.keys c (8 * get_or t.keys i 0))
    where
      l : i < c
      l = ahead i h (c, W)

      one : i + 1 ≡ suc i
      one = omega arith

      split : StandsAt t.keys c (8 * get_or t.keys i 0) → Come (suc i)
      split s =
          let top : get_or t.keys i 0 < 8 ^ limit =
          ⊎_elim (λ g. g) (λ g. absurd (not_too_deep {d = t.distances} W S s g)) (order (get_or t.keys i 0) (8 ^ limit)) in (
            c + 8,
            subst₂ (λ (j m : ℕ). Walked t.keys t.leaves t.firsts j (c + 8) m) one
                (sym (ap (number_of t.firsts) (sym one) ∙ number_other t.firsts i (not_first i h (c, W) s)))
                (after_split W l top (all_eight {d = t.distances} W S l s) (first_here {d = t.distances} W S l s)),
          )

      leaf : (StandsAt t.keys c (8 * get_or t.keys i 0) → ⊥) → Come (suc i)
      leaf n =
          let z : get_or t.firsts i 0 ≡ 0 = first_none {d = t.distances} W S l n in (
            c,
            subst₂ (λ (j m : ℕ). Walked t.keys t.leaves t.firsts j c m) one (sym (ap (number_of t.firsts) (sym one) ∙ number_leaf t.firsts i z))
                (after_leaf W l (leaf_next {d = t.distances} W S l n) z),
          )

  come : (i : ℕ) → i ≤ length t.keys → Come i
  unfolding how_many
  come zero h = (1, start t.keys t.leaves t.firsts S.first)
  come (suc i) h = next i h (come i (omega arith))

  -- so there are as many leaves as the number of nodes tells
  pub leaves_count : leaves_of (length t.keys) ≡ length t.leaves
  leaves_count =
      let (c, W) = come (length t.keys) (omega arith) in
      let all : number_of t.firsts (length t.keys) ≡ length t.leaves =
      ⊎_elim (λ l. absurd (no_more_leaves {d = t.distances} W S (omega arith) l)) (λ l. omega (arith, W.leaves_inside))
      (order (number_of t.firsts (length t.keys)) (length t.leaves)) in
      omega (arith, W.count, W.behind, W.inside, all)

  -- a childless node stands in the leaf table, at its number
  pub leaf_stands : (p : ℕ) → p < length t.keys → get_or t.firsts p 0 ≡ 0 → StandsAt t.leaves (number_of t.firsts p) (get_or t.keys p 0)
  leaf_stands p h z =
      let w = come p (omega arith) in
      leaf_next {d = t.distances} w.1 S (ahead p h w) (λ s. not_first p h w s z)

  -- ---- leaves by their places, all nodes being few enough

  module _ (short : (i : ℕ) → i < length t.firsts → get_or t.firsts i 0 < 2 ^ 16) where
    pub all_nodes : nodes_in (nodes t) ≡ length t.keys
    all_nodes = min-eq_left (sound_few t S short)

    pub all_leaves : leaves_of (nodes_in (nodes t)) ≡ length t.leaves
    all_leaves = ap leaves_of all_nodes ∙ leaves_count

    abbrev pub Leaf : ℕ → ℕ → Type 0
    Leaf p i = LeafAt t.firsts (nodes_in (nodes t)) p i

    pub leaf_key : (p i : ℕ) → Leaf p i → StandsAt t.leaves i (get_or t.keys p 0)
    leaf_key p i l =
        subst (λ (j : ℕ). StandsAt t.leaves j (get_or t.keys p 0)) l.number (leaf_stands p (omega (arith, l.inside, all_nodes)) l.alone)

    -- the leaf of a key that is in the leaf table at i, and stands at p
    pub leaf_here : (p i : ℕ) → p < length t.keys → StandsAt t.leaves i (get_or t.keys p 0) → Leaf p i
    leaf_here p i h s =
        let none : NoChild (get_or t.keys p 0) t.keys = (S.leaves_childless (get_or t.keys p 0) (stands_in s)).1 in
        let z : get_or t.firsts p 0 ≡ 0 =
        ⊎_elim (λ f. absurd (none 0 (omega arith) (in_cast (omega arith) (stands_in f)))) (λ n. n.1) (S.first_child p h) in
        let own = leaf_stands p h z in
        record {
          inside = omega (arith, all_nodes);
          alone = z;
          number = ascending_place t.leaves S.leaves_ascending (number_of t.firsts p) i own.inside s.inside (own.here ∙ sym s.here);
          few = omega (arith, s.inside, all_leaves);
        }
