-- The numbers and slabs of the leaves, as they are taken down. Assumes nothing.
use Rattle.std.proofs.Common.{◌≡◌, ℕ, ◌+◌, ◌-◌, ◌*◌, ◌^◌, ◌<◌, ◌≤◌, min, List, length, get_or, set, replicate, sym, refl, ap, ◌∙◌, subst, inl, inr, ⊎_elim, arith, length-set, get_or-set_other, get_or-set_same, pow_mono}
use lib.ListN.{length-replicate, get_or-replicate}
use Rattle.morton.specs.Level.{limit}
use Rattle.tree.proofs.Lists.{order}
use Rattle.slabs.specs.Heights.{slab_of, slab_at}
use Rattle.slabs.proofs.Order.{slab_lt, at_within}
use Rattle.lifetimes.specs.Needed.{how_many}
use Rattle.lifetimes.specs.Trusted.{leaves_of, number_of, LeafAt}
use Rattle.lifetimes.specs.Steps.{upper, lower, slot_of, early, Numbering, PutLeaf}
use Rattle.spans.proofs.HowMany.{same}
use Rattle.spans.proofs.Numbers.{number_leaf, number_other, number_below}

pub leaf_one : {fs : List ℕ} {nodes p i j : ℕ} → LeafAt fs nodes p i → LeafAt fs nodes p j → i ≡ j
leaf_one a b = sym a.number ∙ b.number

-- ---- the number that stands for a place

-- there is a place for each leaf
pub slot_inside : (nodes p : ℕ) → p < nodes → slot_of p < leaves_of nodes
slot_inside nodes p h = omega arith

-- ---- the pass

-- what is taken down of the places below p
pub record NumberedTo (fs ks : List ℕ) (nodes s p number : ℕ) (first last : List ℕ) : Type 0 where
  pub below : p ≤ nodes
  pub number_is : number ≡ min (number_of fs p) (leaves_of nodes + 1)
  pub first_long : length first ≡ leaves_of nodes
  pub last_long : length last ≡ leaves_of nodes
  pub slots : (q : ℕ) → q < p → get_or fs q 0 ≡ 0 → Numbering fs nodes q (get_or last (slot_of q) 0)
  pub no_last : (i : ℕ) → i < leaves_of nodes → lower (get_or last i 0) ≡ 0
  pub owned : (q i : ℕ) → q < p → LeafAt fs nodes q i → upper (get_or first i 0) ≡ slab_of s (get_or ks q 0)
  pub no_first : (i : ℕ) → i < leaves_of nodes → lower (get_or first i 0) ≡ 65535

pub numbered_none : (fs ks : List ℕ) (nodes s : ℕ) (first last : List ℕ) → first ≡ replicate (leaves_of nodes) 65535 → last ≡ replicate (leaves_of nodes) 0
    → NumberedTo fs ks nodes s 0 0 first last
unfolding how_many
numbered_none fs ks nodes s first last e f =
    record {
      below = omega arith;
      number_is = omega arith;
      first_long = ap length e ∙ length-replicate (leaves_of nodes) 65535;
      last_long = ap length f ∙ length-replicate (leaves_of nodes) 0;
      slots = λ q h. absurd (omega arith);
      no_last = λ i h. omega (arith, ap (λ (xs : List ℕ). get_or xs i 0) f, get_or-replicate {A = ℕ} (leaves_of nodes) i 0 0 h);
      owned = λ q i h. absurd (omega arith);
      no_first = λ i h. omega (arith, ap (λ (xs : List ℕ). get_or xs i 0) e, get_or-replicate {A = ℕ} (leaves_of nodes) i 65535 0 h);
    }

module _ (fs ks : List ℕ) (nodes s p number : ℕ) (first last : List ℕ) (N : NumberedTo fs ks nodes s p number first last) (h : p < nodes) where
  abbrev m : ℕ
  m = leaves_of nodes

  abbrev put : ℕ
  put = 65536 * (number + early p)

  abbrev last' : List ℕ
  last' = set last (slot_of p) put

  slot_in : slot_of p < length last
  slot_in = omega (arith, slot_inside nodes p h, N.last_long)

  here : get_or last' (slot_of p) 0 ≡ put
  here = get_or-set_same last (slot_of p) put 0 slot_in

  there : (i : ℕ) → (i ≡ slot_of p → ⊥) → get_or last' i 0 ≡ get_or last i 0
  there i n = get_or-set_other last (slot_of p) i put 0 n

  slot_here : Numbering fs nodes p (get_or last' (slot_of p) 0)
  slot_here = record {
    number = number;
    stored = omega (arith, here);
    right = ⊎_elim (λ l. inl (l, omega (arith, N.number_is))) (λ l. inr (l, omega (arith, N.number_is))) (order (number_of fs p) m);
  }

  -- the place before it, if both share a slot
  slot_shared : (q : ℕ) → q < p → get_or fs q 0 ≡ 0 → slot_of q ≡ slot_of p → Numbering fs nodes q (get_or last' (slot_of q) 0)
  slot_shared q l e c =
      let next : q + 1 ≡ p = omega arith in
      let more : number_of fs p ≡ number_of fs q + 1 = ap (number_of fs) (sym next) ∙ number_leaf fs q e in
      let at : get_or last' (slot_of q) 0 ≡ put = ap (λ (i : ℕ). get_or last' i 0) c ∙ here in
      record {
        number = number - 1;
        stored = omega (arith, at, N.number_is, more);
        right = ⊎_elim (λ l. inl (l, omega (arith, N.number_is, more))) (λ l. inr (l, omega (arith, N.number_is, more))) (order (number_of fs q) m);
      }

  slots_more : (q : ℕ) → q < p + 1 → get_or fs q 0 ≡ 0 → Numbering fs nodes q (get_or last' (slot_of q) 0)
  slots_more q l e = ⊎_elim
      (λ c. subst (λ (q : ℕ). Numbering fs nodes q (get_or last' (slot_of q) 0)) (sym c) slot_here)
      (λ n. ⊎_elim
      (λ c. slot_shared q (omega arith) e c)
      (λ d. subst (Numbering fs nodes q) (sym (there (slot_of q) d)) (N.slots q (omega arith) e))
      (same (slot_of q) (slot_of p)))
      (same q p)

  no_last_more : (i : ℕ) → i < m → lower (get_or last' i 0) ≡ 0
  no_last_more i l = ⊎_elim
      (λ c. omega (arith, ap (λ (i : ℕ). get_or last' i 0) c, here))
      (λ n. omega (arith, there i n, N.no_last i l))
      (same i (slot_of p))

  pub numbered_other : (get_or fs p 0 ≡ 0 → ⊥) → NumberedTo fs ks nodes s (p + 1) number first last'
  numbered_other n = record {
    below = omega arith;
    number_is = omega (arith, N.number_is, number_other fs p n);
    first_long = N.first_long;
    last_long = length-set last (slot_of p) put ∙ N.last_long;
    slots = slots_more;
    no_last = no_last_more;
    owned = λ q i l a. N.owned q i (⊎_elim (λ c. absurd (n (subst (λ (q : ℕ). get_or fs q 0 ≡ 0) c a.alone))) (λ d. omega arith) (same q p)) a;
    no_first = N.no_first;
  }

  module _ (e : get_or fs p 0 ≡ 0) (slab r : ℕ) (first' : List ℕ) (slab_is : slab ≡ slab_of s (get_or ks p 0)) (P : PutLeaf first number slab first' r) where
    abbrev own : ℕ
    own = 65536 * slab + 65535

    first_at_lem : (i : ℕ) → i < m → number ≡ i → get_or first' i 0 ≡ own
    first_at_lem i l c =
        ap (λ (xs : List ℕ). get_or xs i 0) P.table
        ∙ ap (λ (k : ℕ). get_or (set first k own) i 0) c
        ∙ get_or-set_same first i own 0 (omega (arith, N.first_long))

    first_else : (i : ℕ) → (i ≡ number → ⊥) → get_or first' i 0 ≡ get_or first i 0
    first_else i n = ap (λ (xs : List ℕ). get_or xs i 0) P.table ∙ get_or-set_other first number i own 0 n

    owned_more : (q i : ℕ) → q < p + 1 → LeafAt fs nodes q i → upper (get_or first' i 0) ≡ slab_of s (get_or ks q 0)
    owned_more q i l a = ⊎_elim
        (λ c.
        let is : number_of fs p ≡ i = ap (number_of fs) (sym c) ∙ a.number in
        omega (arith, first_at_lem i a.few (omega (arith, N.number_is, is, a.few)), slab_is, ap (λ (q : ℕ). slab_of s (get_or ks q 0)) c))
        (λ n.
        let before : q < p = omega arith in
        let d : i ≡ number → ⊥ = λ z. omega (arith, z, N.number_is, number_below fs q p before a.alone, a.number, a.few) in
        omega (arith, first_else i d, N.owned q i before a))
        (same q p)

    pub numbered_leaf : NumberedTo fs ks nodes s (p + 1) r first' last'
    numbered_leaf = record {
      below = omega arith;
      number_is = omega (arith, P.next, N.number_is, N.first_long, number_leaf fs p e);
      first_long = ap length P.table ∙ length-set first number own ∙ N.first_long;
      last_long = length-set last (slot_of p) put ∙ N.last_long;
      slots = slots_more;
      no_last = no_last_more;
      owned = owned_more;
      no_first = λ i l. ⊎_elim (λ c. omega (arith, first_at_lem i l (sym c))) (λ n. omega (arith, first_else i n, N.no_first i l)) (same i number);
    }

pub slab_small : (s k : ℕ) → s ≤ limit → slab_of s k < 2 ^ 15
slab_small s k h = omega (arith, slab_lt s k, pow_mono {i = s} {j = 15} h)

-- ---- slabs at an exponent within the limit

module _ (s k r : ℕ) (h : s ≤ limit) (e : r ≡ slab_at s k) where
  pub slab_at_is : r ≡ slab_of s k
  slab_at_is = e ∙ sym (at_within s k (slab_of s k) h refl)

  pub slab_at_small : r < 2 ^ 15
  slab_at_small = omega (arith, slab_at_is, slab_small s k h)
