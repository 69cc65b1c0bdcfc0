-- The nodes' slabs, as they are taken down. Assumes nothing.
use Prim.Native.Nat.{ℕ, ◌+◌, ◌-◌, ◌*◌, ◌/◌, ◌≤◌, ◌<◌}
use mathlib.Core.Path.{◌≡◌, refl, sym, ◌∙◌, ap, subst}
use mathlib.Core.List.{List}
use mathlib.Core.Logic.{⊎_elim}
use native.Mathlib.Omega.{arith}
use lib.Pow.{pow_mono}
use lib.ListN.{length, get_or, set, length-set}
use lib.Seq.{get_or-set_same, get_or-set_other}
use Rattle.morton.specs.Level.{limit}
use Rattle.tree.specs.Down.{Nodes}
use Rattle.tree.proofs.Lists.{order}
use Rattle.slabs.specs.Heights.{slab_of, slab_at}
use Rattle.slabs.proofs.Order.{slab_lt, at_within}
use Rattle.spans.specs.Trusted.{leaves_of, four_of, slab_of_place}
use Rattle.spans.specs.Steps.{own, SlabsPut}

pub slab_small : (s k : ℕ) → s ≤ limit → slab_of s k < 32768
slab_small s k h = omega (arith, slab_lt s k, pow_mono {i = s} {j = 15} h)

-- where the next four begin, after those at p
abbrev pub next_four : ℕ → ℕ
next_four p = 4 * ((p + 3) / 4) + 1

-- what is taken down of the places below p
pub record SlabsTo (n : Nodes) (s nodes : ℕ) (last₀ last : List ℕ) (p : ℕ) : Type 0 where
  four : four_of p ≡ p
  pub as_long : length last ≡ length last₀
  before : (i : ℕ) → i < nodes - length last₀ → get_or last i 0 ≡ get_or last₀ i 0
  each : (q : ℕ) → q < p → q < nodes → own nodes last q ≡ slab_of_place n s q

pub slabs_none : (n : Nodes) (s nodes : ℕ) (last : List ℕ) → SlabsTo n s nodes last last 0
slabs_none n s nodes last = record { four = refl; as_long = refl; before = λ i h. refl; each = λ q h. absurd (omega arith) }

module _ (n : Nodes) (s nodes : ℕ) (last₀ last : List ℕ) (p x : ℕ) (T : SlabsTo n s nodes last₀ last p)
    (long : length last₀ ≡ leaves_of nodes) (h : p < nodes) where
  abbrev at : ℕ
  at = nodes - length last₀ + (p + 3) / 4

  pub at_room : at < length last
  at_room = omega (arith, long, T.as_long)

  abbrev last' : List ℕ
  last' = set last at x

  long' : length last' ≡ length last₀
  long' = length-set last at x ∙ T.as_long

  index : (q : ℕ) → nodes - length last' + (q + 3) / 4 ≡ nodes - length last₀ + (q + 3) / 4
  index q = omega (arith, long')

  pub slabs_next : s ≤ limit → x ≡ slab_at s (get_or n.keys p 0) → SlabsTo n s nodes last₀ last' (next_four p)
  slabs_next small e = record {
    four = omega arith;
    as_long = long';
    before = λ i l. get_or-set_other last at i x 0 (λ z. omega (arith, z)) ∙ T.before i l;
    each = λ q l i. ap (λ (j : ℕ). get_or last' j 0) (index q) ∙ ⊎_elim (old q i) (new q l) (order q p);
  }
    where
      old : (q : ℕ) → q < nodes → q < p → get_or last' (nodes - length last₀ + (q + 3) / 4) 0 ≡ slab_of_place n s q
      old q i l =
          let j : nodes - length last₀ + (q + 3) / 4 ≡ nodes - length last + (q + 3) / 4 = omega (arith, T.as_long) in
          get_or-set_other last at (nodes - length last₀ + (q + 3) / 4) x 0 (λ z. omega (arith, z, T.four))
          ∙ ap (λ (j : ℕ). get_or last j 0) j
          ∙ T.each q l i

      new : (q : ℕ) → q < next_four p → p ≤ q → get_or last' (nodes - length last₀ + (q + 3) / 4) 0 ≡ slab_of_place n s q
      new q l g =
          let j : nodes - length last₀ + (q + 3) / 4 ≡ at = omega (arith, T.four) in
          let f : p ≡ four_of q = omega (arith, T.four) in
          ap (λ (j : ℕ). get_or last' j 0) j
          ∙ get_or-set_same last at x 0 at_room
          ∙ e
          ∙ sym (at_within s (get_or n.keys p 0) (slab_of s (get_or n.keys p 0)) small refl)
          ∙ ap (λ (p : ℕ). slab_of s (get_or n.keys p 0)) f

-- the root, if there is one
pub slabs_root : (n : Nodes) (s nodes : ℕ) (last : List ℕ) (x : ℕ) → length last ≡ leaves_of nodes → 0 < nodes → s ≤ limit
    → x ≡ slab_at s (get_or n.keys 0 0)
    → SlabsTo n s nodes last (set last (nodes - length last) x) 1
slabs_root n s nodes last x long h small e =
    let i : nodes - length last + (0 + 3) / 4 ≡ nodes - length last = omega arith in
    subst (λ (i : ℕ). SlabsTo n s nodes last (set last i x) 1) i (slabs_next n s nodes last last 0 x (slabs_none n s nodes last) long h small e)

pub slabs_no_root : (n : Nodes) (s nodes : ℕ) (last : List ℕ) → nodes ≤ 0 → SlabsTo n s nodes last last 1
slabs_no_root n s nodes last h = record { four = refl; as_long = refl; before = λ i l. refl; each = λ q l i. absurd (omega arith) }

-- four siblings more
pub slabs_more : {n : Nodes} {s nodes : ℕ} {last₀ last : List ℕ} {p x : ℕ} → SlabsTo n s nodes last₀ last p → 1 ≤ p → length last₀ ≡ leaves_of nodes
    → p < nodes
    → s ≤ limit → x ≡ slab_at s (get_or n.keys p 0) → SlabsTo n s nodes last₀ (set last (nodes - length last₀ + (p + 3) / 4) x) (p + 4)
slabs_more {n} {s} {nodes} {last₀} {last} {p} {x} T g long h small e =
    let i : next_four p ≡ p + 4 = omega (arith, T.four) in
    subst (SlabsTo n s nodes last₀ (set last (nodes - length last₀ + (p + 3) / 4) x)) i (slabs_next n s nodes last₀ last p x T long h small e)

pub slabs_put : (n : Nodes) (s nodes : ℕ) (last₀ last : List ℕ) (p : ℕ) → nodes ≤ p → SlabsTo n s nodes last₀ last p → SlabsPut n s nodes last₀ last
slabs_put n s nodes last₀ last p h T = record { as_long = T.as_long; before = T.before; each = λ q l. T.each q (omega arith) l }
