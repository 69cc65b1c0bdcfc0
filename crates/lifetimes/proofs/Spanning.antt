-- The spans grow by the cells that are gone over. Assumes nothing.
use Rattle.std.proofs.Common.{◌≡◌, ℕ, ◌+◌, ◌-◌, ◌*◌, ◌^◌, ◌<◌, ◌≤◌, ◌⊎◌, List, [], ◌++◌, length, get_or, Option, None, take, drop, sym, refl, ap, ◌∙◌, subst, inl, inr, ⊎_elim, append_assoc, append-nil, arith, length-append, length-drop, length-take, get_or-drop, get_or-take, get_or-append-add, take-add, pow_pos}
use lib.ListN.{get_or-append}
use Rattle.tree.specs.Down.{Nodes}
use Rattle.tree.proofs.Lists.{order}
use Rattle.morton.specs.Level.{limit}
use Rattle.vertices.specs.Walk.{spots_of}
use Rattle.vertices.specs.Cells.{places_of}
use Rattle.slabs.proofs.Order.{slab_lt}
use Rattle.lifetimes.specs.Needed.{LeastOf, GreatestOf}
use Rattle.lifetimes.specs.Trusted.{nodes_in, leaves_of, LeafAt, Beside, Sharing, Shared, Alone}
use Rattle.lifetimes.specs.Steps.{upper, lower, slot_of, Ready, Finds, Edge, Meets, MeetingSays, Among, Pulled, Widened, Spanned, Widens, own_slab, Prepared, AllUnpacked, SpansLeft}
use Rattle.lifetimes.proofs.Numbers.{slot_inside, slab_small}
use Rattle.lifetimes.proofs.Edges.{found_is, Picking, downward, upward, edge_map, edge_pick}

-- ---- one cell more

module _ (fs : List ℕ) (nodes : ℕ) (slab : ℕ → ℕ) (seen places : List ℕ) (k at : ℕ) (long : length seen ≡ 8 * k) (room : 8 * at + 8 ≤ length places) where
  abbrev cell : List ℕ
  cell = take 8 (drop (8 * at) places)

  abbrev all : List ℕ
  all = seen ++ cell

  eight : length cell ≡ 8
  eight = omega (arith, length-take 8 (drop (8 * at) places), length-drop (8 * at) places)

  all_long : length all ≡ 8 * k + 8
  all_long = omega (arith, length-append seen cell, long, eight)

  old_at : (e : ℕ) → e < 8 * k → get_or all e 0 ≡ get_or seen e 0
  old_at e h = get_or-append seen cell 0 e (omega (arith, long))

  new_at : (o : ℕ) → o < 8 → get_or all (8 * k + o) 0 ≡ get_or places (8 * at + o) 0
  new_at o h =
      ap (λ (n : ℕ). get_or all (n + o) 0) (sym long)
      ∙ get_or-append-add seen cell o 0
      ∙ get_or-take 8 (drop (8 * at) places) o 0 h
      ∙ get_or-drop (8 * at) places o 0

  abbrev Leaf : ℕ → ℕ → Type 0
  Leaf p i = LeafAt fs nodes p i

  -- the cell has leaf i, and one whose slab is y
  record Here (i y : ℕ) : Type 0 where
    o : ℕ
    f : ℕ
    o_inside : o < 8
    f_inside : f < 8
    here : Leaf (get_or places (8 * at + o) 0) i
    other : ℕ
    there : Leaf (get_or places (8 * at + f) 0) other
    slab_is : slab (get_or places (8 * at + f) 0) ≡ y

  old : (i y : ℕ) → Beside fs nodes slab seen i y → Beside fs nodes slab all i y
  old i y b = record {
    e = b.e;
    f = b.f;
    e_inside = omega (arith, b.e_inside, long, all_long);
    f_inside = omega (arith, b.f_inside, long, all_long);
    one_cell = b.one_cell;
    here = subst (λ (p : ℕ). Leaf p i) (sym (old_at b.e (omega (arith, b.e_inside, long)))) b.here;
    other = b.other;
    there = subst (λ (p : ℕ). Leaf p b.other) (sym (old_at b.f (omega (arith, b.f_inside, long)))) b.there;
    slab_is = ap slab (old_at b.f (omega (arith, b.f_inside, long))) ∙ b.slab_is;
  }

  new : (i y : ℕ) → Here i y → Beside fs nodes slab all i y
  new i y h = record {
    e = 8 * k + h.o;
    f = 8 * k + h.f;
    e_inside = omega (arith, h.o_inside, all_long);
    f_inside = omega (arith, h.f_inside, all_long);
    one_cell = omega (arith, h.o_inside, h.f_inside);
    here = subst (λ (p : ℕ). Leaf p i) (sym (new_at h.o h.o_inside)) h.here;
    other = h.other;
    there = subst (λ (p : ℕ). Leaf p h.other) (sym (new_at h.f h.f_inside)) h.there;
    slab_is = ap slab (new_at h.f h.f_inside) ∙ h.slab_is;
  }

  -- a place from the end of what was seen on is the cell's
  entry : (e : ℕ) → 8 * k ≤ e → e < length all → get_or all e 0 ≡ get_or places (8 * at + (e - 8 * k)) 0
  entry e h l = let i : 8 * k + (e - 8 * k) ≡ e = omega arith in ap (λ (e : ℕ). get_or all e 0) (sym i) ∙ new_at (e - 8 * k) (omega (arith, all_long))

  either : (i y : ℕ) → Beside fs nodes slab all i y → Beside fs nodes slab seen i y ⊎ Here i y
  either i y b = ⊎_elim
      (λ lt.
      let ff : b.f < 8 * k = omega (arith, b.one_cell) in
      inl (record {
        e = b.e;
        f = b.f;
        e_inside = omega (arith, long);
        f_inside = omega (arith, long);
        one_cell = b.one_cell;
        here = subst (λ (p : ℕ). Leaf p i) (old_at b.e lt) b.here;
        other = b.other;
        there = subst (λ (p : ℕ). Leaf p b.other) (old_at b.f ff) b.there;
        slab_is = ap slab (sym (old_at b.f ff)) ∙ b.slab_is;
      }))
      (λ ge.
      let gf : 8 * k ≤ b.f = omega (arith, b.one_cell) in
      inr (record {
        o = b.e - 8 * k;
        f = b.f - 8 * k;
        o_inside = omega (arith, b.e_inside, all_long);
        f_inside = omega (arith, b.f_inside, all_long);
        here = subst (λ (p : ℕ). Leaf p i) (entry b.e ge b.e_inside) b.here;
        other = b.other;
        there = subst (λ (p : ℕ). Leaf p b.other) (entry b.f gf b.f_inside) b.there;
        slab_is = ap slab (sym (entry b.f gf b.f_inside)) ∙ b.slab_is;
      }))
      (order b.e (8 * k))

  module _ (first : List ℕ) (owned : (p i : ℕ) → Leaf p i → upper (get_or first i 0) ≡ slab p) where
    -- of a leaf that the cell has
    module _ (i o : ℕ) (o_inside : o < 8) (leaf : Leaf (get_or places (8 * at + o) 0) i) where
      met : (y : ℕ) → Meets fs nodes first places at 8 y → Here i y
      met y m = record {
        o = o;
        f = m.o;
        o_inside = o_inside;
        f_inside = m.o_inside;
        here = leaf;
        other = m.leaf;
        there = m.here;
        slab_is = sym (owned (get_or places (8 * at + m.o) 0) m.leaf m.here) ∙ m.slab_is;
      }

      pub pulled_edge : {so : ℕ → ℕ → Type 0} {pick : ℕ → ℕ → ℕ} {start : ℕ} → Picking so pick → (x bound z : ℕ) → z ≡ pick x bound
          → Edge so start (Beside fs nodes slab seen i) x → Edge so start (Meets fs nodes first places at 8) bound
          → Edge so start (Beside fs nodes slab all i) z
      pulled_edge w x bound z e =
          edge_pick w x bound z e
          (λ y c. ⊎_elim (old i y) (λ m. new i y (met y m)) c)
          (λ y b. ⊎_elim (λ s. inl s)
          (λ h. inr (record {
            o = h.f;
            o_inside = h.f_inside;
            leaf = h.other;
            here = h.there;
            slab_is = owned (get_or places (8 * at + h.f) 0) h.other h.there ∙ h.slab_is;
          })) (either i y b))

    -- of another
    pub kept_edge : {so : ℕ → ℕ → Type 0} {start : ℕ} (i : ℕ) → ((o : ℕ) → o < 8 → Leaf (get_or places (8 * at + o) 0) i → ⊥) → (x z : ℕ) → x ≡ z
        → Edge so start (Beside fs nodes slab seen i) x → Edge so start (Beside fs nodes slab all i) z
    kept_edge i none x z e =
        edge_map x z e (λ y b. old i y b) (λ y b. ⊎_elim (λ s. s) (λ h. absurd (none h.o h.o_inside h.here)) (either i y b))

module _ (fs : List ℕ) (nodes : ℕ) (places : List ℕ) (at low high : ℕ) (numbers : List (Option ℕ)) (first last first' last' : List ℕ)
    (room : 8 * at + 8 ≤ length places) (R : Ready fs nodes first last)
    (M : MeetingSays fs nodes first places at 8 numbers low high) (W : Widened numbers 8 low high first last first' last') where
  -- what stands in both tables at a leaf's number
  abbrev Changed : ℕ → Type 0
  Changed i =
      (Among numbers 8 i × Pulled low high (get_or first i 0) (get_or last i 0) (get_or first' i 0) (get_or last' i 0))
      ⊎ ((Among numbers 8 i → ⊥) × (get_or first' i 0 ≡ get_or first i 0) × (get_or last' i 0 ≡ get_or last i 0))

  changed : (i : ℕ) → i < leaves_of nodes → Changed i
  changed i h = W.each i (omega (arith, R.first_long))

  uppers : (i : ℕ) → i < leaves_of nodes → (upper (get_or first' i 0) ≡ upper (get_or first i 0)) × (upper (get_or last' i 0) ≡ upper (get_or last i 0))
  uppers i h = ⊎_elim (λ a. (a.1.first_upper, a.1.last_upper)) (λ b. (ap upper b.1, ap upper b.2)) (changed i h)

  -- an entry that has the number of a leaf is that leaf, and the other way round
  leaf_of : (i : ℕ) → (a : Among numbers 8 i) → LeafAt fs nodes (get_or places (8 * at + a.o) 0) i
  leaf_of i a = subst (Finds fs nodes (get_or places (8 * at + a.o) 0)) a.here (M.each a.o a.o_inside)

  none_of : (i : ℕ) → (Among numbers 8 i → ⊥) → (o : ℕ) → o < 8 → LeafAt fs nodes (get_or places (8 * at + o) 0) i → ⊥
  none_of i none o h l = none (record { o = o; o_inside = h; here = found_is (get_or numbers o None) (M.each o h) l })

  pub cell_ready : Ready fs nodes first' last'
  cell_ready = record {
    first_long = W.first_long ∙ R.first_long;
    last_long = W.last_long ∙ R.last_long;
    numbered = λ p h e.
        let n = R.numbered p h e in
        record { number = n.number; stored = (uppers (slot_of p) (slot_inside nodes p h)).1 ∙ n.stored; right = n.right };
  }

  pub cell_spans : (slab : ℕ → ℕ) (seen : List ℕ) (k : ℕ) → length seen ≡ 8 * k → Spanned fs nodes slab seen first last
      → Spanned fs nodes slab (seen ++ take 8 (drop (8 * at) places)) first' last'
  cell_spans slab seen k long S = record {
    owned = λ p i l. (uppers i l.few).0 ∙ S.owned p i l;
    least = λ i h. ⊎_elim
        (λ a. pulled_edge fs nodes slab seen places k at long room first S.owned i a.0.o a.0.o_inside (leaf_of i a.0) downward
        (lower (get_or first i 0)) low (lower (get_or first' i 0)) a.1.first_lower (S.least i h) M.lowest)
        (λ b. kept_edge fs nodes slab seen places k at long room first S.owned i (none_of i b.0)
        (lower (get_or first i 0)) (lower (get_or first' i 0)) (ap lower (sym b.1)) (S.least i h))
        (changed i h);
    greatest = λ i h. ⊎_elim
        (λ a. pulled_edge fs nodes slab seen places k at long room first S.owned i a.0.o a.0.o_inside (leaf_of i a.0) upward
        (lower (get_or last i 0)) high (lower (get_or last' i 0)) a.1.last_lower (S.greatest i h) M.highest)
        (λ b. kept_edge fs nodes slab seen places k at long room first S.owned i (none_of i b.0)
        (lower (get_or last i 0)) (lower (get_or last' i 0)) (ap lower (sym b.2)) (S.greatest i h))
        (changed i h);
  }

  pub cell_widens : Widens fs nodes (take 8 (drop (8 * at) places)) first last first' last'
  cell_widens = record { ready = cell_ready; spans = cell_spans }

-- ---- cells one after another

pub widens_none : (fs : List ℕ) (nodes : ℕ) (first last : List ℕ) → Ready fs nodes first last → Widens fs nodes [] first last first last
widens_none fs nodes first last R = record {
  ready = R;
  spans = λ slab seen k long S. subst (λ (xs : List ℕ). Spanned fs nodes slab xs first last) (sym (append-nil seen)) S;
}

-- what tables tell of the cells before
abbrev pub Told : List ℕ → ℕ → List ℕ → List ℕ → List ℕ → List ℕ → List ℕ → Type 0
Told fs nodes first₀ last₀ first last seen = Widens fs nodes seen first₀ last₀ first last

pub widens_then : (fs : List ℕ) (nodes : ℕ) (next first₀ last₀ first last first' last' : List ℕ) → Widens fs nodes next first last first' last'
    → (more : List ℕ) (cells : ℕ) → length more ≡ 8 * cells → Told fs nodes first₀ last₀ first last more
    → Told fs nodes first₀ last₀ first' last' (more ++ next)
widens_then fs nodes next first₀ last₀ first last first' last' B more cells e A = record {
  ready = B.ready;
  spans = λ slab seen k long S.
      subst (λ (xs : List ℕ). Spanned fs nodes slab xs first' last') (append_assoc seen more next)
      (B.spans slab (seen ++ more) (k + cells) (omega (arith, length-append seen more, long, e)) (A.spans slab seen k long S));
}

-- the cells of a table, up to one and with it
pub widens_more : (fs : List ℕ) (nodes at : ℕ) (places first₀ last₀ first last first' last' : List ℕ) → 8 * at + 8 ≤ length places
    → Widens fs nodes (take (8 * at) places) first₀ last₀ first last → Widens fs nodes (take 8 (drop (8 * at) places)) first last first' last'
    → Widens fs nodes (take (8 * (at + 1)) places) first₀ last₀ first' last'
widens_more fs nodes at places first₀ last₀ first last first' last' h A B =
    let e : 8 * (at + 1) ≡ 8 * at + 8 = omega arith in
    subst (λ (xs : List ℕ). Widens fs nodes xs first₀ last₀ first' last') (sym (ap (λ (n : ℕ). take n places) e ∙ take-add (8 * at) 8 places))
    (widens_then fs nodes (take 8 (drop (8 * at) places)) first₀ last₀ first last first' last' B (take (8 * at) places) at
    (omega (arith, length-take (8 * at) places)) A)

-- ---- all of them

module _ (n : Nodes) (s : ℕ) (small : s ≤ limit) (first last first' last' : List ℕ)
    (R : Ready n.firsts (nodes_in n) first last) (S : Spanned n.firsts (nodes_in n) (own_slab n s) (places_of n (spots_of n)) first last)
    (U : AllUnpacked first last first' last') where
  abbrev m : ℕ
  m = leaves_of (nodes_in n)

  below : (i y : ℕ) → Sharing n s i y → y < 2 ^ s
  below i y b = omega (arith, slab_lt s (get_or n.keys (get_or (places_of n (spots_of n)) b.f 0) 0), b.slab_is)

  -- no slab has the number that stands for none
  sharing_small : (i y : ℕ) → Sharing n s i y → y < 65535
  sharing_small i y b = omega (arith, slab_small s (get_or n.keys (get_or (places_of n (spots_of n)) b.f 0) 0) small, b.slab_is)

  module _ (i : ℕ) (h : i < m) where
    abbrev low : ℕ
    low = lower (get_or first i 0)

    abbrev high : ℕ
    high = lower (get_or last i 0)

    least : low ≤ high → Sharing n s i low
    least o = ⊎_elim
        (λ e. absurd (⊎_elim (λ z. omega arith) (λ b. omega (arith, sharing_small i high b)) (S.greatest i h).one))
        (λ b. b)
        (S.least i h).one

    greatest : low ≤ high → Sharing n s i high
    greatest o = ⊎_elim
        (λ z. let e : low ≡ high = omega arith in subst (Sharing n s i) e (least o))
        (λ b. b)
        (S.greatest i h).one

    span : Shared n s i (get_or first' i 0) (get_or last' i 0) ⊎ Alone n s i (get_or first' i 0) (get_or last' i 0)
    span = ⊎_elim
        (λ u. inl (record {
          from = subst (LeastOf (Sharing n s i)) (sym u.1) (record { one_of = least u.0; least = (S.least i h).all });
          to = subst (GreatestOf (Sharing n s i)) (sym u.2) (record { one_of = greatest u.0; greatest = (S.greatest i h).all });
        }))
        (λ u. inr (record {
          none = λ y b. omega (arith, (S.least i h).all y b, (S.greatest i h).all y b, u.0);
          from = u.1;
          to = u.2;
        }))
        (U.each i (omega (arith, R.first_long)))

    last_within : get_or last' i 0 < 2 ^ s
    last_within = ⊎_elim (λ u. omega (arith, below i high (greatest u.0), u.2)) (λ u. omega (arith, pow_pos s, u.2)) (U.each i (omega (arith, R.first_long)))

  pub spans_left : SpansLeft n s first' last'
  spans_left = record {
    spans = record { as_many_firsts = U.first_long ∙ R.first_long; as_many_lasts = U.last_long ∙ R.last_long; each = span };
    within = λ i h. last_within i (omega (arith, U.last_long, R.last_long));
  }

-- the steps one after another
pub spans_done : (n : Nodes) (s nodes : ℕ) → nodes ≡ nodes_in n → s ≤ limit → (first last first' last' left right : List ℕ) → Prepared n s first last
    → Widens n.firsts nodes (places_of n (spots_of n)) first last first' last' → AllUnpacked first' last' left right → SpansLeft n s left right
spans_done n s nodes e small first last first' last' left right P W₀ U =
    let W = subst (λ (m : ℕ). Widens n.firsts m (places_of n (spots_of n)) first last first' last') e W₀ in
    spans_left n s small first' last' left right W.ready (W.spans (own_slab n s) [] 0 refl P.spans) U
