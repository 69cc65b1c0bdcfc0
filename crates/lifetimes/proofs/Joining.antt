-- Of a sound tree, the report from the walk's cells is the one that is promised of its dual cells. Assumes nothing.
use Rattle.std.proofs.Common.{◌≡◌, ℕ, zero, suc, ◌+◌, ◌*◌, ◌/◌, ◌%◌, ◌^◌, ◌<◌, ◌≤◌, ◌⊎◌, List, length, get_or, sym, refl, ap, ◌∙◌, subst, inl, inr, ⊎_elim, le_antisymm, arith, Result, Ok, Err}
use lib.Ieee.{Float}
use Rattle.morton.specs.Level.{limit}
use Rattle.tree.specs.Tree.{Tree, StandsAt, In, Sound}
use Rattle.tree.proofs.Finding.{nodes}
use Rattle.tree.proofs.Lists.{in_stands}
use Rattle.vertices.proofs.Law.{spots_listed}
use Rattle.dual.specs.Dual.{DualCell, DualSays}
use Rattle.refusals.specs.declared.Refusal.{Refusal}
use Rattle.slabs.specs.Heights.{reach, slab_of, Reaches, OfCell}
use Rattle.slabs.proofs.Outermost.{Both, both_one, both_more, both_all}
use Rattle.slabs.proofs.Spans.{reach_each}
use Rattle.lifetimes.specs.Needed.{CellOf, LeastOf, GreatestOf, SpanOf, Never, Spans, Reports, Room, LifetimesSays}
use Rattle.lifetimes.specs.Trusted.{Sharing, Shared, Alone, TrustedSpans, TrustingSays}
use Rattle.lifetimes.proofs.Leaves.{Leaf, all_leaves, leaf_key, leaf_here}
use Rattle.lifetimes.proofs.Cells.{vertices, levels, places, eight_each, CellAt, node_at, same_entry, cell_at_lem, listed_at, node_leaf}

-- some nodes have a lowest and a highest
module _ (s : ℕ) (keys : List ℕ) where
  abbrev AnyBoth : ℕ → Type 0
  AnyBoth n = (first : ℕ) × (last : ℕ) × Both s keys n first last

  any_both : (n : ℕ) → AnyBoth (suc n)
  any_both zero = (_, _, both_one s keys (slab_of s (get_or keys 0 0)) refl)
  any_both (suc n) =
      let (first, last, b) = any_both n in
      let e : suc n + 1 ≡ suc (suc n) = omega arith in
      subst AnyBoth e (_, _, both_more s keys (suc n) first last (slab_of s (get_or keys (suc n) 0)) _ _ b refl refl refl)

  any_reach : length keys ≡ 8 → (first : ℕ) × (last : ℕ) × Reaches keys s first last
  any_reach e = let (first, last, b) = any_both 7 in (first, last, both_all s keys 8 first last (sym e) b)

-- an entry of a cell that the walk finds: a listed cell has it, and has slabs
pub cell_of : (t : Tree) → Sound t → (s : ℕ) → s ≤ limit → (j : ℕ) → j < length (vertices t) → (c : CellAt t j) (k : ℕ) → In k c.keys
    → (first : ℕ) × (last : ℕ) × Reaches c.keys s first last × CellOf t s k first last
cell_of t S s small j h c k m =
    let (first, last, r) = any_reach s c.keys c.dual.eight_keys in (
      first,
      last,
      r,
      record {
        vertex = get_or (vertices t) j 0;
        level = get_or (levels t) j 0;
        listed = record {
          vertices = vertices t;
          levels = levels t;
          list = spots_listed t S;
          place = j;
          its_vertex = record { inside = h; here = refl };
          its_level = record { inside = omega (arith, (spots_listed t S).paired); here = refl };
        };
        has = record { keys = c.keys; distances = c.distances; places = _; tried = c.tried; cell = c.dual; entry = m };
        slabs = (record { tried = Ok c.tried; keys = c.keys; distances = c.distances; places = _ }, (S, c.inner, c.more, c.dual), (small, r));
      },
    )

-- a cell whose slabs are told is a dual cell that reaches them
reaching : (t : Tree) (L v s first last : ℕ) {keys : List ℕ} {distances : List Float} {those : List ℕ} (a : Result ℕ Refusal)
    → DualSays t L v keys distances those a → OfCell a keys s (reach first last)
    → ((n : ℕ) × DualCell t L v keys distances those n) × Reaches keys s first last
reaching t L v s first last (Ok n) (_, _, _, c) (_, r) = ((n, c), r)
reaching t L v s first last (Err k) p e = absurd (cc)

module _ (t : Tree) (S : Sound t) (short : (i : ℕ) → i < length t.firsts → get_or t.firsts i 0 < 2 ^ 16) (s : ℕ) where
  -- leaf i is entry o of a cell: entry q shares that cell
  sharing : (j : ℕ) → j < length (vertices t) → (c : CellAt t j) (i o q : ℕ)
      → i < length t.leaves → o < 8 → q < 8 → get_or c.keys o 0 ≡ get_or t.leaves i 0
      → Sharing (nodes t) s i (slab_of s (get_or c.keys q 0))
  sharing j h c i o q l a b e =
      let m : In (get_or c.keys q 0) t.leaves = node_leaf t S j h c q b in
      record {
        e = 8 * j + o;
        f = 8 * j + q;
        e_inside = omega (arith, eight_each t);
        f_inside = omega (arith, eight_each t);
        one_cell = omega arith;
        here = leaf_at o a i (record { inside = l; here = sym e });
        other = m.place;
        there = leaf_at q b m.place (in_stands m);
        slab_is = ap (slab_of s) (node_at t j c q b).here;
      }
    where
      leaf_at : (o : ℕ) → o < 8 → (i : ℕ) → StandsAt t.leaves i (get_or c.keys o 0) → Leaf t S short (get_or (places t) (8 * j + o) 0) i
      leaf_at o h i at =
          let n = node_at t j c o h in
          leaf_here t S short (get_or (places t) (8 * j + o) 0) i n.inside (subst (StandsAt t.leaves i) (sym n.here) at)

  module _ (i : ℕ) (l : i < length t.leaves) where
    abbrev leaf : ℕ
    leaf = get_or t.leaves i 0

    -- so the first and the last slab of a listed cell that has leaf i are shared
    shares : (x y : ℕ) → CellOf t s leaf x y → Sharing (nodes t) s i x × Sharing (nodes t) s i y
    shares x y c =
        let (d, says, of) = c.slabs in
        let (cell, r) = reaching t c.level c.vertex s x y d.tried says of in
        let (h, at-v, at-L) = listed_at t S c.vertex c.level c.listed in
        let w : CellAt t c.listed.place = cell_at_lem t S c.listed.place h in
        let m : In leaf c.has.keys = c.has.entry in
        let o : m.place < 8 = omega (arith, m.inside, c.has.cell.eight_keys) in
        let node : (k : ℕ) → In k d.keys → Sharing (nodes t) s i (slab_of s k) =
        λ k n.
        let q : n.place < 8 = omega (arith, n.inside, cell.1.eight_keys) in
        subst (λ (k : ℕ). Sharing (nodes t) s i (slab_of s k)) (same_entry t c.listed.place w at-L at-v cell.1 n.place q ∙ n.here)
        (sharing c.listed.place h w i m.place n.place l o q (same_entry t c.listed.place w at-L at-v c.has.cell m.place o ∙ m.here)) in (
          subst (Sharing (nodes t) s i) (sym r.first_is) (node r.low r.lowest.one_of),
          subst (Sharing (nodes t) s i) (sym r.last_is) (node r.high r.highest.one_of),
        )

    -- a listed cell that has it, and reaches slab y
    record Holds (y : ℕ) : Type 0 where
      first : ℕ
      last : ℕ
      cell : CellOf t s leaf first last
      from : first ≤ y
      to : y ≤ last

    module _ (small : s ≤ limit) where
      -- and each shared slab lies from the first to the last slab of such a cell
      held : (y : ℕ) → Sharing (nodes t) s i y → Holds y
      held y b =
          let j : ℕ = b.e / 8 in
          let h : j < length (vertices t) = omega (arith, b.e_inside, eight_each t) in
          let c : CellAt t j = cell_at_lem t S j h in
          let mine : In leaf c.keys =
          subst (λ (k : ℕ). In k c.keys) (sym (leaf_key t S short (get_or (places t) b.e 0) i b.here).here) (entry_at j c b.e refl) in
          let other = entry_at j c b.f (sym b.one_cell) in
          let (first, last, r, cell) = cell_of t S s small j h c leaf mine in
          let each = reach_each r (get_or t.keys (get_or (places t) b.f 0) 0) other in
          record {
            first = first;
            last = last;
            cell = cell;
            from = omega (arith, each.0, b.slab_is);
            to = omega (arith, each.1, b.slab_is);
          }
        where
          -- the key at a place of the cell is an entry of it
          entry_at : (j : ℕ) (c : CellAt t j) (e : ℕ) → e / 8 ≡ j → In (get_or t.keys (get_or (places t) e 0) 0) c.keys
          entry_at j c e is =
              let at : 8 * j + e % 8 ≡ e = omega arith in
              record {
                place = e % 8;
                inside = omega (arith, c.dual.eight_keys);
                here = sym (node_at t j c (e % 8) (omega arith)).here ∙ ap (λ (x : ℕ). get_or t.keys (get_or (places t) x 0) 0) at;
              }

      -- the least is the least, the greatest the greatest
      least : (x : ℕ) → LeastOf (Sharing (nodes t) s i) x → LeastOf (λ x. (y : ℕ) × CellOf t s leaf x y) x
      least x a =
          let c = held x a.one_of in
          let e : c.first ≡ x = le_antisymm c.from (a.least c.first (shares c.first c.last c.cell).0) in
          record {
            one_of = (c.last, subst (λ (z : ℕ). CellOf t s leaf z c.last) e c.cell);
            least = λ z (y, d). a.least z (shares z y d).0;
          }

      greatest : (y : ℕ) → GreatestOf (Sharing (nodes t) s i) y → GreatestOf (λ y. (x : ℕ) × CellOf t s leaf x y) y
      greatest y a =
          let c = held y a.one_of in
          let e : c.last ≡ y = le_antisymm (a.greatest c.last (shares c.first c.last c.cell).1) c.to in
          record {
            one_of = (c.first, subst (λ (z : ℕ). CellOf t s leaf c.first z) e c.cell);
            greatest = λ z (x, d). a.greatest z (shares x z d).1;
          }

      span : {x y : ℕ} → Shared (nodes t) s i x y ⊎ Alone (nodes t) s i x y → SpanOf t s leaf x y ⊎ Never t s leaf x y
      span {x} {y} (inl a) = inl (record { from = least x a.from; to = greatest y a.to })
      span (inr a) = inr (record { none = λ x y c. a.none x (shares x y c).0; from = a.from; to = a.to })

  spans : s ≤ limit → (firsts lasts : List ℕ) → TrustedSpans (nodes t) s firsts lasts → Spans t s firsts lasts
  spans small firsts lasts a =
      record {
        as_many_firsts = a.as_many_firsts ∙ all_leaves t S short;
        as_many_lasts = a.as_many_lasts ∙ all_leaves t S short;
        each = λ i h. span i h small (a.each i (omega (arith, all_leaves t S short)));
      }

pub trusting_lifetimes : (t : Tree) → Sound t → ((i : ℕ) → i < length t.firsts → get_or t.firsts i 0 < 2 ^ 16)
    → (s : ℕ) (was left : Reports) (r : Result ℕ Refusal)
    → TrustingSays (nodes t) s was left r → LifetimesSays t s was left r
trusting_lifetimes t S short s was left (Ok most) (small, room, a) = (
  S,
  small,
  subst (λ (m : ℕ). Room m s was) (all_leaves t S short) room,
  record {
    firsts = a.firsts;
    lasts = a.lasts;
    counts = a.counts;
    spans = spans t S short s small a.firsts a.lasts a.spans;
    needed = a.needed;
    left_is = a.left_is;
  },
)
trusting_lifetimes t S short s was left (Err e) (stays, why) = (
  stays,
  inr (⊎_elim (λ a. inl (S, a.0, a.1))
      (λ a. inr (S, a.0, (λ room. a.1 (subst (λ (m : ℕ). Room m s was) (sym (all_leaves t S short)) room)), a.2)) why),
)
