-- The list of a tree's vertices: what is listed is a leaf corner, and the list is settled by the leaves. Assumes nothing.
use Prim.Native.Nat.{ℕ, ◌≤◌, ◌<◌}
use mathlib.Core.Path.{◌≡◌, sym, ◌∙◌, ap}
use mathlib.Core.List.{List}
use native.Mathlib.Nat.{le_antisymm}
use native.Mathlib.Omega.{arith}
use lib.ListN.{length, get_or}
use lib.Seq.{ext_get_or}
use Rattle.morton.specs.Level.{level}
use Rattle.tree.specs.Tree.{In}
use Rattle.geometry.specs.Corner.{Corner, StrictlyInside}
use Rattle.geometry.specs.Listing.{given, GivenAt, Listed}
use Rattle.tree.proofs.Lists.{in_cast, ascending_unique}
use Rattle.geometry.proofs.Vertex.{vertex_corner, vertex_strict, corner_vertex}
use Rattle.geometry.proofs.Around.{NoCornerDeeper}

-- ---- the list is settled by the leaves

module _ (leaves vs ls us ks : List ℕ) (s : Listed leaves vs ls) (r : Listed leaves us ks) where
  listed_in : (x : ℕ) → In x vs → In x us
  listed_in x m =
      let q = s.from m.place m.inside in
      let g = q.1 in
      let e : given g.leaf g.corner ≡ x = g.gives ∙ m.here in
      in_cast (sym e) (r.whole g.leaf g.corner g.is_leaf g.is_corner (omega (arith, e, q.0, m.here)))

  listed_level : vs ≡ us → (i : ℕ) → i < length vs → i < length us → get_or ls i 0 ≤ get_or ks i 0
  listed_level e i l m =
      let g = (s.from i l).1 in
      omega (arith, g.at_level, r.greatest i g.leaf g.corner m g.is_leaf g.is_corner (g.gives ∙ ap (λ (xs : List ℕ). get_or xs i 0) e))

pub listed_unique : (leaves vs ls us ks : List ℕ) → Listed leaves vs ls → Listed leaves us ks → (vs ≡ us) × (ls ≡ ks)
listed_unique leaves vs ls us ks s r =
    let e : vs ≡ us =
    ascending_unique vs us s.ascending r.ascending (listed_in leaves vs ls us ks s r) (listed_in leaves us ks vs ls r s) in
    let n : length vs ≡ length us = ap length e in (
      e,
      ext_get_or 0 ls ks (omega (arith, s.paired, r.paired))
          (λ i l. le_antisymm (listed_level leaves vs ls us ks s r e i (omega (arith, s.paired)) (omega (arith, s.paired)))
          (listed_level leaves us ks vs ls r s (sym e) i (omega (arith, s.paired)) (omega (arith, s.paired)))),
    )

-- ---- what stands at a place

module _ (leaves vs ls : List ℕ) (shallow : (k : ℕ) → In k leaves → level k ≤ 20) (s : Listed leaves vs ls) (i : ℕ) (l : i < length vs) where
  abbrev pub giver : GivenAt leaves (get_or vs i 0) (get_or ls i 0)
  giver = (s.from i l).1

  -- strictly inside the cube, and the corner of a leaf of the listed level
  pub listed_strict : StrictlyInside (get_or vs i 0)
  listed_strict = vertex_strict (level giver.leaf) giver.leaf giver.corner (get_or vs i 0) giver.gives (s.from i l).0

  pub listed_corner : Corner (level giver.leaf) giver.leaf giver.corner (get_or vs i 0)
  listed_corner = vertex_corner (level giver.leaf) giver.leaf giver.corner (get_or vs i 0) giver.gives (s.from i l).0

  -- the deepest level of the leaves that have that corner
  pub listed_deepest : NoCornerDeeper (get_or ls i 0) (get_or vs i 0) leaves
  unfolding NoCornerDeeper
  listed_deepest k w m h c = s.greatest i k w l m h (corner_vertex (level k) k w (get_or vs i 0) (shallow k m) c listed_strict)
