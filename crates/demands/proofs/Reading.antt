-- The user's demand 3 on finished builds: specs/Reading.antt, proved. Assumes nothing.
use Prim.Native.Nat.{ℕ, zero, suc, ◌+◌, ◌-◌, ◌/◌, ◌^◌, ◌≤◌, ◌<◌}
use mathlib.Core.Path.{◌≡◌, refl, sym, ◌∙◌, ap, ap₂, subst, subst₂}
use mathlib.Core.Bool.{true, true≢false}
use mathlib.Core.Logic.{⊎_elim}
use mathlib.Core.List.{List, ◌++◌}
use native.Mathlib.Omega.{arith}
use lib.Ieee.{Float, nan}
use lib.ListN.{length, get_or, take, drop}
use lib.Seq.{take_at, drop_at, length-take-le, get_or-take, get_or-drop}
use Rattle.std.specs.Prelude.{Result, Ok, Err}
use Rattle.refusals.specs.declared.Refusal.{Refusal}
use Rattle.refusals.specs.declared.Refusal.TheVariants.{ListFull}
use Rattle.morton.specs.Level.{deepest, level, Cell}
use Rattle.morton.specs.Vertex.{is_inner, side_of}
use Rattle.morton.proofs.Levels.{cell_level}
use Rattle.tree.specs.Tree.{Tree, In, Sound}
use Rattle.tree.specs.Climb.{ancestor, Deepest}
use Rattle.geometry.specs.Grid.{lies_in, Covers}
use Rattle.geometry.specs.Corner.{StrictlyInside}
use Rattle.geometry.specs.Listing.{Listed}
use Rattle.tree.proofs.Lists.{in_cast, ascending_place}
use Rattle.tree.proofs.Finding.{nodes}
use Rattle.morton.proofs.Sides.{vertex_inner}
use Rattle.morton.proofs.Vertices.{inner_level}
use Rattle.geometry.proofs.Place.{OnGrid, side, side_cell, side_on_grid, corner_grid, grid_below, inner_level as grid-level}
use Rattle.geometry.proofs.Vertex.{corner_vertex}
use Rattle.geometry.proofs.Shape.{Shape, root_level, sound_shape_to}
use Rattle.geometry.proofs.Lookup.{root_leaf, found_leaf}
use Rattle.geometry.proofs.Cover.{shape_covers}
use Rattle.geometry.proofs.Around.{Entry, entry}
use Rattle.geometry.proofs.Listing.{giver, listed_unique, listed_strict, listed_corner, listed_deepest}
use Rattle.build.specs.Build.{finest}
use Rattle.vertices.specs.Walk.{spots_of, vertices_of, levels_of}
use Rattle.vertices.specs.Listing.{Lists, written, Room, Wrote, ListSays}
use Rattle.vertices.proofs.Law.{spots_listed}
use Rattle.dual.specs.declared.Dual.{Dual}
use Rattle.dual.specs.Dual.{DualSays, DualCell}
use Rattle.dual.proofs.Filling.{any_around, around_dual}
use Rattle.demands.specs.Reading.{Once, LeafCorner, ListsCorners, Answered, HoldsAlone, LeafCell, part, Reading, OfSoundTrees, tree_after, OfFinishedBuilds}
use Rattle.demands.proofs.Soundness.{finished_sound, leaves_within, finest_within}

-- ---- the list

module _ (leaves vs ls : List ℕ) (shallow : (k : ℕ) → In k leaves → level k ≤ 20) (s : Listed leaves vs ls) where
  gives : (v L : ℕ) (c : LeafCorner leaves v L) → In v vs
  gives v L c =
      let e = corner_vertex (level c.leaf) c.leaf c.which v (shallow c.leaf c.is_leaf) c.corner c.inside in
      in_cast (sym e) (s.whole c.leaf c.which c.is_leaf c.is_corner (omega (arith, e, c.inside.point.low)))

  once : (v L : ℕ) → LeafCorner leaves v L → Once v vs
  once v L c =
      let m : In v vs = gives v L c in
      record {
        place = m.place;
        stands = record { inside = m.inside; here = m.here };
        only = λ i a. ascending_place vs s.ascending i m.place a.inside m.inside (a.here ∙ sym m.here);
      }

  leaf's_at : (i : ℕ) → i < length vs → LeafCorner leaves (get_or vs i 0) (get_or ls i 0)
  leaf's_at i l =
      let g = giver leaves vs ls shallow s i l in
      record {
        leaf = g.leaf;
        which = g.corner;
        is_leaf = g.is_leaf;
        is_corner = g.is_corner;
        corner = listed_corner leaves vs ls shallow s i l;
        at_level = g.at_level;
        inside = listed_strict leaves vs ls shallow s i l;
      }

  deepest_at : (i L : ℕ) → i < length vs → LeafCorner leaves (get_or vs i 0) L → L ≤ get_or ls i 0
  deepest_at i L l c =
      let e = corner_vertex (level c.leaf) c.leaf c.which (get_or vs i 0) (shallow c.leaf c.is_leaf) c.corner c.inside in
      omega (arith, c.at_level, s.greatest i c.leaf c.which l c.is_leaf c.is_corner e)

  lists_corners : ListsCorners leaves vs ls
  lists_corners =
      record {
        once = once;
        at_a_leaf's = λ i v a. subst (λ (n : ℕ). LeafCorner leaves n (get_or ls i 0)) a.here (leaf's_at i a.inside);
        at_the_deepest = λ i v L a c. deepest_at i L a.inside (subst (λ (n : ℕ). LeafCorner leaves n L) (sym a.here) c);
        ascends = s.ascending;
      }

-- ---- the dual cell of a listed vertex

module _ (D : ℕ) (t : Tree) (deep : D ≤ deepest) (s : Shape D t.keys t.leaves) (L v i : ℕ) (low : L ≤ D) (hi : i < 8)
    (inner : StrictlyInside v) (grid : OnGrid L v) (some : (p : ℕ) × In p t.keys × (level p ≡ L)) where
  -- no leaf is the root
  not_root : (k : ℕ) → In k t.leaves → 1 ≤ level k
  not_root k leaf = go (level k) refl (s.cells k (s.here k leaf)).0
    where
      go : (l : ℕ) → level k ≡ l → Cell l k → 1 ≤ level k
      go zero e c =
          let o : k ≡ 1 = omega (arith, c.low, c.high) in
          let q : some.0 ≡ 1 = root_leaf D t.keys t.leaves s some.0 (in_cast (sym o) leaf) some.1 in
          absurd (omega (arith, grid-level L v inner grid, some.2, ap level q, ap level o))
      go (suc l) e c = omega arith

  holds_alone : Entry D L v i t.leaves → {key : ℕ} {distance : Float} {place tried : ℕ} → Deepest t (side_of L v i) key distance place tried
      → HoldsAlone D t (side_of D v i) key distance place
  holds_alone n {key} {distance} d =
      let k : ℕ = n.leaf.cell in
      let at : side_of L v i ≡ side L v i = side_on_grid L v i (omega arith) hi inner grid in
      let fine : side_of D v i ≡ side D v i = side_on_grid D v i deep hi inner (grid_below L D v low deep grid) in
      let l : level (side_of L v i) ≡ L = ap level at ∙ cell_level L (side L v i) (omega arith) (side_cell L v i) in
      let up : ancestor (side_of L v i) (level k) ≡ k = ap₂ (λ (f m : ℕ). f / 8 ^ (m - level k)) at l ∙ n.above in
      let e : key ≡ k = found_leaf D t s k n.leaf.member (side_of L v i) (not_root k n.leaf.member) (omega (arith, n.shallow)) up d in
      record {
        leaf = in_cast e n.leaf.member;
        holds = ap₂ (lies_in D) fine e ∙ n.leaf.holds;
        only = λ j m h. n.leaf.only j m (ap (λ (f : ℕ). lies_in D f j) (sym fine) ∙ h) ∙ sym e;
        stands = d.present;
        its_distance = d.its_distance;
      }

-- ---- what stands in the tables

part_written : (table xs : List ℕ) (start n : ℕ) → n ≡ length xs → start + n ≤ length table → part start n (written table start xs) ≡ xs
part_written table xs start n e h =
    ap (take n) (drop_at (take start table) (xs ++ drop (start + length xs) table) start (length-take-le start table (omega arith)))
    ∙ take_at xs (drop (start + length xs) table) n (sym e)

part_at : (table : List ℕ) (start n j : ℕ) → j < n → get_or (part start n table) j 0 ≡ get_or table (start + j) 0
part_at table start n j h = get_or-take n (drop start table) j 0 h ∙ get_or-drop start table j 0

module _ (t : Tree) (start n : ℕ) (was left : Lists) (w : Wrote t.leaves start n was left) where
  vertices_part : part start n left.vertices ≡ w.vs
  vertices_part = ap (part start n) w.vertices_are ∙ part_written was.vertices w.vs start n w.count w.room.vertices

  levels_part : part start n left.levels ≡ w.ls
  levels_part = ap (part start n) w.levels_are ∙ part_written was.levels w.ls start n (w.count ∙ sym w.listed.paired) w.room.levels

  pub vertices_at : (j : ℕ) → j < n → get_or left.vertices (start + j) 0 ≡ get_or w.vs j 0
  vertices_at j h = sym (part_at left.vertices start n j h) ∙ ap (λ (xs : List ℕ). get_or xs j 0) vertices_part

  pub levels_at : (j : ℕ) → j < n → get_or left.levels (start + j) 0 ≡ get_or w.ls j 0
  levels_at j h = sym (part_at left.levels start n j h) ∙ ap (λ (xs : List ℕ). get_or xs j 0) levels_part

-- ---- all of it

module _ (t : Tree) (sound : Sound t) (D : ℕ) (deep : D ≤ deepest) (leaf : (k : ℕ) → In k t.leaves → level k ≤ D) where
  s : Shape D t.keys t.leaves
  s = sound_shape_to D t sound leaf

  pub shallow : (k : ℕ) → In k t.leaves → level k ≤ 20
  shallow k m = omega (arith, (sound.cells k (sound.leaves_childless k m).0).1)

  leaves_cover : Covers D t.leaves
  leaves_cover = shape_covers D t.keys t.leaves deep s

  -- the list that the walk finds; any other list of these leaves is the same
  list_answered : Answered t
  list_answered =
      let vs = vertices_of (spots_of (nodes t)) in
      let ls = levels_of (spots_of (nodes t)) in
      let mine : Listed t.leaves vs ls = spots_listed t sound in
      let same : (xs ys : List ℕ) → Listed t.leaves xs ys → length xs ≡ length vs = λ xs ys l. ap length (listed_unique t.leaves xs ys vs ls l mine).0 in
      record {
        vertices = vs;
        levels = ls;
        corners = lists_corners t.leaves vs ls shallow mine;
        room = λ start was left a says room. has_room start was left room same a says;
        no_room = λ start was left a says none. (has_none start was left none same a says, refl);
      }
    where
      has_room : {n : ℕ} (start : ℕ) (was left : Lists) → Room start n was → ((xs ys : List ℕ) → Listed t.leaves xs ys → length xs ≡ n)
          → (a : Result ℕ Refusal) → ListSays t start was left a → a ≡ Ok n
      has_room start was left r same (Ok m) (_, w) = ap Ok (w.count ∙ same w.vs w.ls w.listed)
      has_room start was left r same (Err k) (_, why) =
          absurd (⊎_elim (λ x. x.0 sound) (λ x. x.1.no_room (subst (λ (m : ℕ). Room start m was) (sym (same x.1.vs x.1.ls x.1.listed)) r)) why)

      has_none : {n : ℕ} (start : ℕ) (was left : Lists) → (Room start n was → ⊥) → ((xs ys : List ℕ) → Listed t.leaves xs ys → length xs ≡ n)
          → (a : Result ℕ Refusal) → ListSays t start was left a → a ≡ Err ListFull
      has_none start was left r same (Ok m) (_, w) = absurd (r (subst (λ (m : ℕ). Room start m was) (w.count ∙ same w.vs w.ls w.listed) w.room))
      has_none start was left r same (Err k) (_, why) = ⊎_elim (λ x. absurd (x.0 sound)) (λ x. ap Err x.2) why

  pub dual_read : (vs ls : List ℕ) → Listed t.leaves vs ls → (j : ℕ) → j < length vs
      → (keys : List ℕ) (distances : List Float) (places : List ℕ) (tried : ℕ) → DualCell t (get_or ls j 0) (get_or vs j 0) keys distances places tried
      → (i : ℕ) → i < 8 → HoldsAlone D t (side_of D (get_or vs j 0) i) (get_or keys i 0) (get_or distances i nan) (get_or places i 0)
  dual_read vs ls list j l keys distances places tried c i h =
      let v : ℕ = get_or vs j 0 in
      let L : ℕ = get_or ls j 0 in
      let g = giver t.leaves vs ls shallow list j l in
      let node : In g.leaf t.keys = s.here g.leaf g.is_leaf in
      let low : L ≤ D = omega (arith, g.at_level, (s.cells g.leaf node).1) in
      let inner : StrictlyInside v = listed_strict t.leaves vs ls shallow list j l in
      let grid : OnGrid L v =
      subst (λ (n : ℕ). OnGrid n v) g.at_level (corner_grid (level g.leaf) g.leaf g.corner v (listed_corner t.leaves vs ls shallow list j l)) in
      holds_alone D t deep s L v i low h inner grid (g.leaf, node, g.at_level)
      (entry D L v i t.leaves deep low h leaves_cover inner grid (listed_deepest t.leaves vs ls shallow list j l)) (c.entry i h)

  -- a listed vertex is inner at its level, and so the tree isn't the root alone
  pub listed_inner : (vs ls : List ℕ) → Listed t.leaves vs ls → (j : ℕ) → j < length vs → is_inner (get_or ls j 0) (get_or vs j 0) ≡ true
  listed_inner vs ls list j l =
      let f = list.from j l in
      let g = f.1 in
      rw (← g.gives, ← g.at_level) (vertex_inner (level g.leaf) g.leaf g.corner (λ z. omega (arith, f.0, g.gives)))

  pub listed_more : (vs ls : List ℕ) → Listed t.leaves vs ls → (j : ℕ) → j < length vs → 1 < length t.keys
  listed_more vs ls list j l =
      let g = giver t.leaves vs ls shallow list j l in
      let node : In g.leaf t.keys = s.here g.leaf g.is_leaf in
      let deep : 1 ≤ level g.leaf = omega (arith, g.at_level, inner_level (get_or ls j 0) (get_or vs j 0) (listed_inner vs ls list j l)) in
      let other : node.place ≡ 0 → ⊥ = λ z.
      let one : g.leaf ≡ 1 = sym node.here ∙ ap (λ (x : ℕ). get_or t.keys x 0) z ∙ sound.first.here in
      omega (arith, ap level one, root_level) in
      omega (arith, node.inside, other)

  leaf_cell : (vs ls : List ℕ) → Listed t.leaves vs ls → (j : ℕ) → j < length vs → (r : Dual)
      → DualSays t (get_or ls j 0) (get_or vs j 0) r.keys r.distances r.places r.tried → LeafCell D t (get_or vs j 0) r
  leaf_cell vs ls list j l r = go r.tried refl
    where
      go : (a : Result ℕ Refusal) → r.tried ≡ a → DualSays t (get_or ls j 0) (get_or vs j 0) r.keys r.distances r.places a → LeafCell D t (get_or vs j 0) r
      go (Ok n) e (_, _, _, c) =
          record {
            answered = λ k f. let z : ◌≡◌ {A = ℕ} 0 1 = cc in omega arith;
            entry = dual_read vs ls list j l r.keys r.distances r.places n c;
          }
      go (Err k) e (_, _, _, why) =
          absurd (⊎_elim (λ x. x.0 sound)
          (λ x. ⊎_elim (λ f. true≢false (sym (listed_inner vs ls list j l) ∙ f)) (λ alone. omega (arith, listed_more vs ls list j l)) x.1)
          why)

  found_cell : 1 < length t.keys → (v L : ℕ) → v < 2 ^ 64 → is_inner L v ≡ true
      → (keys : List ℕ) × (distances : List Float) × (places : List ℕ) × (tried : ℕ) × DualCell t L v keys distances places tried
  found_cell more v L small e =
      let (keys, distances, places, tried, a) = any_around (nodes t) t.distances (v / 8 ^ (deepest - L)) in
      (keys, distances, places, tried, around_dual t sound L v small e more keys distances places tried a)

  reading : Reading D t
  reading =
      record {
        covers = leaves_cover;
        answered = list_answered;
        list = λ start n was left (_, w).
            subst₂ (ListsCorners t.leaves) (sym (vertices_part t start n was left w)) (sym (levels_part t start n was left w))
            (lists_corners t.leaves w.vs w.ls shallow w.listed);
        dual = λ start n was left (_, w) j h r d.
            let l : j < length w.vs = omega (arith, w.count) in
            let v : get_or left.vertices (start + j) 0 ≡ get_or w.vs j 0 = vertices_at t start n was left w j h in
            subst (λ (x : ℕ). LeafCell D t x r) (sym v)
            (leaf_cell w.vs w.ls w.listed j l r
            (subst₂ (λ (L x : ℕ). DualSays t L x r.keys r.distances r.places r.tried) (levels_at t start n was left w j h) v d));
        found = found_cell;
      }

pub of_sound_trees : OfSoundTrees
of_sound_trees = reading

pub of_finished_builds : OfFinishedBuilds
of_finished_builds bound lent given s t run done =
    let sound = finished_sound bound lent given s t run done in
    (sound, of_sound_trees (tree_after s t) sound (finest bound) (finest_within bound lent given s t run done) (leaves_within bound lent given s t run done))
