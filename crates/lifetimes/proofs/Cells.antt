-- The cells that the walk over a sound tree finds are the dual cells of its listed vertices, and their nodes are leaves. Assumes nothing.
use Rattle.std.proofs.Common.{◌≡◌, ℕ, zero, suc, ◌+◌, ◌-◌, ◌*◌, ◌/◌, ◌^◌, ◌<◌, ◌≤◌, true, List, length, get_or, drop, sym, refl, ap, ◌∙◌, subst, ap₂, subst₂, arith, get_or-drop, get_or-take, Ok}
use lib.Ieee.{Float}
use Rattle.morton.specs.Level.{deepest, level, Cell}
use Rattle.morton.specs.Vertex.{is_inner, side_of}
use Rattle.morton.proofs.Vertices.{inner_level}
use Rattle.tree.specs.Tree.{Tree, StandsAt, In, Sound}
use Rattle.tree.specs.Climb.{ancestor}
use Rattle.tree.proofs.Finding.{nodes}
use Rattle.tree.proofs.Lists.{in_cast, stands_in}
use Rattle.tree.proofs.One.{deepest_key}
use Rattle.geometry.proofs.Around.{Entry, entry}
use Rattle.geometry.proofs.Cover.{shape_covers}
use Rattle.geometry.proofs.Listing.{listed_unique, listed_deepest}
use Rattle.geometry.proofs.Lookup.{root_leaf, found_leaf}
use Rattle.geometry.proofs.Shape.{Shape, root_level, sound_shape_to}
use Rattle.geometry.proofs.Vertex.{inner_strict, inner_grid}
use Rattle.vertices.specs.Walk.{spots_of, vertices_of, levels_of}
use Rattle.vertices.specs.Cells.{places_of, places_at}
use Rattle.vertices.proofs.Blocks.{vertices_length}
use Rattle.vertices.proofs.Law.{spots_listed}
use Rattle.vertices.proofs.Rounds.{spots_right}
use Rattle.vertices.proofs.Storing.{places_length}
use Rattle.dual.specs.Dual.{DualCell}
use Rattle.dual.proofs.Filling.{answer_at, trusting_dual}
use Rattle.slabs.proofs.Spans.{side_is, level_side}
use Rattle.lifetimes.specs.Needed.{ListedCell}

module _ (t : Tree) where
  -- what the walk finds, and its table with eight places for each vertex
  abbrev pub vertices : List ℕ
  vertices = vertices_of (spots_of (nodes t))

  abbrev pub levels : List ℕ
  levels = levels_of (spots_of (nodes t))

  abbrev pub places : List ℕ
  places = places_of (nodes t) (spots_of (nodes t))

  pub eight_each : length places ≡ 8 * length vertices
  eight_each = omega (arith, places_length (nodes t) (spots_of (nodes t)), vertices_length (spots_of (nodes t)))

  -- the dual cell of vertex j
  pub record CellAt (j : ℕ) : Type 0 where
    pub keys : List ℕ
    pub distances : List Float
    pub tried : ℕ
    pub word : get_or vertices j 0 < 2 ^ 64
    pub inner : is_inner (get_or levels j 0) (get_or vertices j 0) ≡ true
    pub more : 1 < length t.keys
    pub dual : DualCell t (get_or levels j 0) (get_or vertices j 0) keys distances (places_at j places) tried

  -- its entry o stands where the table says
  pub node_at : (j : ℕ) (c : CellAt j) (o : ℕ) → o < 8 → StandsAt t.keys (get_or places (8 * j + o) 0) (get_or c.keys o 0)
  node_at j c o h =
      subst (λ (p : ℕ). StandsAt t.keys p (get_or c.keys o 0)) (get_or-take 8 (drop (8 * j) places) o 0 h ∙ get_or-drop (8 * j) places o 0)
      (c.dual.entry o h).present

  -- and any dual cell of the same vertex and level has the same entries
  pub same_entry : (j : ℕ) (c : CellAt j) {L v : ℕ} {keys : List ℕ} {distances : List Float} {those : List ℕ} {tried : ℕ}
      → get_or levels j 0 ≡ L → get_or vertices j 0 ≡ v
      → DualCell t L v keys distances those tried → (o : ℕ) → o < 8 → get_or c.keys o 0 ≡ get_or keys o 0
  same_entry j c {L} {v} {keys} {distances} {those} {tried} l e d o h =
      deepest_key t (side_of (get_or levels j 0) (get_or vertices j 0) o) (c.dual.entry o h)
      ((subst₂ (λ (L v : ℕ). DualCell t L v keys distances those tried) (sym l) (sym e) d).entry o h)

module _ (t : Tree) (S : Sound t) where
  pub cell_at_lem : (j : ℕ) → j < length (vertices t) → CellAt t j
  cell_at_lem j h =
      let p = spots_right (nodes t) j (omega (arith, vertices_length (spots_of (nodes t)))) in
      let (keys, distances, tried, says) =
      answer_at _ _ p.word p.inner (nodes t) t.distances (places_at j (places t)) (λ z. omega (arith, p.more)) p.eight p.at in
      record {
        keys = keys;
        distances = distances;
        tried = tried;
        word = p.word;
        inner = p.inner;
        more = p.more;
        dual = (trusting_dual t S _ _ p.word keys distances (places_at j (places t)) (Ok tried) says).3;
      }

  -- each listed cell is one of them
  pub listed_at : (v L : ℕ) (c : ListedCell t v L)
      → (c.place < length (vertices t)) × (get_or (vertices t) c.place 0 ≡ v) × (get_or (levels t) c.place 0 ≡ L)
  listed_at v L c =
      let (same-vertices, same-levels) = listed_unique t.leaves c.vertices c.levels (vertices t) (levels t) c.list (spots_listed t S) in (
        omega (arith, c.its_vertex.inside, ap length same-vertices),
        ap (λ (xs : List ℕ). get_or xs c.place 0) (sym same-vertices) ∙ c.its_vertex.here,
        ap (λ (xs : List ℕ). get_or xs c.place 0) (sym same-levels) ∙ c.its_level.here,
      )

  -- ---- the nodes are leaves

  shallow : (k : ℕ) → In k t.leaves → level k ≤ 20
  shallow k m = omega (arith, (S.cells k (S.leaves_childless k m).0).1)

  shape : Shape deepest t.keys t.leaves
  shape = sound_shape_to deepest t S (λ k m. omega (arith, shallow k m))

  -- a leaf is not the root, where another node is known
  not_root : (k p : ℕ) → In k t.leaves → In p t.keys → 1 ≤ level p → 1 ≤ level k
  not_root k p leaf m h = go (level k) refl (shape.cells k (shape.here k leaf)).0
    where
      go : (l : ℕ) → level k ≡ l → Cell l k → 1 ≤ level k
      go zero e c =
          let one : 1 ≡ k = omega (arith, c.low, c.high) in
          absurd (omega (arith, root_level, ap level (root_leaf deepest t.keys t.leaves shape p (in_cast one leaf) m)))
      go (suc l) e c = omega arith

  -- the leaf on side o is found, since no leaf that has the vertex is deeper than the level
  pub node_leaf : (j : ℕ) → j < length (vertices t) → (c : CellAt t j) (o : ℕ) → o < 8 → In (get_or c.keys o 0) t.leaves
  node_leaf j h c o l =
      let L : ℕ = get_or (levels t) j 0 in
      let v : ℕ = get_or (vertices t) j 0 in
      let deep = inner_level L v c.inner in
      let d = c.dual.entry o l in
      let n : Entry deepest L v o t.leaves =
      entry deepest L v o t.leaves (omega arith) (omega arith) l (shape_covers deepest t.keys t.leaves (omega arith) shape)
      (inner_strict L v c.word c.inner) (inner_grid L v c.word c.inner) (listed_deepest t.leaves (vertices t) (levels t) shallow (spots_listed t S) j h) in
      let k : ℕ = n.leaf.cell in
      let at : level (side_of L v o) ≡ L = level_side t L v c.word c.inner c.dual o l in
      let up : ancestor (side_of L v o) (level k) ≡ k = ap₂ (λ (f m : ℕ). f / 8 ^ (m - level k)) (side_is t L v c.word c.inner c.dual o l) at ∙ n.above in
      in_cast
      (found_leaf deepest t shape k n.leaf.member (side_of L v o) (not_root k (get_or c.keys o 0) n.leaf.member (stands_in d.present) d.not_root)
      (omega (arith, n.shallow)) up d)
      n.leaf.member
