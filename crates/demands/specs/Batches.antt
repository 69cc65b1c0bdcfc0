-- A host that goes over all vertices by `cells_trusting`, some at a time: it gets each once, with its dual cell. proofs/Batches.antt proves the four `Of..`.
use Rattle.std.specs.Prelude.{ℕ, ◌+◌, ◌*◌, ◌-◌, ◌^◌, ◌≤◌, ◌<◌, ◌≡◌, List, [], ◌++◌, Float, length, get_or, take, Ok}
use Rattle.tree.specs.Tree.{Tree, Ascending, Sound}
use Rattle.tree.specs.Down.{Nodes, nodes_of}
use Rattle.geometry.specs.Listing.{Listed}
use Rattle.vertices.specs.Walk.{spots_of, vertices_of, levels_of}
use Rattle.vertices.specs.Cells.{since, places_of, places_at, Cells, cells_of, room_of, CellsSays}
use Rattle.dual.specs.Dual.{DualCell, TrustingSays}

-- ---- the places that go with a vertex

-- The eight that go with vertex j are those of its dual cell: `dual_cell_trusting` accepts the vertex at its level, whatever the distances, and hands back these places.
abbrev pub CellAt : Nodes → Cells → ℕ → Type 0
CellAt ks got j =
    (ds : List Float)
    → (keys : List ℕ) × (distances : List Float) × (tried : ℕ)
    × TrustingSays ks ds (get_or got.levels j 0) (get_or got.vertices j 0) keys distances (places_at j got.places) (Ok tried)

-- Of each vertex that a call hands out, on any tables at all.
abbrev pub OfEachCall : Type 0
OfEachCall = (ks : Nodes) (from : ℕ) (was left : Cells) (n : ℕ) → CellsSays ks from was left n → (j : ℕ) → j < n → CellAt ks left j

-- ---- the host's loop

-- What a host has got once a call has left n vertices: what it had before, and these, each with its level and its eight places.
abbrev pub with_batch : Cells → Cells → ℕ → Cells
with_batch got left n =
    cells_of (got.vertices ++ take n left.vertices) (got.levels ++ take n left.levels) (got.places ++ take (8 * n) left.places)

-- So many calls were made, the next goes on from a number, and this was got. `CellsSays` is what a call promises to answer and to leave. Each may be
-- lent other tables, with room for one vertex at least; no fewer came than have room.
pub data Batches (ks : Nodes) : ℕ → ℕ → Cells → Type 0 where
  begun : Batches ks 0 0 (cells_of [] [] [])
  full : {calls from : ℕ} {got : Cells} (was left : Cells) (n : ℕ)
      → Batches ks calls from got → 0 < room_of was → CellsSays ks from was left n → room_of was ≤ n
      → Batches ks (calls + 1) (get_or left.vertices (n - 1) 0 + 1) (with_batch got left n)

-- The host is done: fewer came than have room.
pub data Done (ks : Nodes) : ℕ → Cells → Type 0 where
  done : {calls from : ℕ} {got : Cells} (was left : Cells) (n : ℕ)
      → Batches ks calls from got → CellsSays ks from was left n → n < room_of was
      → Done ks (calls + 1) (with_batch got left n)

-- ---- on any tables at all

-- While batches come full.
pub record WhileFull (ks : Nodes) (calls from : ℕ) (got : Cells) : Type 0 where
  -- The vertices are those that were got, and then those from the number on.
  pub rest : vertices_of (spots_of ks) ≡ got.vertices ++ vertices_of (since from (spots_of ks))
  -- The last vertex + 1 is a number of 64 bits.
  pub fits : from < 2 ^ 64
  -- Each batch brought one vertex at least: there are no more of them than vertices.
  pub moves : calls ≤ length got.vertices

-- Once the host is done.
pub record GotAll (ks : Nodes) (calls : ℕ) (got : Cells) : Type 0 where
  -- It got what one call leaves that has room for all: each vertex once, ascending.
  pub all : got ≡ cells_of (vertices_of (spots_of ks)) (levels_of (spots_of ks)) (places_of ks (spots_of ks))
  pub ascending : Ascending got.vertices
  pub cell : (j : ℕ) → j < length got.vertices → CellAt ks got j
  -- It made one call more than there are vertices, at most.
  pub ends : calls ≤ length got.vertices + 1

abbrev pub OfFullBatches : Type 0
OfFullBatches = (ks : Nodes) (calls from : ℕ) (got : Cells) → Batches ks calls from got → WhileFull ks calls from got

abbrev pub OfAllBatches : Type 0
OfAllBatches = (ks : Nodes) (calls : ℕ) (got : Cells) → Done ks calls got → GotAll ks calls got

-- ---- of a sound tree

pub record AllCells (t : Tree) (got : Cells) : Type 0 where
  -- The vertices with their levels are the tree's list.
  pub listed : Listed t.leaves got.vertices got.levels
  -- There are eight places for each, and none is past the end of the keys.
  pub eight_each : length got.places ≡ 8 * length got.vertices
  pub inside : (i : ℕ) → i < length got.places → get_or got.places i 0 < length t.keys
  -- They are those of its dual cell.
  pub cell : (j : ℕ) → j < length got.vertices
      → (keys : List ℕ) × (distances : List Float) × (tried : ℕ)
      × DualCell t (get_or got.levels j 0) (get_or got.vertices j 0) keys distances (places_at j got.places) tried

abbrev pub OfSoundTreesInBatches : Type 0
OfSoundTreesInBatches = (t : Tree) → Sound t → (calls : ℕ) (got : Cells) → Done (nodes_of t.keys t.firsts) calls got → AllCells t got
