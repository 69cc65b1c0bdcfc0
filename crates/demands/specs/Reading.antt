-- Demand 3 of the user, the half that speaks of a finished build. proofs/Reading.antt proves each of these, for a finished build and for any sound tree:
-- a tree that was read from a card is sound and was never built here.
use Rattle.std.specs.Prelude.{ℕ, ◌+◌, ◌^◌, ◌≤◌, ◌<◌, ◌≡◌, true, List, Float, length, get_or, take, drop, Result, Ok, Err}
use Rattle.std.specs.Float.{nan}
use Rattle.refusals.specs.declared.Refusal.{Refusal}
use Rattle.refusals.specs.declared.Refusal.TheVariants.{ListFull}
use Rattle.refusals.specs.Refusals.{number}
use Rattle.morton.specs.Level.{deepest, level}
use Rattle.morton.specs.Vertex.{is_inner, side_of}
use Rattle.build.specs.declared.State.{State}
use Rattle.build.specs.Build.{Tables, finest}
use Rattle.tree.specs.Tree.{Tree, StandsAt, In, Ascending, Sound}
use Rattle.geometry.specs.Grid.{lies_in, Covers}
use Rattle.geometry.specs.Corner.{Corner, StrictlyInside}
use Rattle.vertices.specs.Listing.{Lists, Room, ListSays}
use Rattle.dual.specs.declared.Dual.{Dual}
use Rattle.dual.specs.Dual.{DualCell, DualSays}
use Rattle.demands.specs.Run.{Run, node_keys, leaf_keys}

-- v stands in the list at one place.
pub record Once (v : ℕ) (vertices : List ℕ) : Type 0 where
  pub place : ℕ
  pub stands : StandsAt vertices place v
  pub only : (i : ℕ) → StandsAt vertices i v → i ≡ place

-- A leaf of level L has the corner v, which lies strictly inside the cube.
pub record LeafCorner (leaves : List ℕ) (v L : ℕ) : Type 0 where
  pub leaf : ℕ
  pub which : ℕ
  pub is_leaf : In leaf leaves
  pub is_corner : which < 8
  pub corner : Corner (level leaf) leaf which v
  pub at_level : level leaf ≡ L
  pub inside : StrictlyInside v

-- The vertices of a list, with their levels, are the leaf corners strictly inside the cube.
pub record ListsCorners (leaves vertices levels : List ℕ) : Type 0 where
  -- Every leaf corner strictly inside the cube is listed once,
  pub once : (v L : ℕ) → LeafCorner leaves v L → Once v vertices
  -- at the deepest level of the leaves that have that corner.
  pub at_a_leaf's : (i v : ℕ) → StandsAt vertices i v → LeafCorner leaves v (get_or levels i 0)
  pub at_the_deepest : (i v L : ℕ) → StandsAt vertices i v → LeafCorner leaves v L → L ≤ get_or levels i 0
  -- The list ascends.
  pub ascends : Ascending vertices

-- The tree's list, which doesn't hang on any table: it is answered by its length exactly where it has room from the start place on, else refused by 12.
pub record Answered (t : Tree) : Type 0 where
  pub vertices : List ℕ
  pub levels : List ℕ
  pub corners : ListsCorners t.leaves vertices levels
  pub room : (start : ℕ) (was left : Lists) (a : Result ℕ Refusal) → ListSays t start was left a → Room start (length vertices) was → a ≡ Ok (length vertices)
  pub no_room : (start : ℕ) (was left : Lists) (a : Result ℕ Refusal) → ListSays t start was left a → (Room start (length vertices) was → ⊥) → (a ≡ Err ListFull) × (number ListFull ≡ 12)

-- k is the one leaf that holds the cell f of the finest grid, d its distance and place where it stands.
pub record HoldsAlone (D : ℕ) (t : Tree) (f k : ℕ) (d : Float) (place : ℕ) : Type 0 where
  pub leaf : In k t.leaves
  pub holds : lies_in D f k ≡ true
  pub only : (j : ℕ) → In j t.leaves → lies_in D f j ≡ true → j ≡ k
  pub stands : StandsAt t.keys place k
  pub its_distance : d ≡ get_or t.distances place nan

-- The dual cell r of the vertex v: entry i is the one leaf that holds the finest cell on side i, with that leaf's distance and place. It isn't refused.
pub record LeafCell (D : ℕ) (t : Tree) (v : ℕ) (r : Dual) : Type 0 where
  pub answered : (k : Refusal) → r.tried ≡ Err k → ⊥
  pub entry : (i : ℕ) → i < 8 → HoldsAlone D t (side_of D v i) (get_or r.keys i 0) (get_or r.distances i nan) (get_or r.places i 0)

-- The n places of a table from the start place on.
abbrev pub part : ℕ → ℕ → List ℕ → List ℕ
part start n table = take n (drop start table)

-- What is read from a tree whose leaves lie over the finest grid of level D. `ListSays` and `DualSays` are what the calls promise to answer and to leave.
pub record Reading (D : ℕ) (t : Tree) : Type 0 where
  -- Each cell of the finest grid lies in exactly one leaf, and the leaves' volumes add up to the cube.
  pub covers : Covers D t.leaves
  -- The list is refused for want of room only. Where it has room, every leaf corner strictly inside the cube is listed once, at the deepest level of the
  -- leaves that have that corner; nothing else is listed.
  pub answered : Answered t
  pub list : (start n : ℕ) (was left : Lists) → ListSays t start was left (Ok n)
      → ListsCorners t.leaves (part start n left.vertices) (part start n left.levels)
  -- Entry i of the dual cell of each listed vertex is the one leaf that holds the finest cell on side i, with that leaf's distance and place.
  pub dual : (start n : ℕ) (was left : Lists) → ListSays t start was left (Ok n)
      → (j : ℕ) → j < n → (r : Dual)
      → DualSays t (get_or left.levels (start + j) 0) (get_or left.vertices (start + j) 0) r.keys r.distances r.places r.tried
      → LeafCell D t (get_or left.vertices (start + j) 0) r
  -- The dual cell of any inner vertex, a number of 64 bits, at any level is found, unless the tree is the root alone.
  pub found : 1 < length t.keys → (v L : ℕ) → v < 2 ^ 64 → is_inner L v ≡ true
      → (keys : List ℕ) × (distances : List Float) × (places : List ℕ) × (tried : ℕ) × DualCell t L v keys distances places tried

-- For every sound tree, over any grid that is as fine as its leaves.
abbrev pub OfSoundTrees : Type 0
OfSoundTrees = (t : Tree) → Sound t → (D : ℕ) → D ≤ deepest → ((k : ℕ) → In k t.leaves → level k ≤ D) → Reading D t

-- The tree that a build has come to.
abbrev pub tree_after : State → Tables → Tree
tree_after s t =
    record { keys = node_keys s t; distances = take s.nodes t.distances; firsts = take s.nodes t.firsts; leaves = leaf_keys s t }

-- For every finished build: its tree is sound, and all the above holds of it over the finest grid.
abbrev pub OfFinishedBuilds : Type 0
OfFinishedBuilds =
    (bound : ℕ) (lent : Tables) (given : List Float) (s : State) (t : Tables)
    → Run bound lent given s t → s.asked ≡ 0
    → Sound (tree_after s t) × Reading (finest bound) (tree_after s t)
