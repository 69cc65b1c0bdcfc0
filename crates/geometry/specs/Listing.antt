-- What the list of a tree's vertices is. Assumes nothing.
use Rattle.std.specs.Prelude.{ℕ, ◌≤◌, ◌<◌, ◌≡◌, List, length, get_or}
use Rattle.morton.specs.Level.{level}
use Rattle.morton.specs.Vertex.{vertex_of}
use Rattle.tree.specs.Tree.{In, Ascending}

-- The vertex at corner w of a cell; 0 is none.
abbrev pub given : ℕ → ℕ → ℕ
given k w = vertex_of (level k) k w

-- A leaf of level L gives the vertex v.
pub record GivenAt (leaves : List ℕ) (v L : ℕ) : Type 0 where
  pub leaf : ℕ
  pub corner : ℕ
  pub is_leaf : In leaf leaves
  pub is_corner : corner < 8
  pub gives : given leaf corner ≡ v
  pub at_level : level leaf ≡ L

-- Vertex list: every inner vertex of every leaf, once, ascending, with the greatest level of the leaves that give it.
pub record Listed (leaves vertices levels : List ℕ) : Type 0 where
  pub whole : (k w : ℕ) → In k leaves → w < 8 → 0 < given k w → In (given k w) vertices
  pub ascending : Ascending vertices
  pub paired : length levels ≡ length vertices
  pub from : (i : ℕ) → i < length vertices → (0 < get_or vertices i 0) × GivenAt leaves (get_or vertices i 0) (get_or levels i 0)
  pub greatest : (i k w : ℕ) → i < length vertices → In k leaves → w < 8 → given k w ≡ get_or vertices i 0 → level k ≤ get_or levels i 0
