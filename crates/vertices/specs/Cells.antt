-- What the call answers and leaves that hands out vertices with the nodes of their dual cells, some at a time. Assumes nothing.
use Rattle.std.specs.Prelude.{ℕ, ◌-◌, ◌*◌, ◌/◌, ◌^◌, min, ◌≡◌, cond, List, [], ◌∷◌, ◌++◌, leb, length, take, drop}
use Rattle.morton.specs.Level.{deepest}
use Rattle.tree.specs.Down.{Nodes}
use Rattle.vertices.specs.Walk.{place_at, Spot, spots_of, vertices_of, levels_of}
use Rattle.vertices.specs.Listing.{written}

-- The vertices from a number on.
unfoldable pub since : ℕ → List Spot → List Spot
since from [] = []
since from (s ∷ ss) = cond (leb from s.vertex) (s ∷ since from ss) (since from ss)

-- The first of them, as many as there is room for.
unfoldable pub wanted : ℕ → ℕ → List Spot → List Spot
wanted from room ss = take room (since from ss)

-- f 0, f 1, .., f 7.
abbrev pub eight : (ℕ → ℕ) → List ℕ
eight f = f 0 ∷ f 1 ∷ f 2 ∷ f 3 ∷ f 4 ∷ f 5 ∷ f 6 ∷ f 7 ∷ []

-- The places of the eight nodes round a vertex, in the order of its dual cell.
unfoldable pub round_of : Nodes → Spot → List ℕ
round_of n s = eight (λ o. place_at n s.level (s.vertex / 8 ^ (deepest - s.level)) o)

unfoldable pub places_of : Nodes → List Spot → List ℕ
places_of n [] = []
places_of n (s ∷ ss) = round_of n s ++ places_of n ss

-- The eight that go with vertex j, in a table of places.
abbrev pub places_at : ℕ → List ℕ → List ℕ
places_at j places = take 8 (drop (8 * j) places)

-- The vertex table, the level table and the table of places, which has eight for each vertex.
pub record Cells : Type 0 where
  pub vertices : List ℕ
  pub levels : List ℕ
  pub places : List ℕ

abbrev pub cells_of : List ℕ → List ℕ → List ℕ → Cells
cells_of vertices levels places = record { vertices = vertices; levels = levels; places = places }

-- So many vertices have room.
unfoldable pub room_of : Cells → ℕ
room_of c = min (min (length c.vertices) (length c.levels)) (length c.places / 8)

-- From the first place on stand the vertices that the walk finds from a number on, as many as have room; the answer is how many.
pub record CellsSays (ks : Nodes) (from : ℕ) (was left : Cells) (n : ℕ) : Type 0 where
  pub count : n ≡ length (wanted from (room_of was) (spots_of ks))
  pub vertices_are : left.vertices ≡ written was.vertices 0 (vertices_of (wanted from (room_of was) (spots_of ks)))
  pub levels_are : left.levels ≡ written was.levels 0 (levels_of (wanted from (room_of was) (spots_of ks)))
  pub places_are : left.places ≡ written was.places 0 (places_of ks (wanted from (room_of was) (spots_of ks)))
