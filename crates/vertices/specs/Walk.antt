-- The walk over a tree's cells that finds its vertices, on any tables at all: no tree need be sound. Assumes nothing.
use Rattle.std.specs.Prelude.{ℕ, zero, suc, ◌+◌, ◌*◌, ◌-◌, ◌/◌, ◌^◌, Bool, true, false, cond, ◌&&◌, ◌||◌, List, [], ◌∷◌, ◌++◌, leb, ltb}
use Rattle.morton.specs.Level.{deepest, limit, if₀}
use Rattle.geometry.specs.Grid.{sum}
use Rattle.geometry.specs.Near.{near, in_cube}
use Rattle.tree.specs.Down.{Nodes, is_split, over, place_over}

-- p has level l, and is a split node.
unfoldable pub split_at : Nodes → ℕ → ℕ → Bool
split_at n l p = leb (8 ^ l) p && is_split n l p

-- ---- the nodes round the low corner of a cell

-- Entry o of the cell c: the node over the cell that lies o lower, or 0 outside the cube.
unfoldable pub entry : Nodes → ℕ → ℕ → ℕ → ℕ
entry n l c o = if₀ (in_cube l c o) (over n l (near l c o)) 0

-- And its place.
unfoldable pub place_at : Nodes → ℕ → ℕ → ℕ → ℕ
place_at n l c o = if₀ (in_cube l c o) (place_over n l (near l c o)) 0

-- ---- the walk

-- Some f i, all f i, for i from 0 to n - 1.
unfoldable pub some : (ℕ → Bool) → ℕ → Bool
some f zero = false
some f (suc n) = some f n || f n

unfoldable pub all : (ℕ → Bool) → ℕ → Bool
all f zero = true
all f (suc n) = all f n && f n

-- A vertex with its level.
pub record Spot : Type 0 where
  pub vertex : ℕ
  pub level : ℕ

-- f 0, f 1, .., f (n - 1) one after another.
unfoldable pub in_turn : (ℕ → List Spot) → ℕ → List Spot
in_turn f zero = []
in_turn f (suc n) = in_turn f n ++ f n

-- The low corner of the cell c of level l, as a vertex.
unfoldable pub low_corner : ℕ → ℕ → ℕ
low_corner l c = c * 8 ^ (deepest - l)

-- Some entry of a cell is split.
unfoldable pub divided : Nodes → ℕ → ℕ → Bool
divided n l c = some (λ o. split_at n l (entry n l c o)) 8

-- All entries are nodes, and one has the cell's own level.
unfoldable pub meets : Nodes → ℕ → ℕ → Bool
meets n l c = all (λ o. ltb 0 (entry n l c o)) 8 && some (λ o. leb (8 ^ l) (entry n l c o)) 8

-- Where no entry is split the walk ends: the cell's low corner is listed, or nothing is.
unfoldable pub ending : Nodes → ℕ → ℕ → List Spot
ending n l c = cond (meets n l c) (record { vertex = low_corner l c; level = l } ∷ []) []

-- Else it goes into the cell's children, and so many levels down.
unfoldable pub walked : ℕ → Nodes → ℕ → ℕ → List Spot
walked zero n l c = cond (divided n l c) [] (ending n l c)
walked (suc levels) n l c = cond (divided n l c) (in_turn (λ q. walked levels n (suc l) (8 * c + q)) 8) (ending n l c)

-- From the root down to the limit.
unfoldable pub spots_of : Nodes → List Spot
spots_of n = walked limit n 0 1

-- How many cells the walk goes through from c on, with c itself.
unfoldable pub visited : ℕ → Nodes → ℕ → ℕ → ℕ
visited zero n l c = 1
visited (suc levels) n l c = 1 + if₀ (divided n l c) (sum (λ q. visited levels n (suc l) (8 * c + q)) 8) 0

-- On any tables of so many keys it finds no more: 19 for each eight keys below the root (`vertices_linear`).
unfoldable pub most_of : ℕ → ℕ
most_of keys = 19 * ((keys - 1) / 8)

unfoldable pub vertices_of : List Spot → List ℕ
vertices_of [] = []
vertices_of (s ∷ ss) = s.vertex ∷ vertices_of ss

unfoldable pub levels_of : List Spot → List ℕ
levels_of [] = []
levels_of (s ∷ ss) = s.level ∷ levels_of ss
