-- How many vertices a tree's leaves have. Assumes nothing.
use Rattle.std.specs.Prelude.{ℕ, zero, suc, Bool, false, cond, ◌||◌, List, [], ◌∷◌, ◌++◌, eqb}
use Rattle.geometry.specs.Listing.{given}

-- What the first w corners of a cell give: an inner vertex, or 0 for none.
unfoldable pub corners_to : ℕ → ℕ → List ℕ
corners_to zero k = []
corners_to (suc w) k = given k w ∷ corners_to w k

-- And all eight of every leaf.
unfoldable pub corners_of : List ℕ → List ℕ
corners_of [] = []
corners_of (k ∷ leaves) = corners_to 8 k ++ corners_of leaves

unfoldable pub among : ℕ → List ℕ → Bool
among v [] = false
among v (u ∷ us) = eqb u v || among v us

-- The different numbers of a list, 0 left out: each is counted where it stands last.
unfoldable pub different : List ℕ → ℕ
different [] = 0
different (v ∷ vs) = cond (eqb v 0 || among v vs) (different vs) (suc (different vs))

-- Every inner vertex of every leaf, once.
unfoldable pub vertex_count : List ℕ → ℕ
vertex_count leaves = different (corners_of leaves)
