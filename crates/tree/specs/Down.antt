-- The node over a cell, found by going down from the root, on any tables at all: no tree need be sound. Assumes nothing.
use Rattle.std.specs.Prelude.{ℕ, zero, suc, ◌+◌, ◌-◌, ◌*◌, ◌/◌, ◌%◌, ◌^◌, ◌≤◌, ◌<◌, ◌≡◌, Bool, ◌&&◌, ◌⊎◌, List, eqb, ltb, length, get_or}
use Rattle.morton.specs.Level.{if₀, deepest}
use Rattle.tree.specs.declared.Nodes as lent

-- The tables that the way down reads: node keys, and for each node the place of its first child.
pub record Nodes : Type 0 where
  pub keys : List ℕ
  pub firsts : List ℕ

abbrev pub nodes_of : List ℕ → List ℕ → Nodes
nodes_of keys firsts = record { keys = keys; firsts = firsts }

-- As the code has them.
abbrev pub the_nodes : lent.Nodes → Nodes
the_nodes n = nodes_of n.keys.now n.firsts.now

-- What the table says at a place; 0 past its end.
unfoldable pub first_at : Nodes → ℕ → ℕ
first_at n place = get_or n.firsts place 0

-- A place leads to a first child: it is 1, 9, 17 or so on, as in a sound tree, eight places from it on lie inside, and the child's key is the first of
-- them. So each split node has eight places of its own.
unfoldable pub leads : List ℕ → ℕ → ℕ → Bool
leads ks first child = eqb (first % 8) 1 && (ltb (first + 7) (length ks) && eqb (get_or ks first 0) child)

-- A step down from the node k at a place counts if the table leads to k's first child. So no place is reached from two nodes.
unfoldable pub steps : Nodes → ℕ → ℕ → Bool
steps n place k = leads n.keys (first_at n place) (8 * k)

-- Where the cell x of level l stands, if all cells above it are split nodes.
unfoldable pub reach : Nodes → ℕ → ℕ → ℕ
reach n zero x = 0
reach n (suc l) x = first_at n (reach n l (x / 8)) + x % 8

-- The cell x of level l is a split node: each step from the root down to its children counts.
unfoldable pub is_split : Nodes → ℕ → ℕ → Bool
is_split n zero x = steps n (reach n zero x) x
is_split n (suc l) x = is_split n l (x / 8) && steps n (reach n (suc l) x) x

-- The node over the cell x of level l: x itself if its parent is a split node, else the node over the parent.
unfoldable pub over : Nodes → ℕ → ℕ → ℕ
over n zero x = x
over n (suc l) x = if₀ (is_split n l (x / 8)) x (over n l (x / 8))

-- And its place.
unfoldable pub place_over : Nodes → ℕ → ℕ → ℕ
place_over n zero x = 0
place_over n (suc l) x = if₀ (is_split n l (x / 8)) (reach n (suc l) x) (place_over n l (x / 8))

-- And its level.
unfoldable pub level_over : Nodes → ℕ → ℕ → ℕ
level_over n zero x = 0
level_over n (suc l) x = if₀ (is_split n l (x / 8)) (suc l) (level_over n l (x / 8))

-- The node over a cell of level L, by its level and its place.
pub record NodeOver (n : Nodes) (L x l place : ℕ) : Type 0 where
  pub no_deeper : l ≤ L
  pub is : over n L x ≡ x / 8 ^ (L - l)
  pub its_level : level_over n L x ≡ l
  pub at : place_over n L x ≡ place

-- What going down answers. No cell has a level above 21: for one it stays at the root.
abbrev pub NodeSays : Nodes → ℕ → ℕ → ℕ → ℕ → Type 0
NodeSays n L x l place = ((L ≤ deepest) × NodeOver n L x l place) ⊎ ((deepest < L) × (l ≡ 0) × (place ≡ 0))
