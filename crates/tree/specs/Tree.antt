-- A tree as it lies in its tables, and what a sound one is. Assumes nothing.
use Rattle.std.specs.Prelude.{ℕ, ◌+◌, ◌*◌, ◌≤◌, ◌<◌, ◌≡◌, Bool, true, false, ◌⊎◌, List, Float, length, get_or}
use Rattle.std.specs.Float.{nan}
use Rattle.std.specs.Float.Ieee.Scale.{finite}
use Rattle.morton.specs.Level.{limit, Cell, level, parent_of}
use Rattle.tree.specs.declared.Tree as lent

-- Node keys, node distances, for each node the place of its first child, and leaf keys.
pub record Tree : Type 0 where
  pub keys : List ℕ
  pub distances : List Float
  pub firsts : List ℕ
  pub leaves : List ℕ

abbrev pub tree_of : List ℕ → List Float → List ℕ → List ℕ → Tree
tree_of keys distances firsts leaves = record { keys = keys; distances = distances; firsts = firsts; leaves = leaves }

-- As the code has it.
abbrev pub the_tree : lent.Tree → Tree
the_tree t = tree_of t.nodes.keys.now t.distances.now t.nodes.firsts.now t.leaves.now

-- k stands at a place of a list.
pub record StandsAt (ks : List ℕ) (place k : ℕ) : Type 0 where
  pub inside : place < length ks
  pub here : get_or ks place 0 ≡ k

-- k is in a list: it stands at some place.
pub record In (k : ℕ) (ks : List ℕ) : Type 0 where
  pub place : ℕ
  pub inside : place < length ks
  pub here : get_or ks place 0 ≡ k

-- Strictly ascending.
abbrev pub Ascending : List ℕ → Type 0
Ascending ks = (i j : ℕ) → i < j → j < length ks → get_or ks i 0 < get_or ks j 0

-- All eight children of k are there; none of them is.
abbrev pub AllChildren : ℕ → List ℕ → Type 0
AllChildren k ks = (w : ℕ) → w < 8 → In (8 * k + w) ks

abbrev pub NoChild : ℕ → List ℕ → Type 0
NoChild k ks = (w : ℕ) → w < 8 → In (8 * k + w) ks → ⊥

-- No infinity and no NaN.
abbrev pub AllFinite : List Float → Type 0
AllFinite ds = (i : ℕ) → i < length ds → finite (get_or ds i nan) ≡ true

-- The place of the first of a node's eight children, or 0 for a leaf.
abbrev pub FirstChild : List ℕ → ℕ → ℕ → Type 0
FirstChild ks k place = StandsAt ks place (8 * k) ⊎ (NoChild k ks × (place ≡ 0))

pub record Sound (t : Tree) : Type 0 where
  -- As many keys as distances.
  pub as_many : length t.keys ≡ length t.distances
  -- A tree that holds an infinite or NaN distance is no sound tree.
  pub all_finite : AllFinite t.distances
  -- Keys strictly ascending, first 1, all cell keys of level at most 15.
  pub ascending : Ascending t.keys
  pub first : StandsAt t.keys 0 1
  pub cells : (k : ℕ) → In k t.keys → Cell (level k) k × (level k ≤ limit)
  -- Each other key's parent present.
  pub parents : (k : ℕ) → In k t.keys → (k ≡ 1 → ⊥) → In (parent_of k) t.keys
  -- Each key with all eight children or none.
  pub children : (k : ℕ) → In k t.keys → AllChildren k t.keys ⊎ NoChild k t.keys
  -- The leaf part being exactly the keys with none, ascending.
  pub leaves_ascending : Ascending t.leaves
  pub leaves_childless : (k : ℕ) → In k t.leaves → In k t.keys × NoChild k t.keys
  pub childless_leaves : (k : ℕ) → In k t.keys → NoChild k t.keys → In k t.leaves
  -- The right place at each node.
  pub as_many_firsts : length t.keys ≡ length t.firsts
  pub first_child : (i : ℕ) → i < length t.keys → FirstChild t.keys (get_or t.keys i 0) (get_or t.firsts i 0)

-- The answer is true exactly if P holds.
abbrev pub Decides : Bool → Type 0 → Type 0
Decides true P = P
Decides false P = P → ⊥

-- A list holds first, first + 1, .., first + 7 from a place on.
pub record EightAt (ks : List ℕ) (place first : ℕ) : Type 0 where
  pub room : place + 8 ≤ length ks
  pub run : (w : ℕ) → w < 8 → get_or ks (place + w) 0 ≡ first + w
