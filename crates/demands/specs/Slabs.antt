-- Which slabs the dual cells of a tree reach, for a host that frees nodes slab by slab. proofs/Slabs.antt proves `SlabsOfTrees`.
use Rattle.std.specs.Prelude.{ℕ, ◌+◌, ◌*◌, ◌/◌, ◌^◌, ◌≤◌, ◌<◌, ◌≡◌, ◌⊎◌, get_or, Result, Ok, Err}
use Rattle.refusals.specs.Refusals.{number}
use Rattle.refusals.specs.declared.Refusal.{Refusal}
use Rattle.slabs.specs.declared.Reach.{Reach}
use Rattle.morton.specs.Field.{coord}
use Rattle.morton.specs.Level.{deepest, level}
use Rattle.tree.specs.Tree.{Tree, Sound}
use Rattle.vertices.specs.Listing.{Lists, ListSays}
use Rattle.dual.specs.declared.Dual.{Dual}
use Rattle.dual.specs.Dual.{NoCell, DualSays}
use Rattle.slabs.specs.Heights.{reach, slab_of, SlabsSays}

-- The slab in which a vertex itself lies: its height, which is z at level 21 over 2^21, multiplied by 2^s and rounded down.
abbrev pub slab_of_vertex : ℕ → ℕ → ℕ
slab_of_vertex s v = coord deepest v 2 * 2 ^ s / 2 ^ deepest

-- It isn't refused, and the slab is among those that it answers.
abbrev pub HasVertex : ℕ → ℕ → Result Reach Refusal → Type 0
HasVertex s v (Ok x) = (x.first ≤ slab_of_vertex s v) × (slab_of_vertex s v ≤ x.last)
HasVertex s v (Err k) = ⊥

-- What `slabs` and `dual_cell` answer of one vertex, a number of 64 bits, and level.
pub record CellIn (t : Tree) (L v s first last : ℕ) (c : Dual) : Type 0 where
  pub word : v < 2 ^ 64
  pub slabs : SlabsSays t L v s (reach first last)
  pub cell : DualSays t L v c.keys c.distances c.places c.tried

-- Why it is refused: the tree isn't sound; else it isn't an inner vertex at that level, or the tree is the root alone; else the exponent is above 15.
abbrev pub WhyNot : Tree → ℕ → ℕ → ℕ → ℕ → Type 0
WhyNot t L v s k =
    ((Sound t → ⊥) × (k ≡ 11))
    ⊎ ((Sound t × NoCell t.keys L v × (k ≡ 4))
    ⊎ (Sound t × (NoCell t.keys L v → ⊥) × (15 < s) × (k ≡ 5)))

-- Of any tree, sound or not.
pub record Spans (t : Tree) : Type 0 where
  -- Slabs are answered only where there is no such reason, and else refused by the first of them.
  pub answered : (L v s first last : ℕ) → SlabsSays t L v s (reach first last) → Sound t × (NoCell t.keys L v → ⊥) × (s ≤ 15)
  pub refused : (L v s : ℕ) (k : Refusal) → SlabsSays t L v s (Err k) → WhyNot t L v s (number k)
  -- The first slab is no higher than the last, and there are 2^s.
  pub order : (L v s first last : ℕ) → SlabsSays t L v s (reach first last) → (first ≤ last) × (last < 2 ^ s)
  -- Each node of the cell has its centre in one of the slabs from the first to the last.
  pub each : {L v s first last : ℕ} {c : Dual} → CellIn t L v s first last c
      → (i : ℕ) → i < 8 → (first ≤ slab_of s (get_or c.keys i 0)) × (slab_of s (get_or c.keys i 0) ≤ last)
  -- A cell whose eight nodes are of its vertex's level reaches at most two slabs, next to each other, if slabs are no thinner than those nodes.
  pub two : {L v s first last : ℕ} {c : Dual} → CellIn t L v s first last c
      → ((i : ℕ) → i < 8 → level (get_or c.keys i 0) ≡ L) → s ≤ L → last ≤ first + 1
  -- The slabs of a listed vertex's cell aren't refused, and the vertex itself lies in one of them.
  pub vertex : (start n : ℕ) (was left : Lists) → ListSays t start was left (Ok n)
      → (j : ℕ) → j < n → (s : ℕ) → s ≤ 15
      → (r : Result Reach Refusal) → SlabsSays t (get_or left.levels (start + j) 0) (get_or left.vertices (start + j) 0) s r
      → HasVertex s (get_or left.vertices (start + j) 0) r

abbrev pub SlabsOfTrees : Type 0
SlabsOfTrees = (t : Tree) → Spans t
