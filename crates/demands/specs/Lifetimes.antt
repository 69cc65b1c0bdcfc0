-- From which slab to which slab the leaves of a tree are needed, for a host that frees a leaf's data after its last slab. proofs/Lifetimes.antt proves
-- `LifetimesOfTrees`. `LifetimesSays`, `ListSays`, `SlabsSays` and `DualSays` are what the calls promise to answer and to leave.
use Rattle.std.specs.Prelude.{ℕ, ◌+◌, ◌-◌, ◌^◌, ◌≤◌, ◌<◌, ◌≡◌, ◌⊎◌, length, get_or, Ok, Err}
use Rattle.refusals.specs.declared.Refusal.{Refusal}
use Rattle.refusals.specs.Refusals.{number}
use Rattle.tree.specs.Tree.{Tree, StandsAt, Sound}
use Rattle.geometry.specs.Grid.{sum}
use Rattle.vertices.specs.Listing.{Lists, ListSays}
use Rattle.dual.specs.declared.Dual.{Dual}
use Rattle.dual.specs.Dual.{DualSays}
use Rattle.slabs.specs.Heights.{reach, SlabsSays}
use Rattle.lifetimes.specs.Needed.{CellOf, Reports, Room, LifetimesSays}

-- What stands in the report: the first and the last slab of leaf i.
abbrev pub first_of : Reports → ℕ → ℕ
first_of left i = get_or left.first i 0

abbrev pub last_of : Reports → ℕ → ℕ
last_of left i = get_or left.last i 0

-- Leaf i is kept at a slab.
pub record KeptAt (left : Reports) (slab i : ℕ) : Type 0 where
  pub from : first_of left i ≤ slab
  pub to : slab ≤ last_of left i

-- The node k is a leaf of the tree, and is kept at a slab.
pub record LeafKept (t : Tree) (left : Reports) (slab k : ℕ) : Type 0 where
  pub number : ℕ
  pub leaf : StandsAt t.leaves number k
  pub kept : KeptAt left slab number

-- Vertex j of a list that stands from a start place on.
abbrev pub vertex_at : Lists → ℕ → ℕ → ℕ
vertex_at left start j = get_or left.vertices (start + j) 0

abbrev pub level_at : Lists → ℕ → ℕ → ℕ
level_at left start j = get_or left.levels (start + j) 0

-- A report of a tree at a slab exponent.
pub record Lifetimes (t : Tree) (s : ℕ) (left : Reports) (most : ℕ) : Type 0 where
  -- Of a tree that isn't the root alone every leaf is needed at some slab, and no leaf past the last one.
  pub every : 1 < length t.keys → (i : ℕ) → i < length t.leaves → (first_of left i ≤ last_of left i) × (last_of left i < 2 ^ s)
  -- Nothing is freed too early: every node that a listed cell reads at a slab from the cell's first to its last is a leaf that is kept there.
  pub in_time : (start n : ℕ) (before after : Lists) → ListSays t start before after (Ok n) → (j : ℕ) → j < n
      → (first last : ℕ) → SlabsSays t (level_at after start j) (vertex_at after start j) s (reach first last)
      → (c : Dual) → DualSays t (level_at after start j) (vertex_at after start j) c.keys c.distances c.places c.tried
      → (slab : ℕ) → first ≤ slab → slab ≤ last → (o : ℕ) → o < 8 → LeafKept t left slab (get_or c.keys o 0)
  -- Nothing is kept longer than it must: a listed cell that has the leaf begins at its first slab, and one ends at its last.
  pub no_longer : 1 < length t.keys → (i : ℕ) → i < length t.leaves
      → ((last : ℕ) × CellOf t s (get_or t.leaves i 0) (first_of left i) last) × ((first : ℕ) × CellOf t s (get_or t.leaves i 0) first (last_of left i))
  -- The root alone has no cell, and its leaf is never needed.
  pub root_alone : length t.keys ≡ 1 → (first_of left 0 ≡ 1) × (last_of left 0 ≡ 0) × (most ≡ 0)
  -- The counts of all slabs add up to the lengths of all leaves' spans.
  pub adds_up : sum (λ slab. get_or left.needed slab 0) (2 ^ s) ≡ sum (λ i. last_of left i + 1 - first_of left i) (length t.leaves)
  -- The greatest number is that of some slab, and none has a greater one.
  pub reached : (slab : ℕ) × (slab < 2 ^ s) × (get_or left.needed slab 0 ≡ most)
  pub none_above : (slab : ℕ) → slab < 2 ^ s → get_or left.needed slab 0 ≤ most

-- Why there is no report: the tree isn't sound; else the exponent is above 15; else a table has fewer places than leaves, or than slabs.
abbrev pub WhyNoReport : Tree → ℕ → Reports → ℕ → Type 0
WhyNoReport t s was k =
    ((Sound t → ⊥) × (k ≡ 11))
    ⊎ ((Sound t × (15 < s) × (k ≡ 5))
    ⊎ (Sound t × (s ≤ 15) × (Room (length t.leaves) s was → ⊥) × (k ≡ 17)))

abbrev pub LifetimesOfTrees : Type 0
LifetimesOfTrees = (t : Tree) (s : ℕ) (was left : Reports) (most : ℕ) → LifetimesSays t s was left (Ok most) → Lifetimes t s left most

-- A refused call leaves the tables as they were.
abbrev pub LifetimesRefused : Type 0
LifetimesRefused = (t : Tree) (s : ℕ) (was left : Reports) (k : Refusal) → LifetimesSays t s was left (Err k) → (left ≡ was) × WhyNoReport t s was (number k)
