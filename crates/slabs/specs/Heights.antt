-- How high the nodes of a dual cell lie, and which slabs it reaches. Assumes nothing.
use Rattle.std.specs.Prelude.{ℕ, ◌+◌, ◌*◌, ◌/◌, ◌^◌, ◌≤◌, ◌<◌, ◌≡◌, List, [], leb, Result, Ok, Err}
use Rattle.morton.specs.Field.{coord}
use Rattle.morton.specs.Level.{limit, level, if₀}
use Rattle.tree.specs.Tree.{Tree, In}
use Rattle.tree.specs.Down.{Nodes}
use Rattle.dual.specs.declared.Dual.{Dual}
use Rattle.refusals.specs.declared.Refusal.{Refusal}
use Rattle.refusals.specs.declared.Refusal.TheVariants.{AboveFifteen}
use Rattle.dual.specs.Dual.{DualSays, TrustingSays as CellTrustingSays}
use Rattle.slabs.specs.declared.Reach.{Reach}

-- Centre height of a node: (2c + 1) / 2^(l+1), c being its coordinate on z and l its level; what stands over the stroke, and under it.
abbrev pub height_over : ℕ → ℕ
height_over k = 2 * coord (level k) k 2 + 1

abbrev pub height_under : ℕ → ℕ
height_under k = 2 ^ (level k + 1)

-- One centre is no higher than another, multiplied out.
abbrev pub NoHigher : ℕ → ℕ → Type 0
NoHigher j k = height_over j * height_under k ≤ height_over k * height_under j

abbrev pub NoLower : ℕ → ℕ → Type 0
NoLower j k = NoHigher k j

-- k is one of the nodes, and stands to each of them as `so` says.
pub record Outermost (so : ℕ → ℕ → Type 0) (keys : List ℕ) (k : ℕ) : Type 0 where
  pub one_of : In k keys
  pub against : (j : ℕ) → In j keys → so k j

-- The lowest of some nodes, and the highest, by their centres.
abbrev pub Lowest : List ℕ → ℕ → Type 0
Lowest keys k = Outermost NoHigher keys k

abbrev pub Highest : List ℕ → ℕ → Type 0
Highest keys k = Outermost NoLower keys k

-- With slab exponent s the cube has 2^s slabs along z. The slab of a node: its centre height multiplied by 2^s, rounded down.
abbrev pub slab_of : ℕ → ℕ → ℕ
slab_of s k = height_over k * 2 ^ s / height_under k

-- The same for every s: above the limit, 0.
abbrev pub slab_at : ℕ → ℕ → ℕ
slab_at s k = if₀ (leb s limit) (slab_of s k) 0

-- A cell reaches from the lowest to the highest of its eight node centres: first and last slab are those of the two.
pub record Reaches (keys : List ℕ) (s first last : ℕ) : Type 0 where
  pub low : ℕ
  pub high : ℕ
  pub lowest : Lowest keys low
  pub highest : Highest keys high
  pub first_is : first ≡ slab_of s low
  pub last_is : last ≡ slab_of s high

-- An answer from one slab to another.
abbrev pub reach : ℕ → ℕ → Result Reach Refusal
reach first last = Ok (record { first = first; last = last })

-- What is answered of a dual cell, by how many keys it says were tried and by its keys: its own refusal, 5 where the exponent is above 15, else its slabs.
abbrev pub OfCell : Result ℕ Refusal → List ℕ → ℕ → Result Reach Refusal → Type 0
OfCell (Err e) keys s r = r ≡ Err e
OfCell (Ok n) keys s (Err e) = (limit < s) × (e ≡ AboveFifteen)
OfCell (Ok n) keys s (Ok x) = (s ≤ limit) × Reaches keys s x.first x.last

-- Refusals 11, 4, 5: the cell is the one that `dual_cell` answers.
abbrev pub SlabsSays : Tree → ℕ → ℕ → ℕ → Result Reach Refusal → Type 0
SlabsSays t L v s r = (c : Dual) × DualSays t L v c.keys c.distances c.places c.tried × OfCell c.tried c.keys s r

-- Of a tree that is trusted to be sound, refusals 4, 5: the cell is the one that `dual_cell_trusting` answers of the same nodes with no distances, on which its
-- keys don't depend.
abbrev pub TrustingSays : Nodes → ℕ → ℕ → ℕ → Result Reach Refusal → Type 0
TrustingSays ns L v s r = (c : Dual) × CellTrustingSays ns [] L v c.keys c.distances c.places c.tried × OfCell c.tried c.keys s r
