-- How many vertices a tree has at most, so that a host can lend a list that is never refused. proofs/Most.antt proves each of these.
use Rattle.std.specs.Prelude.{ℕ, ◌+◌, ◌-◌, ◌*◌, ◌≤◌, ◌≡◌, List, Float, length, Err}
use Rattle.refusals.specs.declared.Refusal.{Refusal}
use Rattle.morton.specs.Level.{level}
use Rattle.build.specs.declared.State.{State}
use Rattle.build.specs.Build.{Tables}
use Rattle.tree.specs.Tree.{Tree, In, Sound}
use Rattle.geometry.specs.Listing.{Listed}
use Rattle.vertices.specs.Listing.{Lists, Room, ListSays}
use Rattle.demands.specs.Run.{Run}
use Rattle.demands.specs.Reading.{tree_after}

-- 27 vertices where the root and its children alone are split, and for each of the other splits the middles of its cell, of six faces and of
-- twelve edges.
abbrev pub most : ℕ → ℕ
most splits = 27 + 19 * (splits - 9)

-- Of a tree in which so many nodes are split.
pub record MostVertices (splits : ℕ) (t : Tree) : Type 0 where
  -- The root and its children are.
  pub nine : 9 ≤ splits
  -- It has at most so many vertices,
  pub at_most : (vertices levels : List ℕ) → Listed t.leaves vertices levels → length vertices ≤ most splits
  -- and a list with room for so many isn't refused.
  pub enough : (start : ℕ) (k : Refusal) (was left : Lists) → Room start (most splits) was → ListSays t start was left (Err k) → ⊥

-- For every sound tree in which neither the root nor a child of it is a leaf.
abbrev pub MostOfSoundTrees : Type 0
MostOfSoundTrees =
    (t : Tree) → Sound t → ((k : ℕ) → In k t.leaves → 2 ≤ level k)
    → MostVertices (length t.keys - length t.leaves) t

-- For every finished build.
abbrev pub MostOfFinishedBuilds : Type 0
MostOfFinishedBuilds =
    (bound : ℕ) (lent : Tables) (given : List Float) (s : State) (t : Tables)
    → Run bound lent given s t → s.asked ≡ 0
    → MostVertices (s.nodes - s.leaves) (tree_after s t)
