-- Which lengths of the lent tables are enough for a build, and which never are. proofs/Rooms.antt proves each of these.
use Rattle.std.specs.Prelude.{ℕ, ◌+◌, ◌-◌, ◌*◌, ◌/◌, ◌≤◌, ◌<◌, ◌≡◌, true, cond, List, length, Float, Err}
use Rattle.std.specs.Float.Ieee.Scale.{finite}
use Rattle.refusals.specs.declared.Refusal.{Refusal}
use Rattle.refusals.specs.Refusals.{number}
use Rattle.build.specs.declared.State.{State}
use Rattle.build.specs.Build.{Tables, node_room, lengths_of, split_of, distance_of}
use Rattle.demands.specs.Run.{Run}
use Rattle.demands.specs.Reading.{tree_after}

-- Room for n nodes: so many nodes, and (7n + 1)/8 places, rounded down, for the leaves and for the queue.
pub record RoomFor (n : ℕ) (lent : Tables) : Type 0 where
  pub nodes : n ≤ node_room (lengths_of lent)
  pub leaves : (7 * n + 1) / 8 ≤ length lent.leaves
  pub queue : (7 * n + 1) / 8 ≤ length lent.queue

-- Where d is given for the asked cell, the tree has so many nodes at least, once it is finished: the root and the eight children of each split, those of
-- this one too.
abbrev pub nodes_with : State → Float → ℕ
nodes_with s d = 1 + 8 * (s.nodes - s.leaves + cond {A = ℕ} (split_of s d) 1 0)

-- With room for n nodes a finite distance that is asked for is refused only where the tree has more than n.
abbrev pub EnoughRoom : Type 0
EnoughRoom =
    (n bound : ℕ) (lent : Tables) (given : List Float) (s : State) (t : Tables)
    → RoomFor n lent → Run bound lent given s t → (s.asked ≡ 0 → ⊥)
    → (d : Float) → finite d ≡ true → (k : Refusal) → (distance_of s d t).answer ≡ Err k → n < nodes_with s d

-- With room for as many nodes as the node room says there is always room for another leaf.
abbrev pub EnoughLeaves : Type 0
EnoughLeaves =
    (bound : ℕ) (lent : Tables) (given : List Float) (s : State) (t : Tables)
    → RoomFor (node_room (lengths_of lent)) lent → Run bound lent given s t
    → (d : Float) (k : Refusal) → (distance_of s d t).answer ≡ Err k → number k ≡ 7 → ⊥

-- So distances that finish a build on some tables finish it, with the same tree, on all tables with room for its nodes.
abbrev pub Finishes : Type 0
Finishes =
    (bound : ℕ) (large lent : Tables) (given : List Float) (s : State) (t : Tables)
    → Run bound large given s t → s.asked ≡ 0 → RoomFor s.nodes lent
    → (s' : State) × (t' : Tables) × Run bound lent given s' t' × (s'.asked ≡ 0) × (tree_after s' t' ≡ tree_after s t)

-- A queue shorter than 64 lets no build finish.
abbrev pub ShortQueue : Type 0
ShortQueue =
    (bound : ℕ) (lent : Tables) (given : List Float) (s : State) (t : Tables)
    → length lent.queue < 64 → Run bound lent given s t → s.asked ≡ 0 → ⊥
