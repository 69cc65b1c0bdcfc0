-- Demand 3 of the user, the half that speaks of building, with demand 2's split rule for finite distances. proofs/Demands.antt proves each of these.
use Rattle.std.specs.Prelude.{ℕ, ◌+◌, ◌*◌, ◌≤◌, ◌<◌, ◌≡◌, true, false, not, List, ◌∷◌, ◌++◌, reverse, length, get_or, take, Float, Err}
use Rattle.std.specs.Float.{nan}
use Rattle.std.specs.Float.Ieee.Scale.{finite}
use Rattle.refusals.specs.declared.Refusal.{Refusal}
use Rattle.refusals.specs.declared.Refusal.TheVariants.{NotFinite}
use Rattle.refusals.specs.Refusals.{number}
use Rattle.morton.specs.Level.{level}
use Rattle.morton.specs.Split.{splits}
use Rattle.build.specs.declared.State.{State}
use Rattle.build.specs.Build.{Tables, finest, node_room, lengths_of, fits, distance_of}
use Rattle.geometry.specs.Grid.{Covers}
use Rattle.tree.specs.Tree.{In, Ascending, AllFinite, FirstChild, Decides}
use Rattle.demands.specs.Run.{Run, node_keys, leaf_keys, open_cells, whole_of, children_of}

-- What holds after every accepted distance of a build, and at its start.
pub record AfterEveryDistance (bound : ℕ) (lent : Tables) (given : List Float) (s : State) (t : Tables) : Type 0 where
  -- Each cell of the finest grid lies in exactly one cell that is a leaf, is asked for or is waiting, and their volumes add up to the cube.
  pub covers : Covers (finest bound) (leaf_keys s t ++ open_cells s t)
  -- The state fits its tables: refusal 10 never comes, whatever distance is given next.
  pub fitting : fits s t ≡ true
  pub never_10 : (d : Float) (k : Refusal) → (distance_of s d t).answer ≡ Err k → number k ≡ 10 → ⊥
  -- While a cell is asked for, an infinite or NaN distance is refused with 16, full tables or not, and no finite one is. So every distance of a build is
  -- finite.
  pub broken_refused : (s.asked ≡ 0 → ⊥) → (d : Float) → finite d ≡ false → ((distance_of s d t).answer ≡ Err NotFinite) × (number NotFinite ≡ 16)
  pub only_broken : (d : Float) (k : Refusal) → (distance_of s d t).answer ≡ Err k → number k ≡ 16 → finite d ≡ false
  pub finite_given : AllFinite given
  -- There is a node for each distance, in the order given; node and leaf keys are strictly ascending.
  pub nodes : s.nodes ≡ length given
  pub distances : take s.nodes t.distances ≡ reverse given
  pub nodes_ascend : Ascending (node_keys s t)
  pub leaves_ascend : Ascending (leaf_keys s t)
  -- The node at a place is a leaf exactly if document 01's rule doesn't split it for the distance there; there are no other leaves.
  pub leaf : (i : ℕ) → i < s.nodes
      → Decides (not (splits (level (get_or t.keys i 0)) bound (get_or t.distances i nan))) (In (get_or t.keys i 0) (leaf_keys s t))
  pub leaves : leaf_keys s t ≡ whole_of bound (node_keys s t) (reverse given)
  -- All cells so far are the root and the eight children of each node that is split, in their order: first the nodes, then the cell asked for, then those
  -- that wait.
  pub cells : node_keys s t ++ open_cells s t ≡ 1 ∷ children_of bound (node_keys s t) (reverse given)
  -- Beside each node stands the place of the first of its eight children in that order, or 0 for a leaf.
  pub firsts : (i : ℕ) → i < s.nodes → FirstChild (node_keys s t ++ open_cells s t) (get_or t.keys i 0) (get_or t.firsts i 0)
  -- With n nodes and m leaves, 7n + 1 = 8m once the build is finished.
  pub done : s.asked ≡ 0 → 7 * s.nodes + 1 ≡ 8 * s.leaves
  -- A build ends: no more distances are accepted than the node room.
  pub ends : length given ≤ node_room (lengths_of lent)

-- For every build.
abbrev pub Building : Type 0
Building =
    (bound : ℕ) (lent : Tables) (given : List Float) (s : State) (t : Tables)
    → Run bound lent given s t → AfterEveryDistance bound lent given s t

-- Places of taken queue items are used again: 72 items go through a queue of 64, and bound 2 is finished by any 73 finite distances.
abbrev pub QueueOf64 : Type 0
QueueOf64 =
    (bound : ℕ) (lent : Tables) (given : List Float)
    → bound ≤ 2 → 73 ≤ node_room (lengths_of lent) → 64 ≤ length lent.leaves → 64 ≤ length lent.queue
    → length given ≡ 73 → AllFinite given
    → (s : State) × (t : Tables) × Run bound lent given s t × (s.asked ≡ 0)
