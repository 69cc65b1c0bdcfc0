-- What README and the header tell of builds and trees as proved, beside the one answer of each call: sentence by sentence, by name and with its statement.
use Rattle.std.specs.Prelude.{ℕ, ◌+◌, ◌*◌, ◌-◌, ◌/◌, ◌^◌, ◌≤◌, ◌<◌, ◌≡◌, true, false, not, ◌⊎◌, List, ◌∷◌, ◌++◌, reverse, Float, length, get_or, take, Result, Ok, Err}
use Rattle.std.specs.Float.{nan}
use Rattle.std.specs.Float.Ieee.Scale.{finite}
use Rattle.refusals.specs.Refusals.{number}
use Rattle.refusals.specs.declared.Refusal.{Refusal}
use Rattle.refusals.proofs.Numbers as numbers
use Rattle.refusals.specs.declared.Refusal.TheVariants.{NotFinite, ListFull}
use Rattle.slabs.specs.declared.Reach.{Reach}
use Rattle.morton.specs.declared.Vec3.{Vec3}
use Rattle.morton.specs.Answers.{CentreSays}
use Rattle.morton.specs.Exact.{Exactly}
use Rattle.morton.specs.Field.{coord}
use Rattle.morton.specs.Level.{deepest, limit, level, Cell}
use Rattle.morton.specs.Split.{splits}
use Rattle.morton.specs.Vertex.{is_inner, side_of}
use Rattle.tree.specs.declared.Lookup.{Lookup}
use Rattle.tree.specs.declared.Lookup.TheVariants.{Found}
use Rattle.tree.specs.Tree.{Tree, StandsAt, In, Ascending, AllFinite, FirstChild, Sound, Decides}
use Rattle.tree.specs.Climb.{LookupSays, tried_in, trusting_of}
use Rattle.tree.specs.Down.{Nodes}
use Rattle.tree.proofs.Finding.{nodes}
use Rattle.tree.proofs.Finding as finding
use Rattle.tree.proofs.Down as down
use Rattle.tree.proofs.One as tree
use Rattle.geometry.specs.Grid.{sum, lies_in, holders, volumes}
use Rattle.geometry.specs.Listing.{Listed}
use Rattle.build.specs.declared.Request.{Request}
use Rattle.build.specs.declared.State.{State}
use Rattle.build.specs.Build.{Tables, finest, node_room, lengths_of, centre_of, half_of, distance_of}
use Rattle.build.proofs.Asking as asking
use Rattle.vertices.specs.Listing.{Lists, Room, ListSays, TrustingSays as ListTrustingSays}
use Rattle.vertices.specs.Walk.{visited, spots_of, most_of, vertices_of, levels_of}
use Rattle.vertices.specs.Cells.{places_of, places_at, Cells, cells_of, CellsSays}
use Rattle.vertices.proofs.Linear as linear
use Rattle.vertices.proofs.One as vertices
use Rattle.dual.specs.declared.Dual.{Dual}
use Rattle.dual.specs.Dual.{NoCell, DualCell, DualSays, key_in, place_in, TrustingSays as DualTrustingSays}
use Rattle.dual.proofs.Filling as filling
use Rattle.dual.proofs.One as dual
use Rattle.slabs.specs.Heights.{reach, slab_of, SlabsSays, TrustingSays as SlabsTrustingSays}
use Rattle.slabs.proofs.Spans as spans
use Rattle.slabs.proofs.One as one-slabs
use Rattle.lifetimes.specs.Needed.{CellOf, Reports, Room as ReportRoom, LifetimesSays}
use Rattle.lifetimes.specs.Trusted.{TrustingSays as LifetimesTrustingSays}
use Rattle.lifetimes.proofs.One as one-lifetimes
use Rattle.demands.specs.Run.{Run, node_keys, leaf_keys, open_cells, whole_of, children_of}
use Rattle.demands.specs.Demands.{AfterEveryDistance}
use Rattle.demands.specs.Reading.{Once, LeafCorner, ListsCorners, LeafCell, part, Reading, tree_after}
use Rattle.demands.specs.Slabs.{HasVertex}
use Rattle.demands.specs.Lifetimes.{LeafKept}
use Rattle.demands.specs.Rooms.{RoomFor, nodes_with}
use Rattle.demands.specs.Most.{MostVertices}
use Rattle.demands.specs.Batches.{Batches, Done}
use Rattle.demands.proofs.Demands as demands
use Rattle.demands.proofs.Reading.{of_sound_trees, of_finished_builds}
use Rattle.demands.proofs.Slabs.{slabs_of_trees}
use Rattle.demands.proofs.Lifetimes.{lifetimes_of_trees, lifetimes_refused as refused}
use Rattle.demands.proofs.Rooms as rooms
use Rattle.demands.proofs.Most as most
use Rattle.demands.proofs.Batches as batches
use Rattle.mittenhelm_builds.specs.Words.{state_of, words_of, reply, start_replies, effect, distance_effect}
use Rattle.mittenhelm_builds.proofs.Header as header
use Rattle.hosts.specs.HostRun.{Host, HostRun, tree_in}
use Rattle.hosts.specs.Hosts.{AfterEveryCall, HostsReading}
use Rattle.hosts.proofs.Hosts as hosts
use Rattle.counting.specs.Vertices.{vertex_count}
use Rattle.counting.specs.Printed.{line_of}
use Rattle.counting.proofs.Runs as runs
use Rattle.counting.proofs.Distinct as distinct

-- ---- refusals

-- Each refusal has a number of its own, and none has 0, which says that a call accepted.
pub number_apart : (j k : Refusal) → number j ≡ number k → j ≡ k
number_apart = numbers.number_apart

pub some_number : (k : Refusal) → number k ≡ 0 → ⊥
some_number = numbers.some_number

-- ---- a build is whole at every step

module _ (bound : ℕ) (lent : Tables) (given : List Float) (s : State) (t : Tables) (run : Run bound lent given s t) where
  whole : AfterEveryDistance bound lent given s t
  whole = demands.building bound lent given s t run

  -- After every accepted distance each cell of the finest grid lies in exactly one cell that is a leaf, is asked for or is waiting;
  pub each_cell_once : (f : ℕ) → Cell (finest bound) f → holders (finest bound) f (leaf_keys s t ++ open_cells s t) ≡ 1
  each_cell_once = whole.covers.once

  -- their volumes add up to the cube;
  pub volumes_add_up : volumes (finest bound) (leaf_keys s t ++ open_cells s t) ≡ 8 ^ finest bound
  volumes_add_up = whole.covers.full

  -- an honest host never hears 10;
  pub never_10 : (d : Float) (k : Refusal) → (distance_of s d t).answer ≡ Err k → number k ≡ 10 → ⊥
  never_10 = whole.never_10

  -- while a cell is asked for, an infinite or NaN distance is refused with 16, and no finite one is; so every distance of a build is finite;
  pub broken_refused : (s.asked ≡ 0 → ⊥) → (d : Float) → finite d ≡ false → ((distance_of s d t).answer ≡ Err NotFinite) × (number NotFinite ≡ 16)
  broken_refused = whole.broken_refused

  pub only_broken : (d : Float) (k : Refusal) → (distance_of s d t).answer ≡ Err k → number k ≡ 16 → finite d ≡ false
  only_broken = whole.only_broken

  pub finite_given : AllFinite given
  finite_given = whole.finite_given

  -- a build ends;
  pub build_ends : length given ≤ node_room (lengths_of lent)
  build_ends = whole.ends

  -- a node is a leaf exactly if the split rule leaves it whole, and there are no other leaves;
  pub leaf_by_rule : (i : ℕ) → i < s.nodes
      → Decides (not (splits (level (get_or t.keys i 0)) bound (get_or t.distances i nan))) (In (get_or t.keys i 0) (leaf_keys s t))
  leaf_by_rule = whole.leaf

  pub leaves_by_rule : leaf_keys s t ≡ whole_of bound (node_keys s t) (reverse given)
  leaves_by_rule = whole.leaves

  -- all cells so far, those that wait last, are the root and the eight children of each node that it splits, in order;
  pub cells_by_rule : node_keys s t ++ open_cells s t ≡ 1 ∷ children_of bound (node_keys s t) (reverse given)
  cells_by_rule = whole.cells

  -- beside each node stands the place of the first of its eight children in that order, or 0 for a leaf;
  pub firsts_in_order : (i : ℕ) → i < s.nodes → FirstChild (node_keys s t ++ open_cells s t) (get_or t.keys i 0) (get_or t.firsts i 0)
  firsts_in_order = whole.firsts

  -- a finished tree has its n keys and n distances in the first places, and its m leaves with 7n + 1 = 8m; keys and leaves ascend.
  pub distances_in_order : take s.nodes t.distances ≡ reverse given
  distances_in_order = whole.distances

  pub count_of_leaves : s.asked ≡ 0 → 7 * s.nodes + 1 ≡ 8 * s.leaves
  count_of_leaves = whole.done

  pub nodes_ascend : Ascending (node_keys s t)
  nodes_ascend = whole.nodes_ascend

  pub leaves_ascend : Ascending (leaf_keys s t)
  leaves_ascend = whole.leaves_ascend

  -- A finished build is a sound tree.
  pub finished_sound : s.asked ≡ 0 → Sound (tree_after s t)
  finished_sound done = (of_finished_builds bound lent given s t run done).0

-- ---- a host behind the C boundary

-- What is written of a state is read back, what is read is written back, and it is nine words.
pub read_back : (s : State) → state_of (words_of s) ≡ s
read_back = header.read_back

pub written_back : (words : List ℕ) → length words ≡ 9 → words_of (state_of words) ≡ words
written_back = header.written_back

pub words_are_nine : (s : State) → length (words_of s) ≡ 9
words_are_nine = header.words_are_nine

-- What a host's calls do is a build as above, and each build is in its reach.
pub is_a_build : (host : Host) (bound : ℕ) (lent : Tables) (given : List Float) (words : List ℕ) (t : Tables)
    → HostRun host bound lent given words t → Run bound lent given (state_of words) t
is_a_build = hosts.is_a_build

pub in_reach : (host : Host) → length host.words ≡ 9
    → (bound : ℕ) (lent : Tables) (given : List Float) (s : State) (t : Tables)
    → Run bound lent given s t → HostRun host bound lent given (words_of s) t
in_reach = hosts.in_reach

-- Word 1 counts the nodes, word 2 the leaves, and word 3 is 0 exactly once the build is finished: further distances are then refused with 9.
module _ (host : Host) (bound : ℕ) (lent : Tables) (given : List Float) (words : List ℕ) (t : Tables) (run : HostRun host bound lent given words t) where
  told : AfterEveryCall bound lent given words t
  told = hosts.hosts_building host bound lent given words t run

  pub word_of_nodes : get_or words 1 0 ≡ length given
  word_of_nodes = told.word_1

  pub word_of_leaves : get_or words 2 0 ≡ length (tree_in words t).leaves
  word_of_leaves = told.word_2

  pub word_of_the_end : get_or words 3 0 ≡ 0 → (d : Float) (places : Request) → (distance_effect words d t places).said.number ≡ 9
  word_of_the_end = told.word_3_ends

  -- While a cell is asked for, 16 is returned for an infinite or NaN distance, and for no finite one.
  pub returned_16 : (get_or words 3 0 ≡ 0 → ⊥) → (d : Float) (places : Request) → finite d ≡ false → (distance_effect words d t places).said.number ≡ 16
  returned_16 = told.broken_16

  pub only_16 : (d : Float) (places : Request) → (distance_effect words d t places).said.number ≡ 16 → finite d ≡ false
  only_16 = told.only_16

  -- Its finished tree is sound, and is read right by its calls for the list and for dual cells.
  pub hosts_finished : get_or words 3 0 ≡ 0 → Sound (tree_in words t) × Reading (finest bound) (tree_in words t) × HostsReading (finest bound) (tree_in words t)
  hosts_finished = hosts.hosts_finished host bound lent given words t run

-- A refused call changes no word, no place of the request and no table.
pub refused_start : (bound k : ℕ) (t : Tables) (words words' : List ℕ) (places request : Request)
    → start_replies bound t words places ≡ reply k words' request → (k ≡ 0 → ⊥)
    → (words' ≡ words) × (request ≡ places)
refused_start = hosts.refused_start

pub refused_distance : (k : ℕ) (d : Float) (t t' : Tables) (words words' : List ℕ) (places request : Request)
    → distance_effect words d t places ≡ effect (reply k words' request) t' → (k ≡ 0 → ⊥)
    → (words' ≡ words) × (request ≡ places) × (t' ≡ t)
refused_distance = hosts.refused_distance

-- A copy of words and tables can be brought back later, whatever the places of the request hold then,
pub brought_back_later : (host : Host) (bound : ℕ) (lent : Tables) (given : List Float) (words words' : List ℕ) (d : Float) (t t' : Tables) (later request : Request)
    → HostRun host bound lent given words t
    → distance_effect words d t later ≡ effect (reply 0 words' request) t' → HostRun host bound lent (d ∷ given) words' t'
brought_back_later = hosts.goes_on_as_before

-- and anywhere.
pub brought_back_anywhere : (host other : Host) → length other.words ≡ 9
    → (bound : ℕ) (lent : Tables) (given : List Float) (words : List ℕ) (t : Tables)
    → HostRun host bound lent given words t → HostRun other bound lent given words t
brought_back_anywhere = hosts.brought_back_anywhere

-- ---- which rooms are enough, and which never are

-- With room for n nodes a finite distance that is asked for is refused only where the tree has more than n,
pub enough_room : (n bound : ℕ) (lent : Tables) (given : List Float) (s : State) (t : Tables)
    → RoomFor n lent → Run bound lent given s t → (s.asked ≡ 0 → ⊥)
    → (d : Float) → finite d ≡ true → (k : Refusal) → (distance_of s d t).answer ≡ Err k → n < nodes_with s d
enough_room = rooms.enough_room

-- by 7 never where n is the node room,
pub enough_leaves : (bound : ℕ) (lent : Tables) (given : List Float) (s : State) (t : Tables)
    → RoomFor (node_room (lengths_of lent)) lent → Run bound lent given s t
    → (d : Float) (k : Refusal) → (distance_of s d t).answer ≡ Err k → number k ≡ 7 → ⊥
enough_leaves = rooms.enough_leaves

-- and distances that finish a build on some tables finish it, with the same tree, on all tables with room for its nodes.
pub finishes_too : (bound : ℕ) (large lent : Tables) (given : List Float) (s : State) (t : Tables)
    → Run bound large given s t → s.asked ≡ 0 → RoomFor s.nodes lent
    → (s' : State) × (t' : Tables) × Run bound lent given s' t' × (s'.asked ≡ 0) × (tree_after s' t' ≡ tree_after s t)
finishes_too = rooms.finishes

-- A queue of 64 finishes bound 2, and a shorter one lets no build finish.
pub queue_of_64 : (bound : ℕ) (lent : Tables) (given : List Float)
    → bound ≤ 2 → 73 ≤ node_room (lengths_of lent) → 64 ≤ length lent.leaves → 64 ≤ length lent.queue
    → length given ≡ 73 → AllFinite given
    → (s : State) × (t : Tables) × Run bound lent given s t × (s.asked ≡ 0)
queue_of_64 = demands.queue_of_64

pub short_queue : (bound : ℕ) (lent : Tables) (given : List Float) (s : State) (t : Tables)
    → length lent.queue < 64 → Run bound lent given s t → s.asked ≡ 0 → ⊥
short_queue = rooms.short_queue

module _ (bound : ℕ) (lent : Tables) (given : List Float) (s : State) (t : Tables) (run : Run bound lent given s t) (done : s.asked ≡ 0) where
  few : MostVertices (s.nodes - s.leaves) (tree_after s t)
  few = most.most_of_finished_builds bound lent given s t run done

  -- A finished build with s splits, nine at least, has at most 27 + 19(s - 9) vertices, and a list with so many places isn't refused.
  pub nine_splits : 9 ≤ s.nodes - s.leaves
  nine_splits = few.nine

  pub most_of_finished_builds : (vertices levels : List ℕ) → Listed (leaf_keys s t) vertices levels → length vertices ≤ 27 + 19 * (s.nodes - s.leaves - 9)
  most_of_finished_builds = few.at_most

  pub enough_for_list : (start : ℕ) (k : Refusal) (was left : Lists) → Room start (27 + 19 * (s.nodes - s.leaves - 9)) was → ListSays (tree_after s t) start was left (Err k) → ⊥
  enough_for_list = few.enough

-- ---- a finished tree is read right

module _ (t : Tree) (sound : Sound t) (D : ℕ) (deep : D ≤ deepest) (fine : (k : ℕ) → In k t.leaves → level k ≤ D) where
  right : Reading D t
  right = of_sound_trees t sound D deep fine

  -- The leaves cover the finest grid.
  pub leaf_of_each_cell : (f : ℕ) → Cell D f → holders D f t.leaves ≡ 1
  leaf_of_each_cell = right.covers.once

  -- A list is refused for want of room only, and answered with the number of its vertices.
  pub listed_by_room : (vertices levels : List ℕ) × ListsCorners t.leaves vertices levels
      × ((start : ℕ) (was left : Lists) (a : Result ℕ Refusal) → ListSays t start was left a → Room start (length vertices) was → a ≡ Ok (length vertices))
      × ((start : ℕ) (was left : Lists) (a : Result ℕ Refusal) → ListSays t start was left a → (Room start (length vertices) was → ⊥) → (a ≡ Err ListFull) × (number ListFull ≡ 12))
  listed_by_room = (right.answered.vertices, right.answered.levels, right.answered.corners, right.answered.room, right.answered.no_room)

  -- The dual cell of any inner vertex is found, unless the tree is the root alone.
  pub dual_found : 1 < length t.keys → (v L : ℕ) → v < 2 ^ 64 → is_inner L v ≡ true
      → (keys : List ℕ) × (distances : List Float) × (places : List ℕ) × (tried : ℕ) × DualCell t L v keys distances places tried
  dual_found = right.found

  module _ (start n : ℕ) (was left : Lists) (says : ListSays t start was left (Ok n)) where
    -- Every leaf corner strictly inside the cube is listed once,
    pub listed_once : (v L : ℕ) → LeafCorner t.leaves v L → Once v (part start n left.vertices)
    listed_once = (right.list start n was left says).once

    -- at the deepest level of the leaves that have that corner,
    pub listed_deepest : (i v L : ℕ) → StandsAt (part start n left.vertices) i v → LeafCorner t.leaves v L → L ≤ get_or (part start n left.levels) i 0
    listed_deepest = (right.list start n was left says).at_the_deepest

    -- and nothing else.
    pub listed_of_leaves : (i v : ℕ) → StandsAt (part start n left.vertices) i v → LeafCorner t.leaves v (get_or (part start n left.levels) i 0)
    listed_of_leaves = (right.list start n was left says).at_a_leaf's

    -- The dual cell of a listed vertex isn't refused,
    module _ (j : ℕ) (listed : j < n) (r : Dual)
        (cell : DualSays t (get_or left.levels (start + j) 0) (get_or left.vertices (start + j) 0) r.keys r.distances r.places r.tried) where
      found : LeafCell D t (get_or left.vertices (start + j) 0) r
      found = right.dual start n was left says j listed r cell

      pub dual_answered : (k : Refusal) → r.tried ≡ Err k → ⊥
      dual_answered = found.answered

      module _ (i : ℕ) (h : i < 8) where
        -- and entry i is the one leaf that holds the finest cell on side i,
        pub dual_leaf : In (get_or r.keys i 0) t.leaves
        dual_leaf = (found.entry i h).leaf

        pub dual_holds : lies_in D (side_of D (get_or left.vertices (start + j) 0) i) (get_or r.keys i 0) ≡ true
        dual_holds = (found.entry i h).holds

        pub dual_alone : (k : ℕ) → In k t.leaves → lies_in D (side_of D (get_or left.vertices (start + j) 0) i) k ≡ true → k ≡ get_or r.keys i 0
        dual_alone = (found.entry i h).only

        -- at its place,
        pub dual_place : StandsAt t.keys (get_or r.places i 0) (get_or r.keys i 0)
        dual_place = (found.entry i h).stands

        -- with its distance.
        pub dual_distance : get_or r.distances i nan ≡ get_or t.distances (get_or r.places i 0) nan
        dual_distance = (found.entry i h).its_distance

-- ---- the slabs that a dual cell reaches

-- They are answered only where the tree is sound, it is an inner vertex at that level and the tree isn't the root alone, and the exponent is at most 15;
pub slabs_answered : (t : Tree) (L v s first last : ℕ) → SlabsSays t L v s (reach first last) → Sound t × (NoCell t.keys L v → ⊥) × (s ≤ 15)
slabs_answered t = (slabs_of_trees t).answered

-- else they are refused by the first of these that fails.
pub slabs_refused : (t : Tree) (L v s : ℕ) (k : Refusal) → SlabsSays t L v s (Err k)
    → ((Sound t → ⊥) × (number k ≡ 11))
    ⊎ ((Sound t × NoCell t.keys L v × (number k ≡ 4))
    ⊎ (Sound t × (NoCell t.keys L v → ⊥) × (15 < s) × (number k ≡ 5)))
slabs_refused t = (slabs_of_trees t).refused

-- The first is no higher than the last, and of 2^s slabs there is none above.
pub reach_order : (t : Tree) (L v s first last : ℕ) → SlabsSays t L v s (reach first last) → (first ≤ last) × (last < 2 ^ s)
reach_order t = (slabs_of_trees t).order

module _ (t : Tree) (L v s first last : ℕ) (word : v < 2 ^ 64) (says : SlabsSays t L v s (reach first last))
    (r : Dual) (cell : DualSays t L v r.keys r.distances r.places r.tried) where
  -- Each node of the cell has its centre in one of them,
  pub reach_each : (i : ℕ) → i < 8 → (first ≤ slab_of s (get_or r.keys i 0)) × (slab_of s (get_or r.keys i 0) ≤ last)
  reach_each = (slabs_of_trees t).each {c = r} (record { word = word; slabs = says; cell = cell })

  -- and if all eight are of the vertex's level, and slabs no thinner than they are, these are two slabs at most, next to each other.
  pub two_slabs : ((i : ℕ) → i < 8 → level (get_or r.keys i 0) ≡ L) → s ≤ L → last ≤ first + 1
  two_slabs = (slabs_of_trees t).two {c = r} (record { word = word; slabs = says; cell = cell })

-- The slab of a node has the centre that `centre` answers.
pub centre_height : (k : ℕ) (p : Vec3) → CentreSays k (Ok p) → Exactly p.z (2 * coord (level k) k 2 + 1) (2 ^ (level k + 1))
centre_height = spans.centre_height

pub in_its_slab : (s k : ℕ)
    → (slab_of s k * 2 ^ (level k + 1) ≤ (2 * coord (level k) k 2 + 1) * 2 ^ s) × ((2 * coord (level k) k 2 + 1) * 2 ^ s < (slab_of s k + 1) * 2 ^ (level k + 1))
in_its_slab = spans.in_its_slab

-- The slabs of a listed vertex's cell aren't refused, and the vertex itself lies in one of them.
pub vertex_between : (t : Tree) (start n : ℕ) (was left : Lists) → ListSays t start was left (Ok n)
    → (j : ℕ) → j < n → (s : ℕ) → s ≤ 15
    → (r : Result Reach Refusal) → SlabsSays t (get_or left.levels (start + j) 0) (get_or left.vertices (start + j) 0) s r
    → HasVertex s (get_or left.vertices (start + j) 0) r
vertex_between t = (slabs_of_trees t).vertex

-- ---- from which slab to which slab each leaf is needed

-- There is no report where the tree isn't sound, else where the exponent is above 15, else where a table has fewer places than leaves, or than slabs; and
-- then the tables stay.
pub lifetimes_refused : (t : Tree) (s : ℕ) (was left : Reports) (k : Refusal) → LifetimesSays t s was left (Err k)
    → (left ≡ was)
    × (((Sound t → ⊥) × (number k ≡ 11))
    ⊎ ((Sound t × (15 < s) × (number k ≡ 5))
    ⊎ (Sound t × (s ≤ 15) × (ReportRoom (length t.leaves) s was → ⊥) × (number k ≡ 17))))
lifetimes_refused = refused

module _ (t : Tree) (s : ℕ) (was left : Reports) (greatest : ℕ) (says : LifetimesSays t s was left (Ok greatest)) where
  -- Of a tree that isn't the root alone every leaf is needed at some slab.
  pub every_leaf_needed : 1 < length t.keys → (i : ℕ) → i < length t.leaves
      → (get_or left.first i 0 ≤ get_or left.last i 0) × (get_or left.last i 0 < 2 ^ s)
  every_leaf_needed = (lifetimes_of_trees t s was left greatest says).every

  -- Nothing is freed too early: every node that a listed cell reads at a slab from the cell's first to its last is a leaf that is needed there.
  pub freed_in_time : (start n : ℕ) (before after : Lists) → ListSays t start before after (Ok n) → (j : ℕ) → j < n
      → (first last : ℕ) → SlabsSays t (get_or after.levels (start + j) 0) (get_or after.vertices (start + j) 0) s (reach first last)
      → (c : Dual) → DualSays t (get_or after.levels (start + j) 0) (get_or after.vertices (start + j) 0) c.keys c.distances c.places c.tried
      → (slab : ℕ) → first ≤ slab → slab ≤ last → (o : ℕ) → o < 8 → LeafKept t left slab (get_or c.keys o 0)
  freed_in_time = (lifetimes_of_trees t s was left greatest says).in_time

  -- Nothing is kept longer than it must: a listed cell that has the leaf begins at its first slab, and one ends at its last.
  pub kept_no_longer : 1 < length t.keys → (i : ℕ) → i < length t.leaves
      → ((last : ℕ) × CellOf t s (get_or t.leaves i 0) (get_or left.first i 0) last) × ((first : ℕ) × CellOf t s (get_or t.leaves i 0) first (get_or left.last i 0))
  kept_no_longer = (lifetimes_of_trees t s was left greatest says).no_longer

  -- The root alone is never needed.
  pub root_never_needed : length t.keys ≡ 1 → (get_or left.first 0 0 ≡ 1) × (get_or left.last 0 0 ≡ 0) × (greatest ≡ 0)
  root_never_needed = (lifetimes_of_trees t s was left greatest says).root_alone

  -- The counts of all slabs add up to the lengths of all leaves' spans.
  pub counts_add_up : sum (λ slab. get_or left.needed slab 0) (2 ^ s) ≡ sum (λ i. get_or left.last i 0 + 1 - get_or left.first i 0) (length t.leaves)
  counts_add_up = (lifetimes_of_trees t s was left greatest says).adds_up

  -- The greatest number is that of some slab, and none has a greater one.
  pub greatest_reached : (slab : ℕ) × (slab < 2 ^ s) × (get_or left.needed slab 0 ≡ greatest)
  greatest_reached = (lifetimes_of_trees t s was left greatest says).reached

  pub none_greater : (slab : ℕ) → slab < 2 ^ s → get_or left.needed slab 0 ≤ greatest
  none_greater = (lifetimes_of_trees t s was left greatest says).none_above

-- ---- what is found

-- The key at the place that a lookup answers is the key found, and the distance there the distance found.
module _ (t : Tree) (asked key : ℕ) (distance : Float) (place tried : ℕ) (says : LookupSays t asked (Ok (Found key distance place tried))) where
  pub found_place : StandsAt t.keys place key
  found_place = says.2.present

  pub found_distance : distance ≡ get_or t.distances place nan
  found_distance = says.2.its_distance

-- No lookup and no dual cell of a checked tree hands on a distance that isn't finite.
pub found_finite : (t : Tree) (asked k p n : ℕ) (d : Float) → LookupSays t asked (Ok (Found k d p n)) → finite d ≡ true
found_finite = tree.found_finite

pub dual_finite : (t : Tree) (L v n : ℕ) (keys : List ℕ) (distances : List Float) (places : List ℕ) → DualSays t L v keys distances places (Ok n)
    → (i : ℕ) → i < 8 → finite (get_or distances i nan) ≡ true
dual_finite = dual.dual_finite

-- At most 21 keys are tried.
pub tried_most : (t : Tree) (asked : ℕ) (r : Result Lookup Refusal) → LookupSays t asked r → tried_in r ≤ 21
tried_most = finding.tried_most

-- ---- of a sound tree, those that trust it answer as those that check it

pub trusting_is_look_up : (t : Tree) → Sound t → (asked : ℕ) (a : Result Lookup Refusal) → LookupSays t asked a → a ≡ trusting_of (nodes t) t.distances asked
trusting_is_look_up = tree.trusting_is_look_up

pub list_same : (t : Tree) (start : ℕ) (was : Lists) → Sound t → (o p : Lists × Result ℕ Refusal)
    → ListTrustingSays (nodes t) start was o.0 o.1 → ListSays t start was p.0 p.1 → o ≡ p
list_same = vertices.list_same

pub trusting_is_dual_cell : (t : Tree) → Sound t → (L v : ℕ) → v < 2 ^ 64 → (r s : Dual)
    → DualSays t L v r.keys r.distances r.places r.tried → DualTrustingSays (nodes t) t.distances L v s.keys s.distances s.places s.tried → r ≡ s
trusting_is_dual_cell = dual.trusting_is_dual_cell

pub trusting_is_slabs : (t : Tree) → Sound t → (L v s : ℕ) → v < 2 ^ 64 → (q r : Result Reach Refusal)
    → SlabsSays t L v s q → SlabsTrustingSays (nodes t) L v s r → q ≡ r
trusting_is_slabs = one-slabs.trusting_is_slabs

-- A first child's place has 16 bits.
pub trusting_is_lifetimes : (t : Tree) (s : ℕ) (was : Reports) → Sound t → ((i : ℕ) → i < length t.firsts → get_or t.firsts i 0 < 2 ^ 16)
    → (o p : Reports × Result ℕ Refusal) → LifetimesSays t s was o.0 o.1 → LifetimesTrustingSays (nodes t) s was p.0 p.1 → o ≡ p
trusting_is_lifetimes = one-lifetimes.trusting_is_lifetimes

-- The places that are handed out with a vertex are those of its dual cell: on any tables `dual_cell_trusting` accepts it, and hands back the same eight.
pub cells_right : (ks : Nodes) (from : ℕ) (was left : Cells) (n : ℕ) → CellsSays ks from was left n → (j : ℕ) → j < n → (ds : List Float)
    → (keys : List ℕ) × (distances : List Float) × (m : ℕ)
    × DualTrustingSays ks ds (get_or left.levels j 0) (get_or left.vertices j 0) keys distances (places_at j left.places) (Ok m)
cells_right = batches.of_each_call

-- ---- first children

-- The keys of a sound tree settle them.
pub firsts_one : (t u : Tree) → Sound t → Sound u → t.keys ≡ u.keys → t.firsts ≡ u.firsts
firsts_one = tree.firsts_one

-- A sound tree has no more nodes than numbers of 16 bits can lead to.
pub sound_few : (t : Tree) → Sound t → ((i : ℕ) → i < length t.firsts → get_or t.firsts i 0 < 2 ^ 16) → length t.keys ≤ 65537
sound_few = down.sound_few

-- Of any tables at all, forged ones too: a list goes through at most 64 cells for each eight keys below the root, and one;
pub steps_linear : (ks : Nodes) → visited limit ks 0 1 ≤ 64 * ((length ks.keys - 1) / 8) + 1
steps_linear = linear.steps_linear

-- it has at most 19 vertices for each;
pub vertices_linear : (ks : Nodes) → length (spots_of ks) ≤ 19 * ((length ks.keys - 1) / 8)
unfolding most_of
vertices_linear = linear.vertices_linear

-- what a lookup finds stands at a place inside the keys, and not where the root does, or key and place are 0;
pub look_up_inside : (ks : Nodes) (ds : List Float) (k : ℕ)
    → ((key_in (trusting_of ks ds k) ≡ 0) × (place_in (trusting_of ks ds k) ≡ 0)) ⊎ ((0 < place_in (trusting_of ks ds k)) × (place_in (trusting_of ks ds k) < length ks.keys))
look_up_inside = filling.look_up_inside

-- so it is with each entry of a dual cell;
pub dual_inside : (ks : Nodes) (ds : List Float) (L v : ℕ) (keys : List ℕ) (distances : List Float) (places : List ℕ) (a : Result ℕ Refusal)
    → DualTrustingSays ks ds L v keys distances places a
    → (i : ℕ) → i < 8 → ((get_or keys i 0 ≡ 0) × (get_or places i 0 ≡ 0)) ⊎ ((0 < get_or places i 0) × (get_or places i 0 < length ks.keys))
dual_inside = filling.dual_inside

-- and a place that is handed out with a vertex lies inside or is 0.
pub places_inside : (ks : Nodes) (from : ℕ) (was left : Cells) (n : ℕ) → CellsSays ks from was left n → (i : ℕ) → i < 8 * n
    → (get_or left.places i 0 ≡ 0) ⊎ (get_or left.places i 0 < length ks.keys)
places_inside = batches.places_inside

-- ---- a host that is handed vertices some at a time

-- It begins with 0, goes on with the last vertex + 1, a number of 64 bits, and is done when fewer came than have room: of any tables at all it then has each vertex once.
pub number_fits : (ks : Nodes) (calls from : ℕ) (got : Cells) → Batches ks calls from got → from < 2 ^ 64
number_fits ks calls from got b = (batches.of_full_batches ks calls from got b).fits

pub batches_all : (ks : Nodes) (calls : ℕ) (got : Cells) → Done ks calls got → got ≡ cells_of (vertices_of (spots_of ks)) (levels_of (spots_of ks)) (places_of ks (spots_of ks))
batches_all ks calls got d = (batches.of_all_batches ks calls got d).all

pub batches_end : (ks : Nodes) (calls : ℕ) (got : Cells) → Done ks calls got → calls ≤ length got.vertices + 1
batches_end ks calls got d = (batches.of_all_batches ks calls got d).ends

-- Of a sound tree these are its list.
pub batches_listed : (t : Tree) → Sound t → (calls : ℕ) (got : Cells) → Done (nodes t) calls got → Listed t.leaves got.vertices got.levels
batches_listed t sound calls got d = (batches.of_sound_trees_in_batches t sound calls got d).listed

-- ---- the program `counts`

-- Later bytes are ignored: no more than 4,101 are ever needed.
pub later_ignored : (input : List ℕ) → line_of (take 4101 input) ≡ line_of input
later_ignored = runs.later_ignored

-- The vertices that it counts by the leaves' corners are as many as every list has.
pub listed_count : (leaves vs ls : List ℕ) → Listed leaves vs ls → length vs ≡ vertex_count leaves
listed_count = distinct.listed_count

-- ---- floats are exact

-- Of every request, half size and centre are these fractions of whole numbers.
pub half_means : (key : ℕ) → Exactly (half_of key) 1 (2 ^ (level key + 1))
half_means = asking.half_means

pub centre_means : (key axis : ℕ) → Exactly (centre_of key axis) (2 * coord (level key) key axis + 1) (2 ^ (level key + 1))
centre_means = asking.centre_means
