-- Building, one request at a time: document 01's rules as functions. Assumes nothing.
use Rattle.std.specs.Prelude.{ℕ, zero, suc, ◌+◌, ◌-◌, ◌*◌, ◌%◌, ◌^◌, ◌≤◌, ◌<◌, min, max, ◌≡◌, Bool, true, false, cond, ◌&&◌, ◌||◌, not, List, eqb, leb, ltb, negsuc, length, get_or, set, Float, ⊤, Result, Ok, Err}
use Rattle.std.specs.Float.{fin}
use Rattle.std.specs.Float.Ieee.Scale.{finite}
use Rattle.morton.specs.Level.{limit, level, is_cell}
use Rattle.morton.specs.Field.{coord}
use Rattle.morton.specs.Split.{splits}
use Rattle.refusals.specs.declared.Refusal.{Refusal}
use Rattle.refusals.specs.Refusals.{number}
use Rattle.refusals.specs.declared.Refusal.TheVariants.{AboveFifteen, NodesFull, LeavesFull, QueueFull, NothingAsked, NotFitting, NotFinite}
use Rattle.build.specs.declared.Tables as lent
use Rattle.build.specs.declared.Lengths.{Lengths}
use Rattle.build.specs.declared.Request.{Request}
use Rattle.build.specs.declared.State.{State}
use Rattle.build.specs.declared.Answer.{Answer}
use Rattle.build.specs.declared.Answer.TheVariants.{Ask, Finished}

-- Lent: node keys, node distances, first children, leaf keys, a queue.
pub record Tables : Type 0 where
  pub keys : List ℕ
  pub distances : List Float
  pub firsts : List ℕ
  pub leaves : List ℕ
  pub queue : List ℕ

abbrev pub tables_of : List ℕ → List Float → List ℕ → List ℕ → List ℕ → Tables
tables_of keys distances firsts leaves queue =
    record { keys = keys; distances = distances; firsts = firsts; leaves = leaves; queue = queue }

-- What stands in the tables that are lent.
abbrev pub tables_in : lent.Tables → Tables
tables_in t = tables_of t.keys.now t.distances.now t.firsts.now t.leaves.now t.queue.now

-- They are the same tables, whatever stands in them.
pub record SameTables (was left : lent.Tables) : Type 0 where
  pub keys : left.keys.ghost_name ≡ was.keys.ghost_name
  pub distances : left.distances.ghost_name ≡ was.distances.ghost_name
  pub firsts : left.firsts.ghost_name ≡ was.firsts.ghost_name
  pub leaves : left.leaves.ghost_name ≡ was.leaves.ghost_name
  pub queue : left.queue.ghost_name ≡ was.queue.ghost_name

unfoldable pub lengths_of : Tables → Lengths
lengths_of t =
    record {
      keys = length t.keys;
      distances = length t.distances;
      firsts = length t.firsts;
      leaves = length t.leaves;
      queue = length t.queue;
    }

-- Node room is the shortest of the first three lengths, at most 4,096.
unfoldable pub node_room : Lengths → ℕ
node_room z = min (min (min z.keys z.distances) z.firsts) 4096

-- D is the larger of the bound and 2. The finest grid is all cells of level D.
unfoldable pub finest : ℕ → ℕ
finest bound = max bound 2

-- Item j sits at place j modulo the queue length.
unfoldable pub item_at : List ℕ → ℕ → ℕ
item_at queue j = get_or queue (j % length queue) 0

-- With n nodes and m leaves, each of the n - m split cells has given eight items.
abbrev pub items : ℕ → ℕ → ℕ
items n m = 8 * (n - m)

-- ---- a request

-- A request carries the key, the three centre coordinates, (2c + 1) / 2^(L+1) on each axis, and the half size, 1 / 2^(L+1). The number
-- `fin false n (negsuc L)` is n x 2^-(L+1): `centre_means` and `half_means` prove that these are the fractions, exactly.
unfoldable pub centre_of : ℕ → ℕ → Float
centre_of key axis = fin false (2 * coord (level key) key axis + 1) (negsuc (level key))

unfoldable pub half_of : ℕ → Float
half_of key = fin false 1 (negsuc (level key))

unfoldable pub request_of : ℕ → Request
request_of key =
    record { key = key; x = centre_of key 0; y = centre_of key 1; z = centre_of key 2; half = half_of key }

-- ---- a state fits its tables

-- The key is a cell key of level at most top.
unfoldable pub cell_to : ℕ → ℕ → Bool
cell_to top key = is_cell key && leb (level key) top

-- The lengths are those of the start.
unfoldable pub same_lengths : Lengths → Lengths → Bool
same_lengths a b =
    eqb a.keys b.keys
    && (eqb a.distances b.distances
    && (eqb a.firsts b.firsts
    && (eqb a.leaves b.leaves && eqb a.queue b.queue)))

-- The bound is at most 15; m <= n <= node room and m <= leaf room.
unfoldable pub counts_fit : State → Lengths → ℕ → Bool
counts_fit s z room =
    leb s.bound limit && (leb s.leaves s.nodes && (leb s.nodes room && leb s.leaves z.leaves))

-- Nothing is asked and 7n + 1 = 8m.
unfoldable pub idle_fits : State → Bool
idle_fits s = eqb s.asked 0 && eqb (7 * s.nodes + 1) (8 * s.leaves)

-- The asked key is a cell key of level at most D, 0 <= 7n - 8m <= queue length, and, if any waits, the key `next` at place n modulo the queue
-- length is a cell key of level at most D.
unfoldable pub busy_fits : State → ℕ → ℕ → Bool
busy_fits s next top =
    cell_to top s.asked
    && (leb (8 * s.leaves) (7 * s.nodes)
    && (leb (7 * s.nodes - 8 * s.leaves) s.lengths.queue
    && (leb (7 * s.nodes) (8 * s.leaves) || cell_to top next)))

-- All of it, where the tables have the lengths z, `next` stands at place n, the node room is `room` and D is `top`.
unfoldable pub fits_at : State → Lengths → ℕ → ℕ → ℕ → Bool
fits_at s z next room top = same_lengths s.lengths z && (counts_fit s z room && (idle_fits s || busy_fits s next top))

unfoldable pub fits : State → Tables → Bool
fits s t = fits_at s (lengths_of t) (item_at t.queue s.nodes) (node_room (lengths_of t)) (finest s.bound)

-- ---- why a call is refused, if it is

-- The call is allowed.
abbrev pub allowed : Result ⊤ Refusal
allowed = Ok tt

-- 7: unsplit and m equals leaf room. 8: split and 7n - 8m + 8 above queue length.
unfoldable pub full_of : State → Bool → Result ⊤ Refusal
full_of s split =
    cond split
    (cond (ltb s.lengths.queue (7 * s.nodes - 8 * s.leaves + 8)) (Err QueueFull) allowed)
    (cond (eqb s.leaves s.lengths.leaves) (Err LeavesFull) allowed)

-- 10, 9, 16, 6, then 7 or 8.
unfoldable pub refusal_at : State → Lengths → ℕ → Bool → Float → ℕ → ℕ → Result ⊤ Refusal
refusal_at s z next split d room top =
    cond (not (fits_at s z next room top)) (Err NotFitting)
    (cond (eqb s.asked 0) (Err NothingAsked)
    (cond (not (finite d)) (Err NotFinite)
    (cond (eqb s.nodes room) (Err NodesFull)
    (full_of s split))))

unfoldable pub refusal_of : State → Bool → Float → Tables → Result ⊤ Refusal
refusal_of s split d t =
    refusal_at s (lengths_of t) (item_at t.queue s.nodes) split d (node_room (lengths_of t)) (finest s.bound)

-- The number that is given for no, 0 where the call is allowed.
abbrev pub number_of : Result ⊤ Refusal → ℕ
number_of (Ok u) = 0
number_of (Err e) = number e

-- ---- what an accepted distance does

-- A distance d for an asked cell splits it or not.
unfoldable pub split_of : State → Float → Bool
split_of s d = splits (level s.asked) s.bound d

-- The first i children of a cell, stored as items from `item` on.
unfoldable pub children_to : ℕ → List ℕ → ℕ → ℕ → List ℕ
children_to zero queue key item = queue
children_to (suc i) queue key item = set (children_to i queue key item) ((item + i) % length queue) (8 * key + i)

-- The children of a split, 0 to 7, are queue items 8(n-m) to 8(n-m)+7.
unfoldable pub queue_of : State → Bool → Tables → List ℕ
queue_of s split t = cond split (children_to 8 t.queue s.asked (items s.nodes s.leaves)) t.queue

-- The place of the first of its eight children: with n nodes and m leaves 8(n-m)+1 at a split, 0 at a leaf.
unfoldable pub first_of : State → Bool → ℕ
first_of s split = cond split (items s.nodes s.leaves + 1) 0

-- The node goes to place n. An unsplit key goes to leaf place m.
unfoldable pub stored_of : State → Bool → Float → Tables → Tables
stored_of s split d t =
    record {
      keys = set t.keys s.nodes s.asked;
      distances = set t.distances s.nodes d;
      firsts = set t.firsts s.nodes (first_of s split);
      leaves = cond split t.leaves (set t.leaves s.leaves s.asked);
      queue = queue_of s split t;
    }

unfoldable pub leaves_of : State → Bool → ℕ
leaves_of s split = cond split s.leaves (s.leaves + 1)

-- One node more, m leaves, and key asked, 0 where none is.
unfoldable pub moved_of : State → ℕ → ℕ → State
moved_of s m key =
    record { bound = s.bound; nodes = s.nodes + 1; leaves = m; asked = key; lengths = s.lengths }

-- Item n is asked next if any waits; otherwise the build is finished.
unfoldable pub advance_of : State → ℕ → List ℕ → Answer
advance_of s m queue =
    cond (ltb s.nodes (items (s.nodes + 1) m))
    (Ask (request_of (item_at queue s.nodes)) (moved_of s m (item_at queue s.nodes)))
    (Finished (moved_of s m 0))

-- ---- the calls

-- What a call answers, and the tables as it leaves them.
pub record Outcome : Type 0 where
  pub answer : Result Answer Refusal
  pub tables : Tables

abbrev pub outcome : Result Answer Refusal → Tables → Outcome
outcome a t = record { answer = a; tables = t }

unfoldable pub accept_of : State → Bool → Float → Tables → Outcome
accept_of s split d t =
    outcome (Ok (advance_of s (leaves_of s split) (queue_of s split t))) (stored_of s split d t)

-- What is done where the call is allowed, else nothing.
abbrev pub unless_refused : Result ⊤ Refusal → Outcome → Tables → Outcome
unless_refused (Ok u) done t = done
unless_refused (Err e) done t = outcome (Err e) t

-- The asked cell is split or not; a refused call changes nothing.
unfoldable pub decide_of : State → Bool → Float → Tables → Outcome
decide_of s split d t = unless_refused (refusal_of s split d t) (accept_of s split d t) t

unfoldable pub distance_of : State → Float → Tables → Outcome
distance_of s d t = decide_of s (split_of s d) d t

-- A start takes a depth bound 0 to 15, else 5. The root is asked for first.
unfoldable pub start_at : ℕ → Lengths → Result Answer Refusal
start_at bound z =
    cond (ltb limit bound) (Err AboveFifteen)
    (Ok (Ask (request_of 1) (record { bound = bound; nodes = 0; leaves = 0; asked = 1; lengths = z })))

-- Of the tables nothing but their lengths is read.
unfoldable pub start_of : ℕ → Tables → Result Answer Refusal
start_of bound t = start_at bound (lengths_of t)

-- ---- for the private steps

-- What an accepted call stands on.
pub record Ready (s : State) (split : Bool) (t : Tables) : Type 0 where
  pub key_room : s.nodes < length t.keys
  pub distance_room : s.nodes < length t.distances
  pub first_room : s.nodes < length t.firsts
  pub small : s.nodes < 4096
  pub few : s.leaves ≤ s.nodes
  pub key : s.asked < 2 ^ 61
  pub leaf_room : split ≡ false → s.leaves < length t.leaves
  pub ring_room : split ≡ true → 8 ≤ length t.queue
