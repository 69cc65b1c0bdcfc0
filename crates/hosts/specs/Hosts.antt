-- What holds for a host behind the C boundary: all that the demands say of builds and of finished ones. proofs/Hosts.antt proves each of these.
use Rattle.std.specs.Prelude.{ℕ, ◌+◌, ◌≤◌, ◌<◌, ◌≡◌, false, List, ◌∷◌, length, get_or, Float, Ok}
use Rattle.std.specs.Float.Ieee.Scale.{finite}
use Rattle.slabs.specs.Heights.{reach}
use Rattle.build.specs.declared.Request.{Request}
use Rattle.build.specs.declared.State.{State}
use Rattle.build.specs.Build.{number_of, Tables, finest, node_room, lengths_of, request_of, refusal_of, split_of}
use Rattle.tree.specs.Tree.{Tree, AllFinite, Sound}
use Rattle.vertices.specs.Listing.{Lists}
use Rattle.dual.specs.declared.Dual.{Dual}
use Rattle.demands.specs.Run.{Run}
use Rattle.demands.specs.Demands.{AfterEveryDistance}
use Rattle.demands.specs.Reading.{ListsCorners, LeafCell, part, Reading}
use Rattle.demands.specs.Slabs.{HasVertex}
use Rattle.mittenhelm_builds.specs.Words.{state_of, words_of, reply, start_replies, Effect, effect, distance_effect}
use Rattle.mittenhelm_builds.specs.Header.{word, Told}
use Rattle.mittenhelm_reading.specs.Reading.{Eight, HandsList, HandsDual}
use Rattle.mittenhelm_slabs.specs.Spans.{Span, HandsSlabs}
use Rattle.hosts.specs.HostRun.{Host, HostRun, tree_in}

-- ---- a host's build is a build, and each build is in reach of every host

abbrev pub IsABuild : Type 0
IsABuild =
    (host : Host) (bound : ℕ) (lent : Tables) (given : List Float) (words : List ℕ) (t : Tables)
    → HostRun host bound lent given words t → Run bound lent given (state_of words) t

abbrev pub InReach : Type 0
InReach =
    (host : Host) → length host.words ≡ 9
    → (bound : ℕ) (lent : Tables) (given : List Float) (s : State) (t : Tables)
    → Run bound lent given s t → HostRun host bound lent given (words_of s) t

-- ---- so the demands hold

-- What a call for a distance returns.
abbrev pub returned : List ℕ → Float → Tables → Request → ℕ
returned words d t places = (distance_effect words d t places).said.number

-- What holds after every accepted distance, and at the start.
pub record AfterEveryCall (bound : ℕ) (lent : Tables) (given : List Float) (words : List ℕ) (t : Tables) : Type 0 where
  -- All that holds of a build holds of the state in the words. They are nine, in the places of the header:
  pub after : AfterEveryDistance bound lent given (state_of words) t
  pub nine : length words ≡ 9
  pub told : Told words (state_of words)
  -- the bound of the start,
  pub word_0 : word words 0 ≡ bound
  -- a node for each accepted distance, and so many leaves,
  pub word_1 : word words 1 ≡ length given
  pub word_2 : word words 2 ≡ length (tree_in words t).leaves
  -- 0 exactly where the build is finished, so that every further distance is refused with 9,
  pub word_3_ends : word words 3 ≡ 0 → (d : Float) (places : Request) → returned words d t places ≡ 9
  pub word_3_asks : (d : Float) (places : Request) → returned words d t places ≡ 9 → word words 3 ≡ 0
  -- and the lengths that the tables had at the start.
  pub word_4 : word words 4 ≡ length lent.keys
  pub word_5 : word words 5 ≡ length lent.distances
  pub word_6 : word words 6 ≡ length lent.firsts
  pub word_7 : word words 7 ≡ length lent.leaves
  pub word_8 : word words 8 ≡ length lent.queue
  -- 10 is never returned, whatever distance is given next.
  pub never_10 : (d : Float) (places : Request) → returned words d t places ≡ 10 → ⊥
  -- While a cell is asked for, 16 is returned for an infinite or NaN distance, full tables or not, and for no finite one.
  pub broken_16 : (word words 3 ≡ 0 → ⊥) → (d : Float) (places : Request) → finite d ≡ false → returned words d t places ≡ 16
  pub only_16 : (d : Float) (places : Request) → returned words d t places ≡ 16 → finite d ≡ false

abbrev pub HostsBuilding : Type 0
HostsBuilding =
    (host : Host) (bound : ℕ) (lent : Tables) (given : List Float) (words : List ℕ) (t : Tables)
    → HostRun host bound lent given words t → AfterEveryCall bound lent given words t

-- Bound 2 is finished by any 73 finite distances, in a queue of 64.
abbrev pub HostsQueueOf64 : Type 0
HostsQueueOf64 =
    (host : Host) (bound : ℕ) (lent : Tables) (given : List Float) → length host.words ≡ 9
    → bound ≤ 2 → 73 ≤ node_room (lengths_of lent) → 64 ≤ length lent.leaves → 64 ≤ length lent.queue
    → length given ≡ 73 → AllFinite given
    → (words : List ℕ) × (t : Tables) × HostRun host bound lent given words t × (word words 3 ≡ 0)

-- What is handed over as eight keys, eight distances, eight places and the number tried.
abbrev pub dual_in : Eight → Dual
dual_in out = record { keys = out.keys; distances = out.distances; places = out.places; tried = Ok out.tried }

-- What a host reads from a tree: `HandsList`, `HandsDual` and `HandsSlabs` are what the exported calls promise.
pub record HostsReading (D : ℕ) (tree : Tree) : Type 0 where
  -- A list for which 0 is returned has the leaf corners strictly inside the cube; else 12 is returned.
  pub list : (start count was : ℕ) (before left : Lists) → HandsList tree start before left was 0 count
      → ListsCorners tree.leaves (part start count left.vertices) (part start count left.levels)
  pub room : (start count was k : ℕ) (before left : Lists) → HandsList tree start before left was k count → (k ≡ 0 → ⊥) → k ≡ 12
  -- For the dual cell of each listed vertex 0 is returned, and entry i is the one leaf that holds the finest cell on side i, with its distance and
  -- place.
  pub dual : (start count was : ℕ) (before left : Lists) → HandsList tree start before left was 0 count
      → (j k : ℕ) → j < count → (then out : Eight)
      → HandsDual tree (get_or left.levels (start + j) 0) (get_or left.vertices (start + j) 0) then k out
      → (k ≡ 0) × LeafCell D tree (get_or left.vertices (start + j) 0) (dual_in out)
  -- So it is with the slabs of that cell, for an exponent of 15 at most, and the vertex itself lies in one of them.
  pub slabs : (start count was : ℕ) (before left : Lists) → HandsList tree start before left was 0 count
      → (j k s : ℕ) → j < count → s ≤ 15 → (then out : Span)
      → HandsSlabs tree (get_or left.levels (start + j) 0) (get_or left.vertices (start + j) 0) s then k out
      → (k ≡ 0) × HasVertex s (get_or left.vertices (start + j) 0) (reach out.first out.last)

-- Of a finished build the first n keys, distances and first children and the first m leaves are a sound tree, and are read right.
abbrev pub HostsFinished : Type 0
HostsFinished =
    (host : Host) (bound : ℕ) (lent : Tables) (given : List Float) (words : List ℕ) (t : Tables)
    → HostRun host bound lent given words t → word words 3 ≡ 0
    → Sound (tree_in words t) × Reading (finest bound) (tree_in words t) × HostsReading (finest bound) (tree_in words t)

-- ---- what is returned

-- 5 for a bound above 15, then 10 where other than nine words have no room for a state; else 0, for an accepted start.
abbrev pub StartReturns : Type 0
StartReturns =
    (bound : ℕ) (t : Tables) (words : List ℕ) (places : Request)
    → (15 < bound → (start_replies bound t words places).number ≡ 5)
    × (bound ≤ 15 → (length words ≡ 9 → ⊥) → (start_replies bound t words places).number ≡ 10)
    × (bound ≤ 15 → length words ≡ 9 → (start_replies bound t words places).number ≡ 0)

-- 10 where other than nine words hold no state; else the build's number for no, 0 for an accepted distance.
abbrev pub DistanceReturns : Type 0
DistanceReturns =
    (words : List ℕ) (d : Float) (t : Tables) (places : Request)
    → ((length words ≡ 9 → ⊥) → returned words d t places ≡ 10)
    × (length words ≡ 9 → returned words d t places ≡ number_of (refusal_of (state_of words) (split_of (state_of words) d) d t))

-- ---- what stands in a host's places

-- A refused call, one that returns other than 0, changes no word, no place of the request and no table, whatever they hold.
abbrev pub RefusedStart : Type 0
RefusedStart =
    (bound k : ℕ) (t : Tables) (words words' : List ℕ) (places request : Request)
    → start_replies bound t words places ≡ reply k words' request → (k ≡ 0 → ⊥)
    → (words' ≡ words) × (request ≡ places)

abbrev pub RefusedDistance : Type 0
RefusedDistance =
    (k : ℕ) (d : Float) (t t' : Tables) (words words' : List ℕ) (places request : Request)
    → distance_effect words d t places ≡ effect (reply k words' request) t' → (k ≡ 0 → ⊥)
    → (words' ≡ words) × (request ≡ places) × (t' ≡ t)

-- An accepted call asks for the key in word 3 by its request; where that is 0, the request's places stay as they were.
pub record Requests (words : List ℕ) (places request : Request) : Type 0 where
  pub asks : (word words 3 ≡ 0 → ⊥) → request ≡ request_of (word words 3)
  pub ends : word words 3 ≡ 0 → request ≡ places

abbrev pub StartRequests : Type 0
StartRequests =
    (bound : ℕ) (t : Tables) (words words' : List ℕ) (places request : Request)
    → start_replies bound t words places ≡ reply 0 words' request → Requests words' places request

abbrev pub DistanceRequests : Type 0
DistanceRequests =
    (host : Host) (bound : ℕ) (lent : Tables) (given : List Float) (words words' : List ℕ) (d : Float) (t t' : Tables) (places request : Request)
    → HostRun host bound lent given words t
    → distance_effect words d t places ≡ effect (reply 0 words' request) t' → Requests words' places request

-- ---- "a copy of all six can be brought back later, anywhere"

-- Two calls return the same number, leave the same words and tables, and make the same request where one is made.
pub record Alike (a b : Effect) : Type 0 where
  pub number : a.said.number ≡ b.said.number
  pub words : a.said.words ≡ b.said.words
  pub tables : a.tables ≡ b.tables
  pub request : a.said.number ≡ 0 → (word a.said.words 3 ≡ 0 → ⊥) → a.said.request ≡ b.said.request

-- Later: words and tables alone settle what a distance does, whatever the request's places then hold,
abbrev pub BroughtBackLater : Type 0
BroughtBackLater =
    (words : List ℕ) (d : Float) (t : Tables) (before later : Request) → Alike (distance_effect words d t before) (distance_effect words d t later)

-- and so the build goes on as before.
abbrev pub GoesOnAsBefore : Type 0
GoesOnAsBefore =
    (host : Host) (bound : ℕ) (lent : Tables) (given : List Float) (words words' : List ℕ) (d : Float) (t t' : Tables) (later request : Request)
    → HostRun host bound lent given words t
    → distance_effect words d t later ≡ effect (reply 0 words' request) t' → HostRun host bound lent (d ∷ given) words' t'

-- Anywhere: words and tables are as well a build of any other host, so all the above holds of them there.
abbrev pub BroughtBackAnywhere : Type 0
BroughtBackAnywhere =
    (host other : Host) → length other.words ≡ 9
    → (bound : ℕ) (lent : Tables) (given : List Float) (words : List ℕ) (t : Tables)
    → HostRun host bound lent given words t → HostRun other bound lent given words t
