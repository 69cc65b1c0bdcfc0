-- What the steps of the call promise. While the cells are gone over, place i of the first table holds the slab of leaf i in its upper half and the least slab so far
-- in its lower; place i of the last table holds the greatest slab so far in its lower half, and its upper one is for the leaves' numbers. Assumes nothing.
use Rattle.std.specs.Prelude.{◌≡◌, ℕ, zero, suc, ◌+◌, ◌-◌, ◌*◌, ◌/◌, ◌%◌, ◌^◌, ◌<◌, ◌≤◌, min, max, Bool, ◌&&◌, ◌⊎◌, List, [], ◌++◌, length, ◌==◌, ◌≢◌, nat_le, slice_index, slice_index_or, slice_set, Option, Some, None, ⊤}
use Rattle.tree.specs.Down.{Nodes}
use Rattle.slabs.specs.Heights.{slab_of}
use Rattle.lifetimes.specs.declared.Halves.{Halves}
use Rattle.lifetimes.specs.Needed.{how_many, count_at, Counts}
use Rattle.lifetimes.specs.Trusted.{nodes_in, leaves_of, number_of, LeafAt, Beside, TrustedSpans}

abbrev pub upper : ℕ → ℕ
upper x = x / 65536

abbrev pub lower : ℕ → ℕ
lower x = x % 65536

-- v is x, if that is less than m; else v isn't either.
abbrev pub Upto : ℕ → ℕ → ℕ → Type 0
Upto m x v = ((x < m) × (v ≡ x)) ⊎ ((m ≤ x) × (m ≤ v))

-- The place in the last table that holds the number of the leaf at place p. Places 8j + 7 and 8j + 8 share one: there is one place fewer for each eight.
abbrev pub slot_of : ℕ → ℕ
slot_of p = p - p / 8

-- What is to be taken from what stands there: a leaf at 8j + 7 comes just before the one at 8j + 8.
abbrev pub early : ℕ → ℕ
early p = p % 8 / 7

pub record Numbering (firsts : List ℕ) (nodes p x : ℕ) : Type 0 where
  pub number : ℕ
  pub stored : upper x ≡ number + early p
  pub right : Upto (leaves_of nodes) (number_of firsts p) number

abbrev pub Numbered : List ℕ → ℕ → List ℕ → Type 0
Numbered firsts nodes last = (p : ℕ) → p < nodes → slice_index firsts p ≡ 0 → Numbering firsts nodes p (slice_index last (slot_of p))

-- The tables are as long as there are leaves, and tell their numbers.
pub record Ready (firsts : List ℕ) (nodes : ℕ) (first last : List ℕ) : Type 0 where
  pub first_long : length first ≡ leaves_of nodes
  pub last_long : length last ≡ leaves_of nodes
  pub numbered : Numbered firsts nodes last

-- The next leaf's slab is taken down, with no least slab so far. Past the last place nothing is.
pub record PutLeaf (first : List ℕ) (number slab : ℕ) (first' : List ℕ) (r : ℕ) : Type 0 where
  pub table : first' ≡ slice_set first number (65536 * slab + 65535)
  pub next : r ≡ min (number + 1) (length first + 1)

-- The number of the leaf at place p, if there is one.
abbrev pub Finds : List ℕ → ℕ → ℕ → Option ℕ → Type 0
Finds firsts nodes p (Some i) = LeafAt firsts nodes p i
Finds firsts nodes p None = (i : ℕ) → LeafAt firsts nodes p i → ⊥

-- x stands so to all numbers of a kind, and is one of them or as at the start.
pub record Edge (so : ℕ → ℕ → Type 0) (start : ℕ) (Kind : ℕ → Type 0) (x : ℕ) : Type 0 where
  pub all : (y : ℕ) → Kind y → so x y
  pub one : (x ≡ start) ⊎ Kind x

abbrev pub NoMore : ℕ → ℕ → Type 0
NoMore x y = x ≤ y

abbrev pub NoLess : ℕ → ℕ → Type 0
NoLess x y = y ≤ x

-- The least so far, and the greatest; no slab has the number at the start, or is less.
abbrev pub LeastYet : (ℕ → Type 0) → ℕ → Type 0
LeastYet Kind x = Edge NoMore 65535 Kind x

abbrev pub GreatestYet : (ℕ → Type 0) → ℕ → Type 0
GreatestYet Kind x = Edge NoLess 0 Kind x

-- One of the first n entries of a cell is a leaf with this slab.
pub record Meets (firsts : List ℕ) (nodes : ℕ) (first places : List ℕ) (at n y : ℕ) : Type 0 where
  pub o : ℕ
  pub o_inside : o < n
  pub leaf : ℕ
  pub here : LeafAt firsts nodes (slice_index places (8 * at + o)) leaf
  pub slab_is : upper (slice_index first leaf) ≡ y

-- The numbers of the leaves of a cell, and its least and greatest slab.
pub record MeetingSays (firsts : List ℕ) (nodes : ℕ) (first places : List ℕ) (at n : ℕ) (numbers : List (Option ℕ)) (low high : ℕ) : Type 0 where
  pub eight : length numbers ≡ 8
  pub each : (o : ℕ) → o < n → Finds firsts nodes (slice_index places (8 * at + o)) (slice_index_or numbers o None)
  pub lowest : LeastYet (Meets firsts nodes first places at n) low
  pub highest : GreatestYet (Meets firsts nodes first places at n) high
  pub low_small : low ≤ 65535
  pub high_small : high ≤ 65535

-- One of the first n numbers is i.
pub record Among (numbers : List (Option ℕ)) (n i : ℕ) : Type 0 where
  pub o : ℕ
  pub o_inside : o < n
  pub here : slice_index_or numbers o None ≡ Some i

-- Lowered to low in the lower half, raised to high: the upper halves stay.
pub record Pulled (low high a b a' b' : ℕ) : Type 0 where
  pub first_upper : upper a' ≡ upper a
  pub first_lower : lower a' ≡ min (lower a) low
  pub last_upper : upper b' ≡ upper b
  pub last_lower : lower b' ≡ max (lower b) high

-- A number, if there is one, has a place among so many.
abbrev pub Inside : ℕ → Option ℕ → Type 0
Inside many (Some i) = i < many
Inside many None = ⊤

abbrev pub PullSays : ℕ → ℕ → Option ℕ → List ℕ → List ℕ → List ℕ → List ℕ → Type 0
PullSays low high number first last first' last' =
    (length first' ≡ length first) × (length last' ≡ length last)
    × ((i : ℕ) → number ≡ Some i → Pulled low high (slice_index first i) (slice_index last i) (slice_index first' i) (slice_index last' i))
    × ((j : ℕ) → (number ≢ Some j) → (slice_index first' j ≡ slice_index first j) × (slice_index last' j ≡ slice_index last j))

-- At the first n numbers, and at no other.
pub record Widened (numbers : List (Option ℕ)) (n low high : ℕ) (first last first' last' : List ℕ) : Type 0 where
  pub first_long : length first' ≡ length first
  pub last_long : length last' ≡ length last
  pub each : (i : ℕ) → i < length first
      → (Among numbers n i × Pulled low high (slice_index first i) (slice_index last i) (slice_index first' i) (slice_index last' i))
      ⊎ ((Among numbers n i → ⊥) × (slice_index first' i ≡ slice_index first i) × (slice_index last' i ≡ slice_index last i))

-- The spans over the cells in a table of places.
pub record Spanned (firsts : List ℕ) (nodes : ℕ) (slab : ℕ → ℕ) (places first last : List ℕ) : Type 0 where
  pub owned : (p i : ℕ) → LeafAt firsts nodes p i → upper (slice_index first i) ≡ slab p
  pub least : (i : ℕ) → i < leaves_of nodes → LeastYet (Beside firsts nodes slab places i) (lower (slice_index first i))
  pub greatest : (i : ℕ) → i < leaves_of nodes → GreatestYet (Beside firsts nodes slab places i) (lower (slice_index last i))

-- Some cells more are gone over.
pub record Widens (firsts : List ℕ) (nodes : ℕ) (more first last first' last' : List ℕ) : Type 0 where
  pub ready : Ready firsts nodes first' last'
  pub spans : (slab : ℕ → ℕ) (places : List ℕ) (cells : ℕ) → length places ≡ 8 * cells → Spanned firsts nodes slab places first last
      → Spanned firsts nodes slab (places ++ more) first' last'

-- The same of the tables as the code has them: they are still for the same nodes, and lent by the same callers.
abbrev pub ReadyHalves : Halves → Type 0
ReadyHalves h = Ready h.nodes.firsts.now h.many h.first.now h.last.now

abbrev pub WidensHalves : List ℕ → Halves → Halves → Type 0
WidensHalves more was left = Widens was.nodes.firsts.now was.many more was.first.now was.last.now left.first.now left.last.now

pub record SameHalves (was left : Halves) : Type 0 where
  pub nodes : left.nodes ≡ was.nodes
  pub many : left.many ≡ was.many
  pub first : left.first.ghost_name ≡ was.first.ghost_name
  pub last : left.last.ghost_name ≡ was.last.ghost_name

-- The slab of the key that stands at a place.
abbrev pub own_slab : Nodes → ℕ → ℕ → ℕ
own_slab n s p = slab_of s (slice_index n.keys p)

-- Before any cell, and after all.
pub record Prepared (n : Nodes) (s : ℕ) (first last : List ℕ) : Type 0 where
  pub ready : Ready n.firsts (nodes_in n) first last
  pub spans : Spanned n.firsts (nodes_in n) (own_slab n s) [] first last

-- Halves are unpacked: where the last is less than the first, there was no cell.
abbrev pub Unpacked : ℕ → ℕ → ℕ → ℕ → Type 0
Unpacked a b first last = ((lower a ≤ lower b) × (first ≡ lower a) × (last ≡ lower b)) ⊎ ((lower b < lower a) × (first ≡ 1) × (last ≡ 0))

pub record AllUnpacked (first last first' last' : List ℕ) : Type 0 where
  pub first_long : length first' ≡ length first
  pub last_long : length last' ≡ length last
  pub each : (i : ℕ) → i < length first → Unpacked (slice_index first i) (slice_index last i) (slice_index first' i) (slice_index last' i)

-- Each leaf's last slab is one of n.
abbrev pub Within : List ℕ → ℕ → Type 0
Within lasts n = (i : ℕ) → i < length lasts → slice_index lasts i < n

-- The spans stand in the tables, each last slab below 2^s.
pub record SpansLeft (n : Nodes) (s : ℕ) (first last : List ℕ) : Type 0 where
  pub spans : TrustedSpans n s first last
  pub within : Within last (2 ^ s)

-- ---- counting

-- Leaf i is needed from a slab on; up to the slab before.
abbrev pub starts_at : List ℕ → List ℕ → ℕ → ℕ → Bool
starts_at firsts lasts slab i = nat_le (slice_index firsts i) (slice_index lasts i) && slice_index firsts i == slab

abbrev pub ends_at : List ℕ → List ℕ → ℕ → ℕ → Bool
ends_at firsts lasts slab i = nat_le (slice_index firsts i) (slice_index lasts i) && slice_index lasts i + 1 == slab

-- Each slab holds how many of the first m leaves start there, less those that end before it, modulo 2^32.
pub record Differs (firsts lasts : List ℕ) (m : ℕ) (counts counts' : List ℕ) : Type 0 where
  pub as_long : length counts' ≡ length counts
  pub each : (slab : ℕ) → slab < length counts
      → (slice_index counts' slab + how_many (ends_at firsts lasts slab) m) % 2 ^ 32 ≡ how_many (starts_at firsts lasts slab) m % 2 ^ 32

-- Each slab holds how many leaves are needed at it.
pub record SumsUp (firsts lasts counts counts' : List ℕ) : Type 0 where
  pub as_long : length counts' ≡ length counts
  pub each : (slab : ℕ) → slab < length counts → slice_index counts' slab ≡ count_at firsts lasts slab

-- The greatest of the first n numbers.
unfoldable pub most_in : List ℕ → ℕ → ℕ
most_in xs zero = 0
most_in xs (suc n) = max (most_in xs n) (slice_index xs n)

pub record Counted (firsts lasts counts counts' : List ℕ) (r : ℕ) : Type 0 where
  pub sums : SumsUp firsts lasts counts counts'
  pub greatest : r ≡ most_in counts' (length counts')

-- ---- all of it

pub record ReportLeft (n : Nodes) (s : ℕ) (first last needed : List ℕ) (r : ℕ) : Type 0 where
  pub spans : TrustedSpans n s first last
  pub counts : Counts s first last needed r
