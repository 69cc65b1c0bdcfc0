-- From which slab to which slab each leaf is needed, on any tables at all: no tree need be sound. Assumes nothing.
use Rattle.std.specs.Prelude.{ℕ, ◌+◌, ◌-◌, ◌*◌, ◌/◌, ◌≤◌, ◌<◌, min, ◌≡◌, Bool, ◌⊎◌, List, eqb, length, get_or, Result, Ok, Err}
use Rattle.refusals.specs.declared.Refusal.{Refusal}
use Rattle.refusals.specs.declared.Refusal.TheVariants.{AboveFifteen, ReportShort}
use Rattle.morton.specs.Level.{limit}
use Rattle.tree.specs.Down.{Nodes}
use Rattle.vertices.specs.Walk.{spots_of}
use Rattle.vertices.specs.Cells.{places_of}
use Rattle.vertices.specs.Listing.{written}
use Rattle.slabs.specs.Heights.{slab_of}
use Rattle.spans.specs.Least.{LeastOf, GreatestOf, how_many}

-- No sound tree has more nodes: the place of a first child has 16 bits.
abbrev pub nodes_in : Nodes → ℕ
nodes_in n = min (length n.keys) 65537

-- So many leaves a sound tree of so many nodes has.
abbrev pub leaves_of : ℕ → ℕ
leaves_of nodes = nodes - (nodes - 1) / 8

-- No first child stands beside the node at a place.
abbrev pub childless : List ℕ → ℕ → Bool
childless firsts p = eqb (get_or firsts p 0) 0

-- The number of a leaf, which is its place in the leaf table: how many childless nodes stand before it.
abbrev pub number_of : List ℕ → ℕ → ℕ
number_of firsts p = how_many (childless firsts) p

-- Leaf i of so many nodes stands at place p.
pub record LeafAt (firsts : List ℕ) (nodes p i : ℕ) : Type 0 where
  pub inside : p < nodes
  pub alone : get_or firsts p 0 ≡ 0
  pub number : number_of firsts p ≡ i
  pub few : i < leaves_of nodes

-- In a table with the eight places of cell after cell: a cell has the node at place p, and has one whose height is y. Entry e is of cell e / 8.
pub record Beside (height : ℕ → ℕ) (places : List ℕ) (p y : ℕ) : Type 0 where
  pub e : ℕ
  pub f : ℕ
  pub e_inside : e < length places
  pub f_inside : f < length places
  pub one_cell : e / 8 ≡ f / 8
  pub here : get_or places e 0 ≡ p
  pub there : height (get_or places f 0) ≡ y

-- Places 1 to 4, 5 to 8 and so on hold four siblings each, which lie equally high: the first of them.
abbrev pub four_of : ℕ → ℕ
four_of p = 4 * ((p + 3) / 4) - 3

-- The slab of the node at a place: that of the key that stands first of its four.
abbrev pub slab_of_place : Nodes → ℕ → ℕ → ℕ
slab_of_place n s p = slab_of s (get_or n.keys (four_of p) 0)

-- y is the slab of a node that shares a cell with leaf i, over the cells of all vertices that the walk finds.
pub record Sharing (n : Nodes) (s i y : ℕ) : Type 0 where
  pub place : ℕ
  pub leaf : LeafAt n.firsts (nodes_in n) place i
  pub beside : Beside (slab_of_place n s) (places_of n (spots_of n)) place y

-- Its first slab is the least of those, its last the greatest.
pub record Shared (n : Nodes) (s i first last : ℕ) : Type 0 where
  pub from : LeastOf (Sharing n s i) first
  pub to : GreatestOf (Sharing n s i) last

-- No cell has leaf i.
pub record Alone (n : Nodes) (s i first last : ℕ) : Type 0 where
  pub none : (y : ℕ) → Sharing n s i y → ⊥
  pub from : first ≡ 1
  pub to : last ≡ 0

pub record TrustedSpans (n : Nodes) (s : ℕ) (firsts lasts : List ℕ) : Type 0 where
  pub as_many_firsts : length firsts ≡ leaves_of (nodes_in n)
  pub as_many_lasts : length lasts ≡ leaves_of (nodes_in n)
  pub each : (i : ℕ) → i < leaves_of (nodes_in n)
      → Shared n s i (get_or firsts i 0) (get_or lasts i 0) ⊎ Alone n s i (get_or firsts i 0) (get_or lasts i 0)

-- ---- the call

-- The exponent is within the limit, and both tables have a place for each leaf.
pub record SpansFit (n : Nodes) (s : ℕ) (first last : List ℕ) : Type 0 where
  pub exponent : s ≤ limit
  pub first_room : leaves_of (nodes_in n) ≤ length first
  pub last_room : leaves_of (nodes_in n) ≤ length last

-- The spans stand in the first places; those beyond stay.
pub record SpansWritten (n : Nodes) (s : ℕ) (first last first' last' : List ℕ) : Type 0 where
  pub firsts : List ℕ
  pub lasts : List ℕ
  pub spans : TrustedSpans n s firsts lasts
  pub first_is : first' ≡ written first 0 firsts
  pub last_is : last' ≡ written last 0 lasts

-- Why there are none: the exponent is above the limit; else a table has no place for each leaf.
abbrev pub SpansRefused : Nodes → ℕ → List ℕ → List ℕ → Refusal → Type 0
SpansRefused n s first last e =
    ((e ≡ AboveFifteen) × (limit < s))
    ⊎ ((e ≡ ReportShort) × (s ≤ limit) × ((length first < leaves_of (nodes_in n)) ⊎ (length last < leaves_of (nodes_in n))))

-- The spans are written; or both tables stay, and it is said why.
abbrev pub SpansSays : Nodes → ℕ → List ℕ → List ℕ → List ℕ → List ℕ → Result (Unit {0}) Refusal → Type 0
SpansSays n s first last first' last' (Ok _) = SpansFit n s first last × SpansWritten n s first last first' last'
SpansSays n s first last first' last' (Err e) = SpansRefused n s first last e × (first' ≡ first) × (last' ≡ last)
