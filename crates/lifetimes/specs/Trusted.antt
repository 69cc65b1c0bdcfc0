-- The same on any tables at all, where no tree need be sound. Assumes nothing.
use Rattle.std.specs.Prelude.{◌≡◌, ℕ, ◌/◌, ◌<◌, ◌≤◌, ◌⊎◌, List, length, slice_index, Result, Ok, Err}
use Rattle.morton.specs.Level.{limit}
use Rattle.tree.specs.Down.{Nodes}
use Rattle.vertices.specs.Walk.{spots_of}
use Rattle.vertices.specs.Cells.{places_of}
use Rattle.slabs.specs.Heights.{slab_of}
pub use Rattle.spans.specs.Trusted.{nodes_in, leaves_of, childless, number_of, LeafAt}
use Rattle.refusals.specs.declared.Refusal.{Refusal}
use Rattle.refusals.specs.declared.Refusal.TheVariants.{AboveFifteen, ReportShort}
use Rattle.lifetimes.specs.Needed.{LeastOf, GreatestOf, Counts, Reports, Room, stands}

-- In a table with the eight places of cell after cell: a cell has leaf i, and has a leaf whose slab is y. Entry e is of cell e / 8.
pub record Beside (firsts : List ℕ) (nodes : ℕ) (slab : ℕ → ℕ) (places : List ℕ) (i y : ℕ) : Type 0 where
  pub e : ℕ
  pub f : ℕ
  pub e_inside : e < length places
  pub f_inside : f < length places
  pub one_cell : e / 8 ≡ f / 8
  pub here : LeafAt firsts nodes (slice_index places e) i
  pub other : ℕ
  pub there : LeafAt firsts nodes (slice_index places f) other
  pub slab_is : slab (slice_index places f) ≡ y

-- The slabs of the leaves that share a cell with leaf i, over the cells of all vertices that the walk finds; of a node, the slab of the key that stands at its place.
abbrev pub Sharing : Nodes → ℕ → ℕ → ℕ → Type 0
Sharing n s i y = Beside n.firsts (nodes_in n) (λ p. slab_of s (slice_index n.keys p)) (places_of n (spots_of n)) i y

-- Its first slab is the least of those, its last the greatest.
pub record Shared (n : Nodes) (s i first last : ℕ) : Type 0 where
  pub from : LeastOf (Sharing n s i) first
  pub to : GreatestOf (Sharing n s i) last

-- No cell has leaf i.
pub record Alone (n : Nodes) (s i first last : ℕ) : Type 0 where
  pub none : (y : ℕ) → Sharing n s i y → ⊥
  pub from : first ≡ 1
  pub to : last ≡ 0

pub record TrustedSpans (n : Nodes) (s : ℕ) (firsts lasts : List ℕ) : Type 0 where
  pub as_many_firsts : length firsts ≡ leaves_of (nodes_in n)
  pub as_many_lasts : length lasts ≡ leaves_of (nodes_in n)
  pub each : (i : ℕ) → i < leaves_of (nodes_in n)
      → Shared n s i (slice_index firsts i) (slice_index lasts i) ⊎ Alone n s i (slice_index firsts i) (slice_index lasts i)

pub record TrustedReport (n : Nodes) (s : ℕ) (was left : Reports) (most : ℕ) : Type 0 where
  pub firsts : List ℕ
  pub lasts : List ℕ
  pub counts : List ℕ
  pub spans : TrustedSpans n s firsts lasts
  pub needed : Counts s firsts lasts counts most
  pub left_is : left ≡ stands was firsts lasts counts

-- Refusals 5, 17.
abbrev pub TrustingSays : Nodes → ℕ → Reports → Reports → Result ℕ Refusal → Type 0
TrustingSays n s was left (Ok most) = (s ≤ limit) × Room (leaves_of (nodes_in n)) s was × TrustedReport n s was left most
TrustingSays n s was left (Err e) =
    (left ≡ was) × (((limit < s) × (e ≡ AboveFifteen)) ⊎ ((s ≤ limit) × (Room (leaves_of (nodes_in n)) s was → ⊥) × (e ≡ ReportShort)))
