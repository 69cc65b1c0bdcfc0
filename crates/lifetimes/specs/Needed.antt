-- From which slab to which slab each leaf is needed, said from the cells and not from the search. Assumes nothing.
use Rattle.std.specs.Prelude.{◌≡◌, ℕ, ◌^◌, ◌<◌, ◌≤◌, Bool, ◌&&◌, ◌⊎◌, List, length, nat_le, slice_index, Float, Result, Ok, Err}
use Rattle.morton.specs.Level.{limit}
use Rattle.tree.specs.Tree.{Tree, StandsAt, In, Sound}
use Rattle.geometry.specs.Listing.{Listed}
use Rattle.vertices.specs.Listing.{written}
use Rattle.dual.specs.Dual.{DualCell}
use Rattle.slabs.specs.Heights.{reach, SlabsSays}
pub use Rattle.spans.specs.Least.{LeastOf, GreatestOf}
unfoldable pub use Rattle.spans.specs.Least.{how_many}
use Rattle.refusals.specs.declared.Refusal.{Refusal}
use Rattle.refusals.specs.declared.Refusal.TheVariants.{AboveFifteen, NotSound, ReportShort}

-- A listed cell: a vertex of the tree's list with its level.
pub record ListedCell (t : Tree) (v L : ℕ) : Type 0 where
  pub vertices : List ℕ
  pub levels : List ℕ
  pub list : Listed t.leaves vertices levels
  pub place : ℕ
  pub its_vertex : StandsAt vertices place v
  pub its_level : StandsAt levels place L

-- It has a leaf if an entry of its dual cell is that leaf.
pub record Has (t : Tree) (v L k : ℕ) : Type 0 where
  pub keys : List ℕ
  pub distances : List Float
  pub places : List ℕ
  pub tried : ℕ
  pub cell : DualCell t L v keys distances places tried
  pub entry : In k keys

-- A listed cell that has the leaf k, with its first and its last slab as `slabs` answers them.
pub record CellOf (t : Tree) (s k first last : ℕ) : Type 0 where
  pub vertex : ℕ
  pub level : ℕ
  pub listed : ListedCell t vertex level
  pub has : Has t vertex level k
  pub slabs : SlabsSays t level vertex s (reach first last)

-- A leaf's first slab is the least first slab over all listed cells that have it, its last the greatest last.
pub record SpanOf (t : Tree) (s k first last : ℕ) : Type 0 where
  pub from : LeastOf (λ x. (y : ℕ) × CellOf t s k x y) first
  pub to : GreatestOf (λ y. (x : ℕ) × CellOf t s k x y) last

-- A leaf that no listed cell has is never needed: first 1, last 0.
pub record Never (t : Tree) (s k first last : ℕ) : Type 0 where
  pub none : (x y : ℕ) → CellOf t s k x y → ⊥
  pub from : first ≡ 1
  pub to : last ≡ 0

-- For each leaf, in the order of the leaf table.
pub record Spans (t : Tree) (s : ℕ) (firsts lasts : List ℕ) : Type 0 where
  pub as_many_firsts : length firsts ≡ length t.leaves
  pub as_many_lasts : length lasts ≡ length t.leaves
  pub each : (i : ℕ) → i < length t.leaves
      → SpanOf t s (slice_index t.leaves i) (slice_index firsts i) (slice_index lasts i)
      ⊎ Never t s (slice_index t.leaves i) (slice_index firsts i) (slice_index lasts i)

-- ---- how many are needed

-- Leaf i is needed at each slab from its first to its last.
abbrev pub needed_at : List ℕ → List ℕ → ℕ → ℕ → Bool
needed_at firsts lasts slab i = nat_le (slice_index firsts i) slab && nat_le slab (slice_index lasts i)

-- How many leaves are needed at a slab.
abbrev pub count_at : List ℕ → List ℕ → ℕ → ℕ
count_at firsts lasts slab = how_many (needed_at firsts lasts slab) (length firsts)

-- For each of the 2^s slabs how many leaves are needed, and the greatest such number.
pub record Counts (s : ℕ) (firsts lasts counts : List ℕ) (most : ℕ) : Type 0 where
  pub as_many : length counts ≡ 2 ^ s
  pub each : (slab : ℕ) → slab < 2 ^ s → slice_index counts slab ≡ count_at firsts lasts slab
  pub greatest : GreatestOf (λ x. In x counts) most

-- ---- the call

-- The three report tables: first slabs, last slabs, and for each slab how many leaves are needed.
pub record Reports : Type 0 where
  pub first : List ℕ
  pub last : List ℕ
  pub needed : List ℕ

abbrev pub reports_of : List ℕ → List ℕ → List ℕ → Reports
reports_of first last needed = record { first = first; last = last; needed = needed }

-- There is a place for each of m leaves, and for each of 2^s slabs.
pub record Room (m s : ℕ) (was : Reports) : Type 0 where
  pub first : m ≤ length was.first
  pub last : m ≤ length was.last
  pub needed : 2 ^ s ≤ length was.needed

-- The report stands in the first places; those beyond stay.
abbrev pub stands : Reports → List ℕ → List ℕ → List ℕ → Reports
stands was firsts lasts counts = reports_of (written was.first 0 firsts) (written was.last 0 lasts) (written was.needed 0 counts)

pub record Reported (t : Tree) (s : ℕ) (was left : Reports) (most : ℕ) : Type 0 where
  pub firsts : List ℕ
  pub lasts : List ℕ
  pub counts : List ℕ
  pub spans : Spans t s firsts lasts
  pub needed : Counts s firsts lasts counts most
  pub left_is : left ≡ stands was firsts lasts counts

-- Refusals 11, 5, 17.
abbrev pub LifetimesSays : Tree → ℕ → Reports → Reports → Result ℕ Refusal → Type 0
LifetimesSays t s was left (Ok most) = Sound t × (s ≤ limit) × Room (length t.leaves) s was × Reported t s was left most
LifetimesSays t s was left (Err e) =
    (left ≡ was)
    × (((Sound t → ⊥) × (e ≡ NotSound))
    ⊎ ((Sound t × (limit < s) × (e ≡ AboveFifteen))
    ⊎ (Sound t × (s ≤ limit) × (Room (length t.leaves) s was → ⊥) × (e ≡ ReportShort))))
