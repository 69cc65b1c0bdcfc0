-- What the steps of the call promise. Both tables, one after the other, are its memory: place p has a word of the node there, with the highest slab so far in its lower
-- half, and what the lowest is less than 32,767 in its upper half. After the words come the nodes' slabs, one for each four siblings. Assumes nothing.
use Rattle.std.specs.Prelude.{ℕ, ◌+◌, ◌-◌, ◌*◌, ◌/◌, ◌%◌, ◌≤◌, ◌<◌, min, max, ◌≡◌, ◌⊎◌, List, [], ◌++◌, length, get_or}
use Rattle.tree.specs.Down.{Nodes}
use Rattle.spans.specs.Trusted.{nodes_in, leaves_of, number_of, LeafAt, Beside, slab_of_place}

abbrev pub upper : ℕ → ℕ
upper x = x / 65536

abbrev pub lower : ℕ → ℕ
lower x = x % 65536

-- Both halves have 15 bits.
pub record Small (x : ℕ) : Type 0 where
  pub low : lower x < 32768
  pub high : upper x < 32768

-- Each half of r is the greater of the two.
pub record Raised (a b r : ℕ) : Type 0 where
  pub low : lower r ≡ max (lower a) (lower b)
  pub high : upper r ≡ max (upper a) (upper b)

-- The slab that is taken down for the node at place p.
abbrev pub own : ℕ → List ℕ → ℕ → ℕ
own nodes last p = get_or last (nodes - length last + (p + 3) / 4) 0

-- The slabs are taken down behind the words; nothing else is written.
pub record SlabsPut (n : Nodes) (s nodes : ℕ) (last last' : List ℕ) : Type 0 where
  pub as_long : length last' ≡ length last
  pub before : (i : ℕ) → i < nodes - length last → get_or last' i 0 ≡ get_or last i 0
  pub each : (p : ℕ) → p < nodes → own nodes last' p ≡ slab_of_place n s p

abbrev pub SmallSlabs : ℕ → List ℕ → Type 0
SmallSlabs nodes last = (p : ℕ) → p < nodes → own nodes last p < 32768

-- The tables are as long as there are leaves, and all numbers in them are small.
pub record Ready (nodes : ℕ) (first last : List ℕ) : Type 0 where
  pub first_long : length first ≡ leaves_of nodes
  pub last_long : length last ≡ leaves_of nodes
  pub words : (p : ℕ) → p < nodes → Small (get_or (first ++ last) p 0)
  pub slabs : SmallSlabs nodes last

-- The greatest number of a kind so far, or 0.
pub record GreatestYet (Kind : ℕ → Type 0) (x : ℕ) : Type 0 where
  pub all : (y : ℕ) → Kind y → y ≤ x
  pub one : (x ≡ 0) ⊎ Kind x

-- How far below 32,767.
abbrev pub down : (ℕ → ℕ) → ℕ → ℕ
down height p = 32767 - height p

-- One of the nodes at n places of a table has this height.
pub record Meets (height : ℕ → ℕ) (places : List ℕ) (from n y : ℕ) : Type 0 where
  pub o : ℕ
  pub o_inside : o < n
  pub there : height (get_or places (from + o) 0) ≡ y

-- From which slab to which they lie.
pub record Reach (height : ℕ → ℕ) (places : List ℕ) (from n reach : ℕ) : Type 0 where
  pub small : Small reach
  pub highest : GreatestYet (Meets height places from n) (lower reach)
  pub lowest : GreatestYet (Meets (down height) places from n) (upper reach)

-- One word is raised, and no other.
pub record RaiseSays (p reach : ℕ) (first last first' last' : List ℕ) : Type 0 where
  pub first_long : length first' ≡ length first
  pub last_long : length last' ≡ length last
  pub here : Raised (get_or (first ++ last) p 0) reach (get_or (first' ++ last') p 0)
  pub others : (j : ℕ) → (j ≡ p → ⊥) → get_or (first' ++ last') j 0 ≡ get_or (first ++ last) j 0

-- One of the first n nodes of a cell stands at place p.
pub record Entry (places : List ℕ) (at n p : ℕ) : Type 0 where
  pub o : ℕ
  pub o_inside : o < n
  pub here : get_or places (8 * at + o) 0 ≡ p

-- The words of the first n nodes of a cell are raised, and no others.
pub record AllRaised (places : List ℕ) (at n reach : ℕ) (first last first' last' : List ℕ) : Type 0 where
  pub first_long : length first' ≡ length first
  pub last_long : length last' ≡ length last
  pub each : (p : ℕ)
      → (Entry places at n p × Raised (get_or (first ++ last) p 0) reach (get_or (first' ++ last') p 0))
      ⊎ ((Entry places at n p → ⊥) × (get_or (first' ++ last') p 0 ≡ get_or (first ++ last) p 0))

-- All places lie among so many nodes.
abbrev pub Inside : ℕ → List ℕ → Type 0
Inside nodes places = (e : ℕ) → e < length places → get_or places e 0 < nodes

-- A node's word tells of the cells in a table of places.
pub record Reached (height : ℕ → ℕ) (places : List ℕ) (p word : ℕ) : Type 0 where
  pub highest : GreatestYet (Beside height places p) (lower word)
  pub lowest : GreatestYet (Beside (down height) places p) (upper word)

pub record Spanned (nodes : ℕ) (height : ℕ → ℕ) (places first last : List ℕ) : Type 0 where
  pub owned : (p : ℕ) → p < nodes → own nodes last p ≡ height p
  pub each : (p : ℕ) → p < nodes → Reached height places p (get_or (first ++ last) p 0)

-- Some cells more are gone over.
pub record Widens (nodes : ℕ) (more first last first' last' : List ℕ) : Type 0 where
  pub ready : Ready nodes first' last'
  pub spans : (height : ℕ → ℕ) (places : List ℕ) (cells : ℕ) → length places ≡ 8 * cells → Spanned nodes height places first last
      → Spanned nodes height (places ++ more) first' last'

-- Before any cell.
pub record Prepared (n : Nodes) (s : ℕ) (first last : List ℕ) : Type 0 where
  pub ready : Ready (nodes_in n) first last
  pub spans : Spanned (nodes_in n) (slab_of_place n s) [] first last

-- The word of the next leaf is taken over, if it is one and there is a place for it.
abbrev pub Takes : List ℕ → ℕ → ℕ → ℕ → List ℕ → ℕ → Type 0
Takes first number word child first' r =
    (length first' ≡ length first)
    × ((j : ℕ) → (j ≡ number → ⊥) → get_or first' j 0 ≡ get_or first j 0)
    × (number < length first → get_or first' number 0 ≡ word)
    × (((child ≡ 0) × (number < length first) × (r ≡ number + 1)) ⊎ (((child ≡ 0) × (number < length first) → ⊥) × (r ≡ number)))

-- The words of the first r leaves stand in the order of the leaves.
pub record Gathered (firsts : List ℕ) (nodes : ℕ) (memory first first' : List ℕ) (r : ℕ) : Type 0 where
  pub as_long : length first' ≡ length first
  pub count : r ≡ min (number_of firsts nodes) (leaves_of nodes)
  pub each : (i : ℕ) → i < r → (p : ℕ) × LeafAt firsts nodes p i × (get_or first' i 0 ≡ get_or memory p 0)

abbrev pub AllSmall : List ℕ → Type 0
AllSmall words = (i : ℕ) → i < length words → Small (get_or words i 0)

-- A word is unpacked: where the highest is below the lowest, there was no cell.
abbrev pub Unpacked : ℕ → ℕ → ℕ → Type 0
Unpacked word first last =
    ((32767 - upper word ≤ lower word) × (first ≡ 32767 - upper word) × (last ≡ lower word))
    ⊎ ((lower word < 32767 - upper word) × (first ≡ 1) × (last ≡ 0))

pub record AllUnpacked (first last first' last' : List ℕ) : Type 0 where
  pub first_long : length first' ≡ length first
  pub last_long : length last' ≡ length last
  pub each : (i : ℕ) → i < length first → Unpacked (get_or first i 0) (get_or first' i 0) (get_or last' i 0)
