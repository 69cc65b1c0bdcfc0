-- The block of a cell, as the walk carries it: eight entries and a mask of those that are split. What its steps need, answer and write. Assumes nothing.
use Rattle.std.specs.Prelude.{ℕ, ◌+◌, ◌*◌, ◌-◌, ◌^◌, ◌≤◌, ◌<◌, ◌≡◌, Bool, true, false, ◌&&◌, ◌⊎◌, List, [], ◌∷◌, eqb, length, get_or, set}
use Rattle.std.specs.Int.Bits.{bit_and, bit_xor}
use Rattle.std.proofs.lemmas.List.Edits.{sets}
use Rattle.morton.specs.Field.{bit, coord, sub}
use Rattle.morton.specs.Level.{if₀}
use Rattle.tree.specs.Down.{Nodes, first_at, steps}
use Rattle.vertices.specs.declared.Out as lent-out
use Rattle.vertices.specs.Walk.{split_at, entry, place_at, low_corner, Spot, vertices_of, levels_of}
use Rattle.vertices.specs.Cells.{wanted, places_of, Cells, cells_of}

-- Bit i of a mask is set.
unfoldable pub marked : ℕ → ℕ → Bool
marked mask i = eqb (bit i mask) 1

-- On which axes the cell c of level l lies at the cube's side: what lies lower there is outside.
pub record Low (l c low : ℕ) : Type 0 where
  pub small : low < 2 ^ 3
  pub marks : (a : ℕ) → a < 3 → marked low a ≡ eqb (coord l c a) 0

-- The block of the cell c of level l: where each entry stands, or of a split one its first child; which are split, and on which axes none lies lower.
pub record Here (ks : Nodes) (l c : ℕ) (at : List ℕ) (mask low : ℕ) : Type 0 where
  pub small : mask < 2 ^ 8
  pub marks : (o : ℕ) → o < 8 → marked mask o ≡ split_at ks l (entry ks l c o)
  pub stands : (o : ℕ) → o < 8 → get_or at o 0 ≡ if₀ (marked mask o) (first_at ks (place_at ks l c o)) (place_at ks l c o)
  pub side : Low l c low

-- The grandchildren of each marked entry, which is the cell that lies that way, are numbers of 64 bits.
abbrev pub Small : ℕ → ℕ → Type 0
Small c mask = (o : ℕ) → o < 8 → marked mask o ≡ true → sub c o < 2 ^ 57

-- No first child stands at eight places.
abbrev pub ChildlessSays : List ℕ → ℕ → Bool → Type 0
ChildlessSays fs place r = r ≡ true → (w : ℕ) → w < 8 → get_or fs (place + w) 0 ≡ 0

-- Which children of the node p are split, the first of them standing at a place.
pub record ChildMarks (ks : Nodes) (first p mask : ℕ) : Type 0 where
  pub small : mask < 2 ^ 8
  pub marks : (w : ℕ) → w < 8 → marked mask w ≡ steps ks (first + w) (8 * p + w)

-- The same for each entry of a block, eight bits for each; none of an entry that isn't split.
abbrev pub BelowMarks : Nodes → ℕ → List ℕ → ℕ → ℕ → Type 0
BelowMarks ks c at mask below =
    (o : ℕ) → o < 8 → (w : ℕ) → w < 8 → marked below (8 * o + w) ≡ (marked mask o && steps ks (get_or at o 0 + w) (8 * sub c o + w))

-- ---- the block of child q

-- Entry o is the child q xor o of the entry o and not q of the parent's block, or that entry itself where it is not split. So its bit is one of those.
unfoldable pub lowered_mark : ℕ → ℕ → ℕ → Bool
lowered_mark below q o = marked below (8 * bit_and o (7 - q) + bit_xor q o)

pub record LoweredMarks (below q r : ℕ) : Type 0 where
  pub small : r < 2 ^ 8
  pub marks : (o : ℕ) → o < 8 → marked r o ≡ lowered_mark below q o

-- The bits of such a number, for child q: the entries' children that its own entries are.
abbrev pub seen_by : ℕ → ℕ
seen_by q = get_or (9241421688590303745 ∷ 54043401687662595 ∷ 176265457830405 ∷ 1030792151055 ∷ 2286166545 ∷ 13369395 ∷ 43605 ∷ 255 ∷ []) q 0

-- And the entries that they lie in.
abbrev pub kept_by : ℕ → ℕ
kept_by q = get_or (255 ∷ 85 ∷ 51 ∷ 17 ∷ 15 ∷ 5 ∷ 3 ∷ 1 ∷ []) q 0

-- Where r is 0, none of its entries is marked.
abbrev pub SeenSays : ℕ → ℕ → ℕ → Type 0
SeenSays below q r = r ≡ 0 → (o : ℕ) → o < 8 → lowered_mark below q o ≡ false

-- Child q lies at no side of the cube, and an entry that it sees is split.
pub record Touched (low mask q : ℕ) : Type 0 where
  pub full : bit_and low (7 - q) ≡ 0
  pub fine : (o : ℕ) × (o < 8) × (marked mask (bit_and o (7 - q)) ≡ true)

-- ---- tables

-- What the tables that the walk writes hold.
abbrev pub the_cells : lent-out.Out → Cells
the_cells t = cells_of t.vertices.now t.levels.now t.places.now

-- No table changes its length.
pub record SameSize (was left : Cells) : Type 0 where
  pub vertices : length left.vertices ≡ length was.vertices
  pub levels : length left.levels ≡ length was.levels
  pub places : length left.places ≡ length was.places

-- They are the same tables, however written.
pub record SameOut (was left : lent-out.Out) : Type 0 where
  pub vertices : left.vertices.ghost_name ≡ was.vertices.ghost_name
  pub levels : left.levels.ghost_name ≡ was.levels.ghost_name
  pub places : left.places.ghost_name ≡ was.places.ghost_name
  pub sizes : SameSize (the_cells was) (the_cells left)

-- A vertex and its level stand at a place, if both tables have it.
abbrev pub PutSays : List ℕ → List ℕ → ℕ → ℕ → ℕ → List ℕ → List ℕ → Type 0
PutSays v0 l0 at v l v1 l1 = at < length v0 → at < length l0 → (v1 ≡ set v0 at v) × (l1 ≡ set l0 at l)

-- These vertices stand from place at on, r being the place after them, if both tables have room.
pub record Laid (ss : List Spot) (at r : ℕ) (v0 l0 v1 l1 : List ℕ) : Type 0 where
  pub count : r ≡ at + length ss
  pub tables : r ≤ length v0 → r ≤ length l0 → (v1 ≡ sets v0 at (vertices_of ss)) × (l1 ≡ sets l0 at (levels_of ss))

-- ---- places

-- A table of 16-bit numbers.
abbrev pub Each16 : List ℕ → Type 0
Each16 fs = (i : ℕ) → get_or fs i 0 < 2 ^ 16

-- There are eight places, of first children or of one of eight from there on.
pub record Near (at : List ℕ) : Type 0 where
  pub eight_places : length at ≡ 8
  pub each : (o : ℕ) → o < 8 → get_or at o 0 < 2 ^ 16 + 7

-- The place of entry o of child q.
unfoldable pub lowered_place : List ℕ → ℕ → ℕ → ℕ → ℕ
lowered_place at mask q o =
    if₀ (marked mask (bit_and o (7 - q))) (get_or at (bit_and o (7 - q)) 0 + bit_xor q o) (get_or at (bit_and o (7 - q)) 0)

-- Of those that are split, where their first child stands.
unfoldable pub lowered_at : List ℕ → List ℕ → ℕ → ℕ → ℕ → ℕ → ℕ
lowered_at fs at mask child q o = if₀ (marked child o) (get_or fs (lowered_place at mask q o) 0) (lowered_place at mask q o)

abbrev pub LoweredAt : List ℕ → List ℕ → ℕ → ℕ → ℕ → List ℕ → Type 0
LoweredAt fs at mask child q d = (length d ≡ 8) × ((o : ℕ) → o < 8 → get_or d o 0 ≡ lowered_at fs at mask child q o)

-- Eight places stand at their place, if the table has it.
abbrev pub RoundSays : List ℕ → ℕ → List ℕ → List ℕ → Type 0
RoundSays p0 n eight_places p1 = 8 * n + 8 ≤ length p0 → p1 ≡ sets p0 (8 * n) eight_places

-- These vertices from a number on, up to so many, stand from place at on, r being the place after them: each table as far as it has room for them all.
pub record Stored (ks : Nodes) (from room : ℕ) (ss : List Spot) (at r : ℕ) (was left : Cells) : Type 0 where
  pub count : r ≡ at + length (wanted from (room - at) ss)
  pub vertices_are : r ≤ length was.vertices → r ≤ length was.levels → left.vertices ≡ sets was.vertices at (vertices_of (wanted from (room - at) ss))
  pub levels_are : r ≤ length was.vertices → r ≤ length was.levels → left.levels ≡ sets was.levels at (levels_of (wanted from (room - at) ss))
  pub places_are : 8 * r ≤ length was.places → left.places ≡ sets was.places (8 * at) (places_of ks (wanted from (room - at) ss))

-- A vertex that is not wanted leaves the tables; another one stands at its place, and so do its level and the places round it.
pub record Took (from v l m : ℕ) (eight_places : List ℕ) (was left : Cells) (r : ℕ) : Type 0 where
  pub wanted_one : from ≤ v
  pub next : r ≡ m + 1
  pub put : PutSays was.vertices was.levels m v l left.vertices left.levels
  pub round : RoundSays was.places m eight_places left.places

abbrev pub TakeSays : ℕ → ℕ → ℕ → ℕ → List ℕ → Cells → Cells → ℕ → Type 0
TakeSays from v l m eight_places was left r = ((v < from) × (r ≡ m) × (left ≡ was)) ⊎ Took from v l m eight_places was left r

-- A cell has nothing that is wanted and has room.
abbrev pub Skipped : ℕ → ℕ → ℕ → ℕ → ℕ → Type 0
Skipped l c from m room = (low_corner l (c + 1) ≤ from) ⊎ (room ≤ m)
