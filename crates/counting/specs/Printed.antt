-- What the program `counts` prints for the bytes of its input, in document 01's words. Assumes nothing.
use Rattle.std.specs.Prelude.{ℕ, zero, suc, ◌+◌, ◌-◌, ◌*◌, ◌/◌, ◌%◌, ◌≤◌, ◌≡◌, cond, List, [], ◌∷◌, ◌++◌, ltb, length, take, replicate, Float, Result, Ok, Err}
use Rattle.std.specs.Float.Ieee.{of_bits}
use Rattle.std.specs.Float.{binary32}
use Rattle.build.specs.declared.Answer.{Answer}
use Rattle.build.specs.declared.Answer.TheVariants.{Ask, Finished}
use Rattle.refusals.specs.declared.Refusal.{Refusal}
use Rattle.refusals.specs.Refusals.{number}
use Rattle.build.specs.Build.{Tables, tables_of, Outcome, outcome, start_of, distance_of}
use Rattle.counting.specs.Vertices.{vertex_count}

-- ---- the input

-- The number of four bytes, the lowest first.
unfoldable pub little_endian : ℕ → ℕ → ℕ → ℕ → ℕ
little_endian a b c d = a + 0x100 * b + 0x1_0000 * c + 0x100_0000 * d

-- f32 distances, little-endian; up to three bytes at the end are none.
unfoldable pub distances_in : List ℕ → List Float
distances_in (a ∷ b ∷ c ∷ d ∷ bytes) = of_bits binary32 (little_endian a b c d) ∷ distances_in bytes
distances_in (a ∷ b ∷ c ∷ []) = []
distances_in (a ∷ b ∷ []) = []
distances_in (a ∷ []) = []
distances_in [] = []

-- ---- the build

-- Its tables hold 1,024 each, zeros at first.
abbrev pub zeros : List ℕ
zeros = replicate 1024 0

abbrev pub lent : Tables
lent = tables_of zeros (replicate 1024 (of_bits binary32 0)) zeros zeros zeros

-- The next distance is for the cell that is asked for; where none is, it is ignored.
abbrev pub next_of : Result Answer Refusal → Tables → Float → Outcome
next_of (Ok (Ask r s)) t d = distance_of s d t
next_of (Ok (Finished s)) t d = outcome (Ok (Finished s)) t
next_of (Err e) t d = outcome (Err e) t

-- Distances in asked order.
unfoldable pub after_all : List Float → Outcome → Outcome
after_all [] o = o
after_all (d ∷ ds) o = after_all ds (next_of o.answer o.tables d)

-- ---- the line, in ASCII

-- A number as decimals, at most so many: one below 10 is a digit, 48 being `0`; any other is a tenth of it, rounded down, and then its last digit.
unfoldable pub decimal_to : ℕ → ℕ → List ℕ
decimal_to zero n = []
decimal_to (suc most) n = cond (ltb n 10) ((48 + n) ∷ []) (decimal_to most (n / 10) ++ ((48 + n % 10) ∷ []))

-- Twenty are enough for 64 bits.
unfoldable pub decimal : ℕ → List ℕ
decimal n = decimal_to 20 n

abbrev pub space : ℕ
space = 32

abbrev pub newline : ℕ
newline = 10

-- `short`
unfoldable pub short_line : List ℕ
short_line = 115 ∷ 104 ∷ 111 ∷ 114 ∷ 116 ∷ newline ∷ []

-- `refused k`
unfoldable pub refused_line : ℕ → List ℕ
refused_line k = (114 ∷ 101 ∷ 102 ∷ 117 ∷ 115 ∷ 101 ∷ 100 ∷ space ∷ []) ++ (decimal k ++ (newline ∷ []))

-- Nodes, leaves and vertices as decimals with one space between.
unfoldable pub counts_line : ℕ → ℕ → ℕ → List ℕ
counts_line nodes leaves vertices = decimal nodes ++ (space ∷ (decimal leaves ++ (space ∷ (decimal vertices ++ (newline ∷ [])))))

-- A list of 1,024 places has no room for more vertices: 12.
unfoldable pub tree_line : ℕ → ℕ → ℕ → List ℕ
tree_line nodes leaves vertices = cond (ltb 1024 vertices) (refused_line 12) (counts_line nodes leaves vertices)

-- By the last answer: where a cell is still asked for, input has ended first.
abbrev pub line_for : Result Answer Refusal → Tables → List ℕ
line_for (Ok (Ask r s)) t = short_line
line_for (Ok (Finished s)) t = tree_line s.nodes s.leaves (vertex_count (take s.leaves t.leaves))
line_for (Err e) t = refused_line (number e)

abbrev pub line_at : Outcome → List ℕ
line_at o = line_for o.answer o.tables

-- One bound byte, then distances; `short` where there is no byte.
unfoldable pub line_of : List ℕ → List ℕ
line_of [] = short_line
line_of (bound ∷ bytes) = line_at (after_all (distances_in bytes) (outcome (start_of bound lent) lent))

-- The bytes of a text: its line, and zeros up to 64.
abbrev pub bytes_of : List ℕ → List ℕ
bytes_of line = line ++ replicate (64 - length line) 0

-- 64 bytes hold the line, and then zeros.
pub record Holds (line bytes : List ℕ) (count : ℕ) : Type 0 where
  pub fits : length line ≤ 64
  pub bytes_are : bytes ≡ line ++ replicate (64 - length line) 0
  pub count_is : count ≡ length line
