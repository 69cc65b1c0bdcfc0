-- Corners of cells, as points. A point is named by a key of level 21: its coordinates count 2^-21 of the cube. Assumes nothing.
use Rattle.std.specs.Prelude.{ℕ, ◌+◌, ◌-◌, ◌*◌, ◌^◌, ◌<◌, ◌≡◌}
use Rattle.morton.specs.Field.{bit, coord}
use Rattle.morton.specs.Level.{deepest, Cell}

-- The point v is corner w of the cell k of level L: bit 0 of w is x, bit 1 y, bit 2 z.
unfoldable pub Corner : ℕ → ℕ → ℕ → ℕ → Type 0
Corner L k w v = (a : ℕ) → a < 3 → coord deepest v a ≡ (coord L k a + bit a w) * 2 ^ (deepest - L)

-- The point v lies strictly inside the cube. No key of level 21 names a point of the three far sides.
pub record StrictlyInside (v : ℕ) : Type 0 where
  pub point : Cell deepest v
  pub inside : (a : ℕ) → a < 3 → 0 < coord deepest v a
