-- The cells round the low corner of a cell. Assumes nothing.
use Rattle.std.specs.Prelude.{ℕ, ◌-◌, Bool, ◌&&◌, leb}
use Rattle.morton.specs.Field.{bit, coord, key}

-- The cell that lies o lower than the cell c of level l: bit a of o is one cell on axis a.
unfoldable pub near : ℕ → ℕ → ℕ → ℕ
near l c o = key l (λ a. coord l c a - bit a o)

-- It lies in the cube.
unfoldable pub in_cube : ℕ → ℕ → ℕ → Bool
in_cube l c o = leb (bit 0 o) (coord l c 0) && (leb (bit 1 o) (coord l c 1) && leb (bit 2 o) (coord l c 2))
