-- The finest grid, and what it is for cells to cover it. Assumes nothing.
use Rattle.std.specs.Prelude.{ℕ, zero, suc, ◌+◌, ◌-◌, ◌/◌, ◌^◌, ◌≤◌, ◌≡◌, Bool, cond, List, [], ◌∷◌, eqb}
use Rattle.morton.specs.Level.{Cell, level}

-- The sum of f 0, f 1, .., f (n - 1).
unfoldable pub sum : (ℕ → ℕ) → ℕ → ℕ
sum f zero = 0
sum f (suc n) = sum f n + f n

-- The volume of a cell k: how many cells of level D lie in it.
unfoldable pub volume : ℕ → ℕ → ℕ
volume D k = 8 ^ (D - level k)

-- The cell f of level D lies in the cell k: its ancestor of k's level is k.
unfoldable pub lies_in : ℕ → ℕ → ℕ → Bool
lies_in D f k = eqb (f / volume D k) k

-- In how many cells of a list f lies, and the volume of them all.
abbrev pub holders : ℕ → ℕ → List ℕ → ℕ
holders D f [] = 0
holders D f (k ∷ ks) = cond {A = ℕ} (lies_in D f k) 1 0 + holders D f ks

abbrev pub volumes : ℕ → List ℕ → ℕ
volumes D [] = 0
volumes D (k ∷ ks) = volume D k + volumes D ks

-- Each member of a list is a cell key of level at most D.
abbrev pub Cells : ℕ → List ℕ → Type 0
Cells D [] = Unit {0}
Cells D (k ∷ ks) = (Cell (level k) k × level k ≤ D) × Cells D ks

-- Each cell of the finest grid lies in exactly one of them, and their volumes add up to the cube.
pub record Covers (D : ℕ) (ks : List ℕ) : Type 0 where
  pub cells : Cells D ks
  pub once : (f : ℕ) → Cell D f → holders D f ks ≡ 1
  pub full : volumes D ks ≡ 8 ^ D
