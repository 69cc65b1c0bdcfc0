-- Leaves and open cells cover the finest grid, however the cells grew. Assumes nothing.
use Prim.Native.Nat.{ℕ, zero, suc, ◌+◌, ◌-◌, ◌*◌, ◌/◌, ◌^◌, ◌≤◌, ◌<◌}
use mathlib.Core.Path.{◌≡◌, refl, sym, ◌∙◌, ap}
use mathlib.Core.Bool.{true}
use mathlib.Core.List.{List, [], ◌∷◌, ◌++◌, append_assoc}
use native.Mathlib.Nat.{pow-suc, div-div-eq-div-mul}
use native.Mathlib.Decide.{ℕ_discrete}
use native.Mathlib.Omega.{arith}
use lib.Dec.{eqb}
use lib.Ieee.{Float}
use borrow.Author.Tests.{eq-eqb, ne_eqb}
use Rattle.morton.specs.Level.{deepest, level, Cell}
use Rattle.morton.proofs.Levels.{cell_lead}
use Rattle.morton.proofs.Cells.{child_cell}
use Rattle.geometry.specs.Grid.{volume, lies_in, holders, volumes, Cells, Covers}
use Rattle.geometry.proofs.Shape.{root_cell, root_level, child_level}
use Rattle.geometry.proofs.Cover.{count, covers_once}
use Rattle.build.specs.Build.{finest}
use Rattle.demands.specs.Run.{children_from, children}
use Rattle.demands.proofs.Rule.{split_level}
use Rattle.demands.proofs.Growth.{Grown}
use Rattle.demands.proofs.Growth.Grown.{root, kept, divided}

-- ---- the eight children of a cell

module _ (D k : ℕ) (deep : D ≤ deepest) (c : Cell (level k) k) (above : level k < D) where
  level_of : (w : ℕ) → w < 8 → level (8 * k + w) ≡ suc (level k)
  level_of w h = child_level k w c (omega arith) h

  -- the volume of a child, whichever it is
  part : ℕ
  part = 8 ^ (D - suc (level k))

  volume_part : (w : ℕ) → w < 8 → volume D (8 * k + w) ≡ part
  unfolding volume part
  volume_part w h = rw (level_of w h)

  volume_parts : volume D k ≡ part * 8
  unfolding volume part
  volume_parts = let e : D - level k ≡ suc (D - suc (level k)) = omega arith in rw (e, pow-suc)

  cells_from : (n w : ℕ) → w + n ≤ 8 → Cells D (children_from k w n)
  unfolding children_from
  cells_from zero w h = tt
  cells_from (suc n) w h =
      let e : level (8 * k + w) ≡ suc (level k) = level_of w (omega arith) in
      ((rw e (child_cell (level k) k w c (omega arith)), omega arith), cells_from n (suc w) (omega arith))

  module _ (f : ℕ) where
    -- the one cell of the children's level in which f lies
    at : ℕ
    at = f / part

    lies : (w : ℕ) → w < 8 → lies_in D f (8 * k + w) ≡ eqb at (8 * k + w)
    unfolding lies_in at
    lies w h = rw (volume_part w h)

    lies_up : lies_in D f k ≡ eqb (at / 8) k
    unfolding lies_in at
    lies_up = rw (volume_parts, ← div-div-eq-div-mul f part 8)

    missed : (n w : ℕ) → w + n ≤ 8 → ((v : ℕ) → w ≤ v → v < w + n → at ≡ 8 * k + v → ⊥) → holders D f (children_from k w n) ≡ 0
    unfolding children_from
    missed zero w h m = refl
    missed (suc n) w h m =
        omega (
          arith,
          ap count (lies w (omega arith) ∙ ne_eqb at (8 * k + w) (m w (omega arith) (omega arith))),
          missed n (suc w) (omega arith) (λ v p q. m v (omega arith) (omega arith)),
        )

    held : (n w v : ℕ) → w + n ≤ 8 → w ≤ v → v < w + n → at ≡ 8 * k + v → holders D f (children_from k w n) ≡ 1
    unfolding children_from
    held zero w v h p q e = omega arith
    held (suc n) w v h p q e =
        elim (ℕ_discrete at (8 * k + w)) [
          | yes i ↦ omega (arith, ap count (lies w (omega arith) ∙ eq-eqb at (8 * k + w) i), missed n (suc w) (omega arith) (λ u a b z. omega arith))
          | no i ↦ omega (arith, ap count (lies w (omega arith) ∙ ne_eqb at (8 * k + w) i), held n (suc w) v (omega arith) (omega arith) (omega arith) e)
        ]

    holders_children : holders D f (children k) ≡ count (lies_in D f k)
    holders_children =
        elim (ℕ_discrete (at / 8) k) [
          | yes e ↦ held 8 0 (at - 8 * k) (omega arith) (omega arith) (omega arith) (omega arith) ∙ sym (ap count (lies_up ∙ eq-eqb (at / 8) k e))
          | no e ↦ missed 8 0 (omega arith) (λ v p q z. e (omega arith)) ∙ sym (ap count (lies_up ∙ ne_eqb (at / 8) k e))
        ]

-- ---- lists of cells

pub holders_append : (D f : ℕ) (xs ys : List ℕ) → holders D f (xs ++ ys) ≡ holders D f xs + holders D f ys
holders_append D f [] ys = omega arith
holders_append D f (x ∷ xs) ys = omega (arith, holders_append D f xs ys)

pub volumes_append : (D : ℕ) (xs ys : List ℕ) → volumes D (xs ++ ys) ≡ volumes D xs + volumes D ys
volumes_append D [] ys = omega arith
volumes_append D (x ∷ xs) ys = omega (arith, volumes_append D xs ys)

pub cells_append : (D : ℕ) (xs ys : List ℕ) → Cells D xs → Cells D ys → Cells D (xs ++ ys)
cells_append D [] ys a b = b
cells_append D (x ∷ xs) ys a b = (a.0, cells_append D xs ys a.1 b)

pub cells_left : (D : ℕ) (xs ys : List ℕ) → Cells D (xs ++ ys) → Cells D xs
cells_left D [] ys a = tt
cells_left D (x ∷ xs) ys a = (a.0, cells_left D xs ys a.1)

pub cells_right : (D : ℕ) (xs ys : List ℕ) → Cells D (xs ++ ys) → Cells D ys
cells_right D [] ys a = a
cells_right D (x ∷ xs) ys a = cells_right D xs ys a.1

-- ---- growth

root_volume : (D : ℕ) → volume D 1 ≡ 8 ^ D
unfolding volume
root_volume D = ap (λ (n : ℕ). 8 ^ n) (omega (arith, root_level))

root_lies : (D f : ℕ) → Cell D f → lies_in D f 1 ≡ true
unfolding lies_in
root_lies D f c = rw (root_volume D) (eq-eqb (f / 8 ^ D) 1 (cell_lead D f c))

root_covers : (D : ℕ) → Covers D (1 ∷ [])
root_covers D =
    covers_once D (1 ∷ []) ((rw root_level root_cell, omega (arith, root_level)), tt) (λ f c. omega (arith, ap count (root_lies D f c)))

-- a cell that gives way to its children
divide : (D k : ℕ) (xs ys : List ℕ) → D ≤ deepest → level k < D → Covers D (xs ++ (k ∷ ys)) → Covers D (xs ++ (ys ++ children k))
divide D k xs ys deep above c =
    let mine : Cells D (k ∷ ys) = cells_right D xs (k ∷ ys) c.cells in
    covers_once D (xs ++ (ys ++ children k))
    (cells_append D xs (ys ++ children k) (cells_left D xs (k ∷ ys) c.cells)
    (cells_append D ys (children k) mine.1 (cells_from D k deep mine.0.0 above 8 0 (omega arith))))
    (λ f g.
    omega (
      arith,
      c.once f g,
      holders_append D f xs (k ∷ ys),
      holders_append D f xs (ys ++ children k),
      holders_append D f ys (children k),
      holders_children D k deep mine.0.0 above f,
    ))

pub grown_covers : {bound : ℕ} {given : List Float} {nodes leaves pending : List ℕ} → finest bound ≤ deepest → Grown bound given nodes leaves pending
    → Covers (finest bound) (leaves ++ pending)
grown_covers {bound} deep root = root_covers (finest bound)
grown_covers deep (kept {k} {d} {given} {nodes} {leaves} {pending} _ g) = rw (append_assoc leaves (k ∷ []) pending) (grown_covers deep g)
grown_covers {bound} deep (divided {k} {d} {given} {nodes} {leaves} {pending} h g) =
    divide (finest bound) k leaves pending deep (split_level (level k) bound d h) (grown_covers deep g)
