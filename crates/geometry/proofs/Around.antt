-- The leaf on each side of a point, for leaves that cover the finest grid. Assumes nothing.
use Prim.Native.Nat.{ℕ, ◌+◌, ◌-◌, ◌/◌, ◌^◌, ◌≤◌, ◌<◌}
use mathlib.Core.Path.{◌≡◌, sym, ◌∙◌, ap, subst}
use mathlib.Core.List.{List}
use native.Mathlib.Decide.{dec_le}
use native.Mathlib.Omega.{arith}
use Rattle.morton.specs.Level.{deepest, level}
use Rattle.tree.specs.Tree.{In}
use Rattle.geometry.specs.Grid.{volume, Covers}
use Rattle.geometry.specs.Corner.{Corner, StrictlyInside}
use Rattle.geometry.proofs.Place.{up_up, OnGrid, side, side_cell, corner_of_side, grid_below, side_above}
use Rattle.geometry.proofs.Shape.{cells_in}
use Rattle.geometry.proofs.Cover.{Holder, holder, lies_is}

-- k holds the finest cell on side w of v, a point of the grid of level L
module _ (D L v w k : ℕ) (deep : D ≤ deepest) (low : L ≤ D) (lk : level k ≤ D) (inner : StrictlyInside v) (grid : OnGrid L v)
    (holds : side D v w / 8 ^ (D - level k) ≡ k) where
  -- if k is no shallower than L, then v is its corner w
  corner_if_deeper : L ≤ level k → Corner (level k) k w v
  corner_if_deeper l =
      let g : OnGrid (level k) v = grid_below L (level k) v l (omega arith) grid in
      let e : side (level k) v w ≡ k = sym (side_above (level k) D w v lk deep inner g) ∙ holds in
      subst (λ (n : ℕ). Corner (level k) n w v) e (corner_of_side (level k) w v (omega arith) inner g)

  shallow_if : (Corner (level k) k w v → level k ≤ L) → level k ≤ L
  shallow_if t = elim (dec_le (level k) L) [ yes y ↦ y | no n ↦ t (corner_if_deeper (omega arith)) ]

  above_if : level k ≤ L → side L v w / 8 ^ (L - level k) ≡ k
  above_if s =
      let e : D - L + (L - level k) ≡ D - level k = omega arith in
      ap (λ (n : ℕ). n / 8 ^ (L - level k)) (sym (side_above L D w v low deep inner grid))
      ∙ up_up (side D v w) (D - L) (L - level k)
      ∙ ap (λ (n : ℕ). side D v w / 8 ^ n) e
      ∙ holds

-- what is to be known of the leaf on side w: it alone holds the finest cell there, and it is an ancestor of the cell of level L there
pub record Entry (D L v w : ℕ) (ls : List ℕ) : Type 0 where
  pub leaf : Holder D (side D v w) ls
  pub shallow : level leaf.cell ≤ L
  pub above : side L v w / 8 ^ (L - level leaf.cell) ≡ leaf.cell

-- no leaf that has the corner v is deeper than L
unfoldable pub NoCornerDeeper : ℕ → ℕ → List ℕ → Type 0
NoCornerDeeper L v ls = (k w : ℕ) → In k ls → w < 8 → Corner (level k) k w v → level k ≤ L

pub entry : (D L v w : ℕ) (ls : List ℕ) → D ≤ deepest → L ≤ D → w < 8 → Covers D ls → StrictlyInside v → OnGrid L v → NoCornerDeeper L v ls → Entry D L v w ls
unfolding NoCornerDeeper volume
entry D L v w ls deep low hw c inner grid top =
    let h : Holder D (side D v w) ls = holder D (side D v w) ls (c.once (side D v w) (side_cell D v w)) in
    let k : ℕ = h.cell in
    let e : side D v w / 8 ^ (D - level k) ≡ k = lies_is D (side D v w) k h.holds in
    let lk : level k ≤ D = (cells_in D ls c.cells k h.member).1 in
    let s : level k ≤ L = shallow_if D L v w k deep low lk inner grid e (top k w h.member hw) in
    record { leaf = h; shallow = s; above = above_if D L v w k deep low lk inner grid e s }
