-- Lookups in a tree: nothing present lies below a leaf, so the deepest present ancestor of a cell in a leaf is that leaf. Assumes nothing.
use Prim.Native.Nat.{ℕ, zero, suc, ◌+◌, ◌-◌, ◌/◌, ◌%◌, ◌^◌, ◌≤◌, ◌<◌}
use mathlib.Core.Path.{◌≡◌, sym, ◌∙◌, ap}
use mathlib.Core.Logic.{⊎_elim}
use mathlib.Core.List.{List}
use native.Mathlib.Nat.{zero-div}
use native.Mathlib.Decide.{dec_lt}
use native.Mathlib.Omega.{arith}
use lib.Ieee.{Float}
use Rattle.morton.specs.Level.{level, Cell}
use Rattle.morton.proofs.Levels.{cell_lead}
use Rattle.morton.proofs.Fields.{div_step}
use Rattle.tree.specs.Tree.{Tree, In}
use Rattle.tree.specs.Climb.{ancestor, NoneDeeper, Deepest}
use Rattle.tree.proofs.Lists.{stands_in, in_cast}
use Rattle.geometry.proofs.Place.{up_up}
use Rattle.geometry.proofs.Shape.{Shape, child_is, positive}

-- ---- below a leaf there is no node

module _ (D : ℕ) (ns ls : List ℕ) (t : Shape D ns ls) (k : ℕ) (leaf : In k ls) where
  pub no_node : (d p : ℕ) → In p ns → p / 8 ^ suc d ≡ k → ⊥
  no_node zero p m e = t.none k (p % 8) leaf (omega arith) (in_cast (child_is k p (omega arith)) m)
  no_node (suc d) p m e = ⊎_elim root (λ i. no_node d (p / 8) i (sym (div_step p 8 (suc d)) ∙ e)) (t.parents p m)
    where
      root : p ≡ 1 → ⊥
      root o =
          let z : p / 8 ≡ 0 = omega arith in
          omega (arith, positive D ns ls t k (t.here k leaf), sym (div_step p 8 (suc d)) ∙ e, ap (λ (n : ℕ). n / 8 ^ suc d) z, zero-div (8 ^ suc d))

  -- s is a cell of level L in the leaf: no cell between them is present
  pub none_between : (L s : ℕ) → level k ≤ L → s / 8 ^ (L - level k) ≡ k → (j : ℕ) → level k < j → j ≤ L → In (s / 8 ^ (L - j)) ns → ⊥
  none_between L s h e j l m i =
      let d : ℕ = j - suc (level k) in
      let u : L - j + suc d ≡ L - level k = omega arith in
      no_node d (s / 8 ^ (L - j)) i (up_up s (L - j) (suc d) ∙ ap (λ (n : ℕ). s / 8 ^ n) u ∙ e)

-- ---- so a cell in the leaf finds it, and nothing else

module _ (D : ℕ) (t : Tree) (s : Shape D t.keys t.leaves) (k : ℕ) (leaf : In k t.leaves) (asked : ℕ) (pos : 1 ≤ level k) (h : level k ≤ level asked)
    (e : ancestor asked (level k) ≡ k) where
  none_deeper_leaf : NoneDeeper t asked (level k)
  none_deeper_leaf = none_between D t.keys t.leaves s k leaf (level asked) asked h e

  pub found_leaf : {key : ℕ} {distance : Float} {place tried : ℕ} → Deepest t asked key distance place tried → key ≡ k
  found_leaf {key} d = go (dec_lt (level key) (level k)) (dec_lt (level k) (level key))
    where
      same : level key ≡ level k → key ≡ k
      same q = d.is_ancestor ∙ ap (ancestor asked) q ∙ e

      go : Dec (level key < level k) → Dec (level k < level key) → key ≡ k
      go (yes l) g = absurd (d.none_deeper (level k) l h (in_cast e (s.here k leaf)))
      go (no l) (yes g) = absurd (none_deeper_leaf (level key) g d.not_below (in_cast (sym d.is_ancestor) (stands_in d.present)))
      go (no l) (no g) = same (omega arith)

-- ---- the root

module _ (D : ℕ) (ns ls : List ℕ) (t : Shape D ns ls) where
  -- the root is a leaf alone only
  pub root_leaf : (p : ℕ) → In 1 ls → In p ns → p ≡ 1
  root_leaf p leaf m = go (level p) (t.cells p m).0
    where
      go : (L : ℕ) → Cell L p → p ≡ 1
      go zero c = omega (arith, c.low, c.high)
      go (suc d) c = absurd (no_node D ns ls t 1 leaf d p m (cell_lead (suc d) p c))
