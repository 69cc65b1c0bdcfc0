-- A sound tree by its lists of node keys and leaf keys, with any greatest level; and its first laws. Assumes nothing.
use Prim.Native.Nat.{ℕ, zero, suc, ◌+◌, ◌*◌, ◌/◌, ◌%◌, ◌≤◌, ◌<◌}
use mathlib.Core.Path.{◌≡◌, refl, sym, subst}
use mathlib.Core.Logic.{◌⊎◌, inl, inr, ⊎_elim}
use mathlib.Core.List.{List, [], ◌∷◌}
use native.Mathlib.Nat.{pow-suc}
use native.Mathlib.Decide.{ℕ_discrete}
use native.Mathlib.Omega.{arith}
use Rattle.morton.specs.Level.{deepest, limit, Cell, level, parent_of}
use Rattle.morton.proofs.Levels.{eight_pos, cell_level}
use Rattle.morton.proofs.Cells.{child_cell}
use Rattle.tree.specs.Tree.{Tree, In, Ascending, Sound}
use Rattle.geometry.specs.Grid.{Cells}
use Rattle.tree.proofs.Lists.{in_cast, in_none, in_head, in_tail, in_cases, ascending_asc, Asc}

pub record Shape (D : ℕ) (ns ls : List ℕ) : Type 0 where
  pub first : In 1 ns
  pub ascending : Ascending ns
  pub cells : (k : ℕ) → In k ns → Cell (level k) k × (level k ≤ D)
  pub parents : (k : ℕ) → In k ns → (k ≡ 1) ⊎ In (k / 8) ns
  pub eight : (k : ℕ) → In k ns → In k ls ⊎ ((w : ℕ) → w < 8 → In (8 * k + w) ns)
  pub here : (k : ℕ) → In k ls → In k ns
  pub none : (k w : ℕ) → In k ls → w < 8 → In (8 * k + w) ns → ⊥
  pub leaves_ascending : Ascending ls

-- ---- cells

pub cell_pos : (L k : ℕ) → Cell L k → 1 ≤ k
cell_pos L k c = omega (arith, c.low, eight_pos L)

pub root_cell : Cell 0 1
root_cell = record { low = omega arith; high = omega arith }

pub root_level : level 1 ≡ 0
root_level = cell_level 0 1 (omega arith) root_cell

pub cells_in : (D : ℕ) (ks : List ℕ) → Cells D ks → (k : ℕ) → In k ks → Cell (level k) k × (level k ≤ D)
cells_in D [] c k m = absurd (in_none m)
cells_in D (x ∷ xs) c k m = ⊎_elim (λ e. subst (λ (n : ℕ). Cell (level n) n × (level n ≤ D)) (sym e) c.0) (cells_in D xs c.1 k) (in_cases m)

pub cells_all : (D : ℕ) (ks : List ℕ) → ((k : ℕ) → In k ks → Cell (level k) k × (level k ≤ D)) → Cells D ks
cells_all D [] h = tt
cells_all D (k ∷ ks) h = (h k (in_head refl), cells_all D ks (λ x m. h x (in_tail m)))

-- a cell and the child by which another is below it
pub child_is : (k p : ℕ) → p / 8 ≡ k → 8 * k + p % 8 ≡ p
child_is k p h = omega arith

pub child_level : (k w : ℕ) → Cell (level k) k → level k < deepest → w < 8 → level (8 * k + w) ≡ suc (level k)
child_level k w c l h = cell_level (suc (level k)) (8 * k + w) (omega arith) (child_cell (level k) k w c (omega arith))

-- ---- of any such lists

module _ (D : ℕ) (ns ls : List ℕ) (t : Shape D ns ls) where
  pub positive : (k : ℕ) → In k ns → 1 ≤ k
  positive k m = cell_pos (level k) k (t.cells k m).0

  pub rising : Asc 1 ns
  rising = ascending_asc 1 ns t.ascending positive

  pub leaves_rising : Asc 1 ls
  leaves_rising = ascending_asc 1 ls t.leaves_ascending (λ k m. positive k (t.here k m))

  pub leaf_cells : Cells D ls
  leaf_cells = cells_all D ls (λ k m. t.cells k (t.here k m))

-- ---- a sound tree

module _ (t : Tree) (s : Sound t) where
  some_leaf_or_eight : (k : ℕ) → In k t.keys → In k t.leaves ⊎ ((w : ℕ) → w < 8 → In (8 * k + w) t.keys)
  some_leaf_or_eight k m = ⊎_elim (λ all. inr all) (λ none. inl (s.childless_leaves k m none)) (s.children k m)

  parent_in : (k : ℕ) → In k t.keys → (k ≡ 1) ⊎ In (k / 8) t.keys
  parent_in k m =
      elim (ℕ_discrete k 1) [
        | yes e ↦ inl e
        | no e ↦ inr (in_cast (up (level k) e (s.cells k m).0) (s.parents k m e))
      ]
    where
      up : (L : ℕ) → (k ≡ 1 → ⊥) → Cell L k → k / 8 ≡ parent_of k
      up zero e c = absurd (e (omega (arith, c.low, c.high)))
      up (suc L) e c = omega (arith, c.low, pow-suc 8 L, eight_pos L)

  pub sound_shape : Shape limit t.keys t.leaves
  sound_shape =
      record {
        first = record { place = 0; inside = s.first.inside; here = s.first.here };
        ascending = s.ascending;
        cells = s.cells;
        parents = parent_in;
        eight = some_leaf_or_eight;
        here = λ k m. (s.leaves_childless k m).0;
        none = λ k w m h c. (s.leaves_childless k m).1 w h c;
        leaves_ascending = s.leaves_ascending;
      }

-- ---- any greatest level that no leaf is deeper than

module _ (D E : ℕ) (ns ls : List ℕ) (t : Shape E ns ls) (deep : E < deepest) (leaf : (k : ℕ) → In k ls → level k ≤ D) where
  first_child : (k : ℕ) → In k ns → level (8 * k + 0) ≡ suc (level k)
  first_child k m = child_level k 0 (t.cells k m).0 (omega (arith, (t.cells k m).1)) (omega arith)

  -- from a node down to a leaf
  node_level : (n k : ℕ) → E ≤ level k + n → In k ns → level k ≤ D
  node_level zero k h m =
      ⊎_elim (leaf k) (λ all. absurd (omega (arith, first_child k m, (t.cells (8 * k + 0) (all 0 (omega arith))).1))) (t.eight k m)
  node_level (suc n) k h m =
      ⊎_elim (leaf k) (λ all. omega (arith, first_child k m, node_level n (8 * k + 0) (omega (arith, first_child k m)) (all 0 (omega arith))))
      (t.eight k m)

  pub shape_to : Shape D ns ls
  shape_to =
      record {
        first = t.first;
        ascending = t.ascending;
        cells = λ k m. ((t.cells k m).0, node_level E k (omega arith) m);
        parents = t.parents;
        eight = t.eight;
        here = t.here;
        none = t.none;
        leaves_ascending = t.leaves_ascending;
      }

pub sound_shape_to : (D : ℕ) (t : Tree) → Sound t → ((k : ℕ) → In k t.leaves → level k ≤ D) → Shape D t.keys t.leaves
sound_shape_to D t s leaf = shape_to D limit t.keys t.leaves (sound_shape t s) (omega arith) leaf
