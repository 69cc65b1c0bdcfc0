-- The items of the queue as a list, and what a stored split adds to it. Assumes nothing.
use Prim.Native.Nat.{ℕ, zero, suc, ◌+◌, ◌%◌, ◌≤◌, ◌<◌}
use mathlib.Core.Path.{◌≡◌, refl, sym, ◌∙◌, ap, ap₂}
use mathlib.Core.List.{List, ◌∷◌, ◌++◌}
use native.Mathlib.Nat.{suc-add, zero-add, add-zero}
use native.Mathlib.Omega.{arith}
use lib.ListN.{length}
use Rattle.build.specs.Build.{item_at, children_to}
use Rattle.build.proofs.Ring.{apart, length_children, children_other, children_at}
use Rattle.demands.specs.Run.{items_from, children_from, children}

pub length_items : (q : List ℕ) (j k : ℕ) → length (items_from q j k) ≡ k
unfolding items_from
length_items q j zero = refl
length_items q j (suc k) = omega (arith, length_items q (j + 1) k)

items_append : (q : List ℕ) (j k n : ℕ) → items_from q j (k + n) ≡ items_from q j k ++ items_from q (j + k) n
unfolding items_from
items_append q j zero n = rw (zero-add, add-zero) refl
items_append q j (suc k) n =
    let e : j + 1 + k ≡ j + suc k = omega arith in
    ap (items_from q j) (suc-add k n)
    ∙ ap (λ (xs : List ℕ). item_at q j ∷ xs) (items_append q (j + 1) k n ∙ ap (λ (i : ℕ). items_from q (j + 1) k ++ items_from q i n) e)

items_same : (q q' : List ℕ) (j k : ℕ) → ((i : ℕ) → j ≤ i → i < j + k → item_at q' i ≡ item_at q i) → items_from q' j k ≡ items_from q j k
unfolding items_from
items_same q q' j zero h = refl
items_same q q' j (suc k) h =
    ap₂ (λ (x : ℕ) (xs : List ℕ). x ∷ xs) (h j (omega arith) (omega arith)) (items_same q q' (j + 1) k (λ i l m. h i (omega arith) (omega arith)))

-- Item j is the first of k that wait, and there is room for eight more.
module _ (q : List ℕ) (key j k : ℕ) (room : k + 8 ≤ length q) where
  stored_old : (i : ℕ) → j ≤ i → i < j + k → item_at (children_to 8 q key (j + k)) i ≡ item_at q i
  unfolding item_at
  stored_old i l m =
      rw (length_children 8 q key (j + k))
      (children_other 8 q key (j + k) (i % length q) (λ w n. apart (length q) i (j + k + w) (omega arith) (omega arith)))

  stored_new : (n w : ℕ) → w + n ≤ 8 → items_from (children_to 8 q key (j + k)) (j + k + w) n ≡ children_from key w n
  unfolding items_from children_from item_at
  stored_new zero w h = refl
  stored_new (suc n) w h =
      ap₂ (λ (x : ℕ) (xs : List ℕ). x ∷ xs)
      (rw (length_children 8 q key (j + k)) (children_at 8 q key (j + k) w (omega arith) (omega arith)))
      (ap (λ (i : ℕ). items_from (children_to 8 q key (j + k)) i n) {x = j + k + w + 1} (omega arith) ∙ stored_new n (suc w) (omega arith))

  -- stored behind them, the children of a cell wait too
  pub items_stored : items_from (children_to 8 q key (j + k)) j (k + 8) ≡ items_from q j k ++ children key
  items_stored =
      items_append (children_to 8 q key (j + k)) j k 8
      ∙ ap₂ (λ (xs ys : List ℕ). xs ++ ys)
      (items_same q (children_to 8 q key (j + k)) j k stored_old)
      (ap (λ (i : ℕ). items_from (children_to 8 q key (j + k)) i 8) (sym (add-zero (j + k))) ∙ stored_new 8 0 (omega arith))
