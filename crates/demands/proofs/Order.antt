-- Nodes and leaves ascend, however the cells grew. Assumes nothing.
use Prim.Native.Nat.{ℕ, zero, suc, ◌+◌, ◌*◌, ◌≤◌, ◌<◌}
use mathlib.Core.Path.{◌≡◌}
use mathlib.Core.Logic.{◌⊎◌, inl, inr}
use mathlib.Core.List.{List, [], ◌∷◌, ◌++◌}
use native.Mathlib.Omega.{arith}
use lib.Ieee.{Float}
use Rattle.tree.specs.Tree.{In, Ascending}
use Rattle.tree.proofs.Lists.{in_at, in_none, in_cases}
use Rattle.demands.specs.Run.{children_from, children}
use Rattle.demands.proofs.Growth.{Grown}
use Rattle.demands.proofs.Growth.Grown.{root, kept, divided}

-- The list ascends strictly, from a on and below b.
unfoldable pub Rises : ℕ → ℕ → List ℕ → Type 0
Rises a b [] = a ≤ b
Rises a b (x ∷ xs) = (a ≤ x) × Rises (suc x) b xs

rises_widen : (a' a b b' : ℕ) (xs : List ℕ) → a' ≤ a → b ≤ b' → Rises a b xs → Rises a' b' xs
unfolding Rises
rises_widen a' a b b' [] h l r = omega arith
rises_widen a' a b b' (x ∷ xs) h l (m, r) = (omega arith, rises_widen (suc x) (suc x) b b' xs (omega arith) l r)

rises_append : (a b c : ℕ) (xs ys : List ℕ) → Rises a b xs → Rises b c ys → Rises a c (xs ++ ys)
unfolding Rises
rises_append a b c [] ys r s = rises_widen a b c c ys r (omega arith) s
rises_append a b c (x ∷ xs) ys (l, r) s = (l, rises_append (suc x) b c xs ys r s)

rises_last : (a b k : ℕ) (xs : List ℕ) → b ≤ k → Rises a b xs → Rises a (suc k) (xs ++ (k ∷ []))
unfolding Rises
rises_last a b k xs h r = rises_append a b (suc k) xs (k ∷ []) r (h, omega arith)

rises_children : (k w n : ℕ) → Rises (8 * k + w) (8 * k + w + n) (children_from k w n)
unfolding Rises children_from
rises_children k w zero = omega arith
rises_children k w (suc n) =
    (omega arith, rises_widen (suc (8 * k + w)) (8 * k + suc w) (8 * k + suc w + n) (8 * k + w + suc n) (children_from k (suc w) n) (omega arith) (omega arith) (rises_children k (suc w) n))

rises_ends : (a b : ℕ) (xs : List ℕ) → Rises a b xs → a ≤ b
unfolding Rises
rises_ends a b [] r = r
rises_ends a b (x ∷ xs) (l, r) = omega (arith, rises_ends (suc x) b xs r)

pub rises_in : {m : ℕ} (a b : ℕ) (xs : List ℕ) → Rises a b xs → In m xs → (a ≤ m) × (m < b)
unfolding Rises
rises_in a b [] r i = absurd (in_none i)
rises_in {m} a b (x ∷ xs) (l, r) i = go (in_cases i) (rises_in {m = m} (suc x) b xs r)
  where
    go : (m ≡ x) ⊎ In m xs → (In m xs → (suc x ≤ m) × (m < b)) → (a ≤ m) × (m < b)
    go (inl e) h = (omega arith, omega (arith, rises_ends (suc x) b xs r))
    go (inr j) h = let p = h j in (omega arith, p.1)

pub rises_ascend : (a b : ℕ) (xs : List ℕ) → Rises a b xs → Ascending xs
unfolding Rises
rises_ascend a b [] r i j h l = absurd (omega arith)
rises_ascend a b (x ∷ xs) (_, r) i zero h l = absurd (omega arith)
rises_ascend a b (x ∷ xs) (_, r) zero (suc j) h l = (rises_in (suc x) b xs r (in_at xs j (omega arith))).0
rises_ascend a b (x ∷ xs) (_, r) (suc i) (suc j) h l = rises_ascend (suc x) b xs r i j (omega arith) (omega arith)

-- The decided cells are below some number; the open ones lie from there on, below its first child.
pub record Ordered (nodes leaves pending : List ℕ) : Type 0 where
  pub from : ℕ
  pub nodes_rise : Rises 0 from nodes
  pub leaves_rise : Rises 0 from leaves
  pub pending_rise : Rises from (8 * from) pending

pub grown_ordered : {bound : ℕ} {given : List Float} {nodes leaves pending : List ℕ} → Grown bound given nodes leaves pending → Ordered nodes leaves pending
unfolding Rises
grown_ordered root =
    record {
      from = 1;
      nodes_rise = omega arith;
      leaves_rise = omega arith;
      pending_rise = (omega arith, omega arith);
    }
grown_ordered (kept {k} {d} {given} {nodes} {leaves} {pending} _ g) =
    let o = grown_ordered g in
    let l : o.from ≤ k = o.pending_rise.0 in
    record {
      from = suc k;
      nodes_rise = rises_last 0 o.from k nodes l o.nodes_rise;
      leaves_rise = rises_last 0 o.from k leaves l o.leaves_rise;
      pending_rise = rises_widen (suc k) (suc k) (8 * o.from) (8 * suc k) pending (omega arith) (omega arith) o.pending_rise.1;
    }
grown_ordered (divided {k} {d} {given} {nodes} {leaves} {pending} _ g) =
    let o = grown_ordered g in
    let l : o.from ≤ k = o.pending_rise.0 in
    record {
      from = suc k;
      nodes_rise = rises_last 0 o.from k nodes l o.nodes_rise;
      leaves_rise = rises_widen 0 0 o.from (suc k) leaves (omega arith) (omega arith) o.leaves_rise;
      pending_rise =
          rises_append (suc k) (8 * k) (8 * suc k) pending (children k)
          (rises_widen (suc k) (suc k) (8 * o.from) (8 * k) pending (omega arith) (omega arith) o.pending_rise.1)
          (rises_widen (8 * k) (8 * k + 0) (8 * k + 0 + 8) (8 * suc k) (children k) (omega arith) (omega arith) (rises_children k 0 8));
    }
