-- One answer only: of each public call, two answers that meet its promise are the same. Assumes nothing.
use Prim.Native.Nat.{ℕ, ◌^◌, ◌<◌, min, max}
use mathlib.Core.Path.{◌≡◌, sym, ap, ◌∙◌}
use mathlib.Core.List.{List, []}
use native.Mathlib.Omega.{arith}
use Rattle.morton.proofs.One.{OnlyOne, equal, handed_on}
use Rattle.tree.specs.Tree.{Tree, Sound}
use Rattle.tree.specs.Down.{Nodes}
use Rattle.tree.proofs.Finding.{nodes}
use Rattle.dual.specs.declared.Dual.{Dual}
use Rattle.std.specs.Prelude.{Result, Ok, Err}
use Rattle.refusals.specs.declared.Refusal.{Refusal}
use Rattle.dual.specs.Dual.{DualSays, TrustingSays as CellTrustingSays}
use Rattle.dual.proofs.One.{dual_cell_one, dual_cell_trusting_one}
use Rattle.slabs.specs.declared.Reach.{Reach}
use Rattle.slabs.specs.Heights.{slab_at, Reaches, OfCell, SlabsSays, TrustingSays}
use Rattle.slabs.proofs.Order.{slab_order}
use Rattle.slabs.proofs.Answering.{trusting_slabs}

pub slab_at_one : (s k : ℕ) → OnlyOne (λ (r : ℕ). r ≡ slab_at s k)
slab_at_one s k = equal (slab_at s k)

pub lesser_one : (a b : ℕ) → OnlyOne (λ (r : ℕ). r ≡ min a b)
lesser_one a b = equal (min a b)

pub greater_one : (a b : ℕ) → OnlyOne (λ (r : ℕ). r ≡ max a b)
greater_one a b = equal (max a b)

-- two nodes may both be lowest, of one height: then their slabs are one
module _ {keys : List ℕ} {s f₁ f₂ l₁ l₂ : ℕ} (a : Reaches keys s f₁ l₁) (b : Reaches keys s f₂ l₂) where
  first_one : f₁ ≡ f₂
  first_one =
      omega (arith, a.first_is, b.first_is, slab_order s a.low b.low (a.lowest.against b.low b.lowest.one_of), slab_order s b.low a.low (b.lowest.against a.low a.lowest.one_of))

  last_one : l₁ ≡ l₂
  last_one =
      omega (arith, a.last_is, b.last_is, slab_order s b.high a.high (a.highest.against b.high b.highest.one_of), slab_order s a.high b.high (b.highest.against a.high a.highest.one_of))

reach_is : {x y : Reach} → x.first ≡ y.first → x.last ≡ y.last → x ≡ y
reach_is f l = λ i. record { first = f i; last = l i }

of_cell_one : (a : Result ℕ Refusal) (keys : List ℕ) (s : ℕ) → OnlyOne (OfCell a keys s)
of_cell_one (Err k) keys s q r p h = p ∙ sym h
of_cell_one (Ok n) keys s (Ok x) (Ok y) (_, p) (_, q) = ap Ok (reach_is (first_one p q) (last_one p q))
of_cell_one (Ok n) keys s (Ok x) (Err k) (h, _) (g, _) = absurd (omega arith)
of_cell_one (Ok n) keys s (Err k) (Ok x) (h, _) (g, _) = absurd (omega arith)
of_cell_one (Ok n) keys s (Err j) (Err k) (_, p) (_, q) = ap Err (p ∙ sym q)

pub slabs_one : (t : Tree) (L v s : ℕ) → OnlyOne (SlabsSays t L v s)
slabs_one t L v s =
    handed_on (λ (c : Dual). DualSays t L v c.keys c.distances c.places c.tried) (λ c r. OfCell c.tried c.keys s r) (dual_cell_one t L v)
    (λ c. of_cell_one c.tried c.keys s)

pub slabs_trusting_one : (ns : Nodes) (L v s : ℕ) → OnlyOne (TrustingSays ns L v s)
slabs_trusting_one ns L v s =
    handed_on (λ (c : Dual). CellTrustingSays ns [] L v c.keys c.distances c.places c.tried) (λ c r. OfCell c.tried c.keys s r)
    (dual_cell_trusting_one ns [] L v) (λ c. of_cell_one c.tried c.keys s)

-- of a sound tree, what the call may answer is what the trusting one answers
pub trusting_is_slabs : (t : Tree) → Sound t → (L v s : ℕ) → v < 2 ^ 64 → (q r : Result Reach Refusal) → SlabsSays t L v s q → TrustingSays (nodes t) L v s r → q ≡ r
trusting_is_slabs t S L v s word q r p h = slabs_one t L v s q r p (trusting_slabs t S L v s word r h)
