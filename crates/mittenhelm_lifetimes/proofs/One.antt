-- One answer only: of each exported call, what is returned, the out parameter and the tables are settled by its promise. Assumes nothing.
use Prim.Native.Nat.{ℕ}
use mathlib.Core.Path.{◌≡◌, subst}
use Rattle.std.specs.Prelude.{Result}
use Rattle.morton.proofs.One.{OnlyOne}
use Rattle.refusals.specs.declared.Refusal.{Refusal}
use Rattle.refusals.specs.Refusals.{Hands}
use Rattle.refusals.proofs.One.{hand_one}
use Rattle.tree.specs.Tree.{Tree}
use Rattle.tree.specs.Down.{Nodes}
use Rattle.lifetimes.specs.Needed.{Reports, LifetimesSays}
use Rattle.lifetimes.specs.Trusted.{TrustingSays}
use Rattle.lifetimes.proofs.One.{lifetimes_one as lifetimes-answer-one, lifetimes_trusting_one as trusting-answer-one}
use Rattle.mittenhelm_lifetimes.specs.Most.{HandsLifetimes, HandsTrustedLifetimes}

-- what is handed over of one answer with its tables
reported_on : (says : Reports → Result ℕ Refusal → Type 0) → OnlyOne (λ (o : Reports × Result ℕ Refusal). says o.0 o.1) → (was : ℕ)
    → OnlyOne (λ (r : Reports × (ℕ × ℕ)). (a : Result ℕ Refusal) × says r.0 a × Hands a was r.1.0 r.1.1)
reported_on says answer was r s p q =
    let e : ◌≡◌ {A = Reports × Result ℕ Refusal} (r.0, p.0) (s.0, q.0) = answer (r.0, p.0) (s.0, q.0) p.1 q.1 in
    let h : r.1 ≡ s.1 = hand_one q.0 was r.1 s.1 (subst (λ (o : Reports × Result ℕ Refusal). Hands o.1 was r.1.0 r.1.1) e p.2) q.2 in
    λ i. ((e i).0, h i)

pub lifetimes_one : (t : Tree) (s was : ℕ) (before : Reports)
    → OnlyOne (λ (r : Reports × (ℕ × ℕ)). HandsLifetimes t s before r.0 was r.1.0 r.1.1)
lifetimes_one t s was before = reported_on (LifetimesSays t s before) (lifetimes-answer-one t s before) was

pub lifetimes_trusting_one : (n : Nodes) (s was : ℕ) (before : Reports)
    → OnlyOne (λ (r : Reports × (ℕ × ℕ)). HandsTrustedLifetimes n s before r.0 was r.1.0 r.1.1)
lifetimes_trusting_one n s was before = reported_on (TrustingSays n s before) (trusting-answer-one n s before) was
