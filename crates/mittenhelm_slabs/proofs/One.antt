-- One answer only: of each exported call, what is returned and both out parameters are settled by its promise. Assumes nothing.
use Prim.Native.Nat.{ℕ}
use Rattle.morton.proofs.One.{OnlyOne, both, handed_on}
use Rattle.tree.specs.Tree.{Tree}
use Rattle.tree.specs.Down.{Nodes}
use Rattle.std.specs.Prelude.{Result, Ok, Err}
use Rattle.refusals.specs.declared.Refusal.{Refusal}
use Rattle.refusals.specs.Refusals.{number}
use Rattle.slabs.specs.declared.Reach.{Reach}
use Rattle.slabs.specs.Heights.{SlabsSays, TrustingSays}
use Rattle.slabs.proofs.One.{slabs_one as slabs-answer-one, slabs_trusting_one as trusting-answer-one}
use Rattle.mittenhelm_slabs.specs.Spans.{Span, span_at, HandsSpan, HandsSlabs, HandsTrustedSlabs}

span_one : (a : Result Reach Refusal) (was : Span) → OnlyOne (λ (r : ℕ × Span). HandsSpan a was r.0 r.1)
span_one (Ok x) was = both 0 (span_at x.first x.last)
span_one (Err e) was = both (number e) was

pub slabs_one : (t : Tree) (L v s : ℕ) (was : Span) → OnlyOne (λ (r : ℕ × Span). HandsSlabs t L v s was r.0 r.1)
slabs_one t L v s was = handed_on (SlabsSays t L v s) (λ a r. HandsSpan a was r.0 r.1) (slabs-answer-one t L v s) (λ a. span_one a was)

pub slabs_trusting_one : (n : Nodes) (L v s : ℕ) (was : Span) → OnlyOne (λ (r : ℕ × Span). HandsTrustedSlabs n L v s was r.0 r.1)
slabs_trusting_one n L v s was = handed_on (TrustingSays n L v s) (λ a r. HandsSpan a was r.0 r.1) (trusting-answer-one n L v s) (λ a. span_one a was)
