-- How the slabs of a cell are handed to a host. Assumes nothing.
use Rattle.std.specs.Prelude.{ℕ, ◌≡◌, Result, Ok, Err}
use Rattle.refusals.specs.declared.Refusal.{Refusal}
use Rattle.refusals.specs.Refusals.{number}
use Rattle.tree.specs.Tree.{Tree}
use Rattle.tree.specs.Down.{Nodes}
use Rattle.slabs.specs.declared.Reach.{Reach}
use Rattle.slabs.specs.Heights.{SlabsSays, TrustingSays}

-- The first and the last slab, in two out parameters.
pub record Span : Type 0 where
  pub first : ℕ
  pub last : ℕ

abbrev pub span_at : ℕ → ℕ → Span
span_at first last = record { first = first; last = last }

abbrev pub HandsSpan : Result Reach Refusal → Span → ℕ → Span → Type 0
HandsSpan (Ok x) was r out = (r ≡ 0) × (out ≡ span_at x.first x.last)
HandsSpan (Err e) was r out = (r ≡ number e) × (out ≡ was)

-- The answer is the one that `slabs` promises.
abbrev pub HandsSlabs : Tree → ℕ → ℕ → ℕ → Span → ℕ → Span → Type 0
HandsSlabs t L v s was r out = (a : Result Reach Refusal) × SlabsSays t L v s a × HandsSpan a was r out

-- The answer is the one that `slabs_trusting` promises.
abbrev pub HandsTrustedSlabs : Nodes → ℕ → ℕ → ℕ → Span → ℕ → Span → Type 0
HandsTrustedSlabs n L v s was r out = (a : Result Reach Refusal) × TrustingSays n L v s a × HandsSpan a was r out
