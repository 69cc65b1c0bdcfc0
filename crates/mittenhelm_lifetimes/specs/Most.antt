-- How a report of lifetimes is handed to a host. Assumes nothing.
use Rattle.std.specs.Prelude.{ℕ, Result}
use Rattle.refusals.specs.declared.Refusal.{Refusal}
use Rattle.refusals.specs.Refusals.{Hands}
use Rattle.tree.specs.Tree.{Tree}
use Rattle.tree.specs.Down.{Nodes}
use Rattle.lifetimes.specs.Needed.{Reports, LifetimesSays}
use Rattle.lifetimes.specs.Trusted.{TrustingSays}

-- The answer, with the tables that it leaves, is the one that `lifetimes` promises; the greatest number goes to its place.
abbrev pub HandsLifetimes : Tree → ℕ → Reports → Reports → ℕ → ℕ → ℕ → Type 0
HandsLifetimes t s before after was r out = (a : Result ℕ Refusal) × LifetimesSays t s before after a × Hands a was r out

-- The answer, with the tables that it leaves, is the one that `lifetimes_trusting` promises.
abbrev pub HandsTrustedLifetimes : Nodes → ℕ → Reports → Reports → ℕ → ℕ → ℕ → Type 0
HandsTrustedLifetimes n s before after was r out = (a : Result ℕ Refusal) × TrustingSays n s before after a × Hands a was r out
