-- How a list and a dual cell of a tree that is trusted to be sound are handed to a host. Assumes nothing.
use Rattle.std.specs.Prelude.{ℕ, List, Float, Result}
use Rattle.refusals.specs.declared.Refusal.{Refusal}
use Rattle.refusals.specs.Refusals.{Hands}
use Rattle.tree.specs.Down.{Nodes}
use Rattle.vertices.specs.Listing.{Lists, TrustingSays as ListTrustingSays}
use Rattle.dual.specs.declared.Dual.{Dual}
use Rattle.dual.specs.Dual.{TrustingSays as DualTrustingSays}
use Rattle.mittenhelm_reading.specs.Reading.{Eight, HandsEight}

-- The answer, with the tables that it leaves, is the one that `list_trusting` promises.
abbrev pub HandsTrustedList : Nodes → ℕ → Lists → Lists → ℕ → ℕ → ℕ → Type 0
HandsTrustedList n start before after was r out = (a : Result ℕ Refusal) × ListTrustingSays n start before after a × Hands a was r out

-- The answer is the one that `dual_cell_trusting` promises.
abbrev pub HandsTrustedDual : Nodes → List Float → ℕ → ℕ → Eight → ℕ → Eight → Type 0
HandsTrustedDual n ds L v was r out =
    (a : Dual) × DualTrustingSays n ds L v a.keys a.distances a.places a.tried × HandsEight a.keys a.distances a.places a.tried was r out
