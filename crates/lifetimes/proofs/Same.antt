-- Tables that stay lent by the same callers, for the same nodes. Assumes nothing.
use Rattle.std.proofs.Common.{◌≡◌, ℕ, List, sym, ◌∙◌, subst₂}
use Rattle.tree.specs.Down.{Nodes}
use Rattle.lifetimes.specs.declared.Halves.{Halves}
use Rattle.lifetimes.specs.Steps.{SameHalves, SpansLeft}

pub same_then : {was here left : Halves} → SameHalves was here → SameHalves here left → SameHalves was left
same_then a b = record { nodes = b.nodes ∙ a.nodes; many = b.many ∙ a.many; first = b.first ∙ a.first; last = b.last ∙ a.last }

pub spans_same : {n : Nodes} {s : ℕ} {first last first' last' : List ℕ}
    → SpansLeft n s first last → first' ≡ first → last' ≡ last → SpansLeft n s first' last'
spans_same {n} {s} p e f = subst₂ (SpansLeft n s) (sym e) (sym f) p
