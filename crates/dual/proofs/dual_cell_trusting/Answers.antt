-- `dual_cell_trusting` meets its contract. Assumes nothing.
use mathlib.Core.Path.{refl, sym, ◌∙◌}
use native.Mathlib.Omega.{arith}
use Rattle.morton.proofs.Vertices.{inner_level}
use Rattle.dual.proofs.Sharing.{inner_ready}
use Rattle.dual.proofs.Filling.{trusting_answers}
use Rattle.dual.proofs.dual_cell_trusting.Goals as goal

pub overflow_mul-level : goal.overflow_mul-level
overflow_mul-level c = let l = inner_level _ _ (sym c.is_inner.ensures ∙ c.if-not-is_inner.false) in record { fits = omega arith }

pub overflow_sub-level : goal.overflow_sub-level
overflow_sub-level c = let l = inner_level _ _ (sym c.is_inner.ensures ∙ c.if-not-is_inner.false) in omega arith

pub around-requires : goal.around-requires
around-requires c = inner_ready _ _ (omega arith) (sym c.is_inner.ensures ∙ c.if-not-is_inner.false)

pub returns : goal.returns
returns c =
    let r = c.around.result in
    trusting_answers _ _ _ _ r.keys r.distances r.places _ r.tried (sym c.is_inner.ensures ∙ c.if-not-is_inner.false) c.if-nodes-eq1.false refl c.around.ensures
