-- `distance` meets its contract: it is refused, or accepted. Assumes nothing.
use Rattle.build.proofs.Laws.{call_ready, call_refused, call_accepted}
use Rattle.std.proofs.lemmas.Result.{err_from_is_err_and}
use Rattle.build.proofs.distance.Goals as goal

pub returns-in_err-refusal_of-clause-answered : goal.returns-in_err-refusal_of-clause-answered
returns-in_err-refusal_of-clause-answered c =
    let p = err_from_is_err_and c.from_residual.result c.from_residual.ensures.1 in
    rw (p.1, p.2) (call_refused _ _ _ c.refusal_of.ensures _ c.in_err-refusal_of.was)

pub accept-requires : goal.accept-requires
accept-requires c = call_ready _ _ _ c.refusal_of.ensures _ c.is_split-split.ensures c.in_ok-refusal_of.was

pub returns-clause-answered : goal.returns-clause-answered
returns-clause-answered c = call_accepted _ _ _ c.refusal_of.ensures _ c.is_split-split.ensures c.in_ok-refusal_of.was _ c.accept.ensures.accepted
