-- `drive` meets its contract. Assumes nothing.
use Rattle.std.proofs.Common.{◌≡◌, ◌+◌, ◌∙◌, ap, sym, refl, Result, Ok, drop, drop_of_length-le}
use Rattle.std.proofs.lemmas.Result.{err_from_is_err_and}
use Rattle.refusals.specs.declared.Refusal.{Refusal}
use Rattle.build.specs.declared.Answer.{Answer}
use Rattle.build.specs.Build.{tables_in, start_of}
use Rattle.counting.proofs.Bytes.{Going, started, going_start, going_on, ends_short, ends_finished, ends_refused}
use Rattle.counting.proofs.drive.Goals as goal
use Rattle.counting.proofs.drive.Goals.{After-start, After-distance-in-loop-four}

begun : (c : After-start) → c.start.result ≡ start_of c.args.bound (tables_in c.args.tables.now)
begun c = started _ c.start.ensures c.from-bound.ensures c.lengths.ensures

pub returns-in_err-answer : goal.returns-in_err-answer
returns-in_err-answer c =
    let p = err_from_is_err_and c.from_residual.result c.from_residual.ensures.1 in
    rw (p.1, p.2) (ends_refused (going_start (begun (goal.at.returns-in_err-answer c).After-start)) c.in_err-answer.was)

pub loop-four-init : goal.loop-four-init
loop-four-init c = rw c.as_chunks.ensures.front (going_start (sym c.in_ok-answer.was ∙ begun (goal.at.loop-four-init c).After-start))

pub returns-in_default : goal.returns-in_default
returns-in_default c = ends_finished c.loop-four.invariant (ap Ok c.in_default.is)

-- one distance more
next : (c : After-distance-in-loop-four) {a : Result Answer Refusal} → c.distance-in-loop-four.result ≡ a
    → Going c.args.bound c.args.bytes.now (tables_in c.args.tables.now) (drop (c.loop-four.four-index + 1) c.as_chunks.result.0.now) a (tables_in c.distance-in-loop-four.new.tables)
next c was =
    going_on c.as_chunks.result.0.now c.loop-four.four-index c.loop-four.invariant c.loop-four-test.true (ap Ok c.in-Ask.is) c.distance.ensures
    c.distance-in-loop-four.ensures.answered was

pub returns-in_err-answer-2 : goal.returns-in_err-answer-2
returns-in_err-answer-2 c =
    let p = err_from_is_err_and c.from_residual-in_err-answer-2.result c.from_residual-in_err-answer-2.ensures.1 in
    rw (p.1, p.2) (ends_refused (next (goal.at.returns-in_err-answer-2 c).After-distance-in-loop-four refl) c.in_err-answer-2.was)

pub loop-four-preserved : goal.loop-four-preserved
loop-four-preserved c = next (goal.at.loop-four-preserved c).After-distance-in-loop-four c.in_ok-answer-2.was

pub returns : goal.returns
returns c = ends_short c.loop-four.invariant (drop_of_length-le c.as_chunks.result.0.now c.loop-four-test.false)
