-- `mittenhelm_distance` meets its contract: it hands on what `distance` answers. Assumes nothing.
use Rattle.std.proofs.Common.{rules}
use Rattle.build.proofs.Laws.{handed_back}
use Rattle.mittenhelm_builds.proofs.Words.{distance_wordless, distance_deep, distance_over}
use Rattle.mittenhelm_builds.proofs.mittenhelm_distance.Goals as goal

pub returns-then-state-ne9 : goal.returns-then-state-ne9
returns-then-state-ne9 c = rw c.number.ensures (distance_wordless _ _ _ _ c.if-state-ne9.true)

pub returns-then-state-from : goal.returns-then-state-from
returns-then-state-from c = rw c.number-then-state-from.ensures (distance_deep _ _ _ _ c.if-state-ne9.false (rw c.from.ensures at c.if-state-from.true))

pub returns : goal.returns
returns c =
    let says = rw c.read_state.ensures at c.distance-answer.ensures.answered in
    distance_over _ _ _ _ _ _ _ c.if-state-ne9.false
    (handed_back c.distance-answer.new.tables _ _ (search rules) (search rules) (search rules) (search rules) (search rules) says) c.hand_over.ensures
