-- `mittenhelm_start` meets its contract: it hands on what `start` answers. Assumes nothing.
use Rattle.build.specs.Build.{lengths_of}
use Rattle.mittenhelm_builds.proofs.Words.{start_deep, start_wordless, start_over}
use Rattle.mittenhelm_builds.proofs.mittenhelm_start.Goals as goal

pub returns-then-bound-gt-LIMIT : goal.returns-then-bound-gt-LIMIT
returns-then-bound-gt-LIMIT c = rw c.number.ensures (start_deep _ _ _ _ c.if-bound-gt-LIMIT.true)

pub returns-then-state-ne9 : goal.returns-then-state-ne9
returns-then-state-ne9 c = rw c.number-then-state-ne9.ensures (start_wordless _ _ _ _ c.if-bound-gt-LIMIT.false c.if-state-ne9.true)

pub returns : goal.returns
unfolding lengths_of
returns c = start_over _ _ _ _ _ _ c.if-bound-gt-LIMIT.false c.if-state-ne9.false c.start-answer.ensures c.hand_over.ensures
