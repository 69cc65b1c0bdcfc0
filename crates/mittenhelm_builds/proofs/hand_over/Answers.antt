-- `hand_over` meets its contract: each case of the answer goes to its places. Assumes nothing.
use Rattle.mittenhelm_builds.proofs.Words.{over_ask, over_finished, over_refused}
use Rattle.mittenhelm_builds.proofs.hand_over.Goals as goal

pub returns-in-Ok-Ask : goal.returns-in-Ok-Ask
returns-in-Ok-Ask c = let k = c.in-Ok-Ask in over_ask _ _ _ _ _ k.is _ _ (rw k.is at k.field-0-is) c.write_state.ensures

pub returns-in-Ok-Finished : goal.returns-in-Ok-Finished
returns-in-Ok-Finished c = let k = c.in-Ok-Finished in over_finished _ _ _ _ _ k.is _ (rw k.is at k.field-0-is) c.write_state-in-Ok-Finished.ensures

pub returns-in-Err : goal.returns-in-Err
returns-in-Err c = over_refused _ _ _ _ _ c.in-Err.is c.number.ensures
