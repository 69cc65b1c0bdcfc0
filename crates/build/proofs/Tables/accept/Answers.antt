-- `accept` meets its contract: it stores, then it advances. Assumes nothing.
use Rattle.build.proofs.Laws.{ready_leaves, accept_is}
use Rattle.build.proofs.Tables.accept.Goals as goal

pub advance-requires : goal.advance-requires
advance-requires c = ready_leaves _ _ _ _ c.requires c.store-m.ensures.stored.0

pub returns-clause-accepted : goal.returns-clause-accepted
returns-clause-accepted c = accept_is _ _ _ _ _ _ _ c.store-m.ensures.stored.0 c.store-m.ensures.stored.1 c.advance.ensures
