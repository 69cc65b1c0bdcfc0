-- `store` meets its contract: the node, then the leaf or the children, each at its place. Assumes nothing.
use mathlib.Core.Path.{refl}
use Rattle.build.specs.Build.{first_of, stored_of, leaves_of, queue_of}
use Rattle.build.proofs.Tables.store.Goals as goal

pub returns-then-split-clause-stored : goal.returns-then-split-clause-stored
unfolding first_of stored_of leaves_of queue_of
returns-then-split-clause-stored c = rw (c.if-split.true, c.put_children.ensures) (refl, refl)

pub returns-clause-stored : goal.returns-clause-stored
unfolding first_of stored_of leaves_of queue_of
returns-clause-stored c = rw c.if-split.false (refl, refl)
