-- `advance` meets its contract: item n is asked for, if there is one. Assumes nothing.
use Rattle.build.proofs.Walk.{called}
use borrow.Author.Tests.{lt-ltb}
use Rattle.build.specs.Build.{advance_of, moved_of}
use Rattle.build.proofs.Tables.advance.Goals as goal

pub returns-then-n-leaves : goal.returns-then-n-leaves
unfolding advance_of moved_of
returns-then-n-leaves c = rw (lt-ltb _ _ c.if-n-leaves.true, c.ask_for-next.ensures, c.item_at-key.ensures)

pub returns-else-n-leaves : goal.returns-else-n-leaves
unfolding advance_of moved_of
returns-else-n-leaves c = search called
