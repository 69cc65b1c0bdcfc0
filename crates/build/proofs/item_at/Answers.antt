-- `item_at` meets its contract: the place is inside the queue, if that has any. Assumes nothing.
use mathlib.Core.Path.{ap, sym}
use Prim.Native.Nat.{ℕ, ◌%◌}
use lib.ListN.{get_or, length, get_or-eq_default}
use Rattle.build.specs.Build.{item_at}
use native.Mathlib.Omega.{arith}
use Rattle.build.proofs.item_at.Goals as goal

pub returns-then-queue-gt0 : goal.returns-then-queue-gt0
unfolding item_at
returns-then-queue-gt0 c = ap (λ (x : ℕ). get_or c.args.queue.now x 0) c.place-at.ensures

pub returns-else-queue-gt0 : goal.returns-else-queue-gt0
unfolding item_at
returns-else-queue-gt0 c = let a = c.args in sym (get_or-eq_default a.queue.now 0 {n = a.item % length a.queue.now} (omega arith))
