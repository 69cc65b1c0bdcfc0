-- What the loop of `lower_at` keeps.
use Prim.Native.Nat.{ℕ, ◌<◌}
use mathlib.Core.Path.{◌≡◌}
use lib.ListN.{length, get_or}
use Rattle.vertices.specs.Block.{lowered_at}
use Rattle.vertices.proofs.Block.lower_at.Given as goal

abbrev pub invariant-loop-o : goal.invariant-loop-o
invariant-loop-o l =
    let b = l.fn.self in
    (length l.out ≡ 8) × ((i : ℕ) → i < l.o → get_or l.out i 0 ≡ lowered_at l.nodes.firsts.now b.at b.mask l.mask l.q i)
