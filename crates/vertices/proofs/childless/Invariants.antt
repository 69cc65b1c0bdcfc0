-- What the loop of `childless` keeps.
use Prim.Native.Nat.{ℕ, ◌+◌, ◌<◌}
use mathlib.Core.Path.{◌≡◌}
use lib.ListN.{get_or}
use Rattle.vertices.proofs.childless.Given as goal

abbrev pub invariant-loop-w : goal.invariant-loop-w
invariant-loop-w l = l.any ≡ 0 → (v : ℕ) → v < l.w → get_or l.firsts (l.place + v) 0 ≡ 0
