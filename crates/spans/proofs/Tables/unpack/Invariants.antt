-- What the loop of `unpack` keeps.
use Prim.Native.Nat.{ℕ, ◌≤◌, ◌<◌}
use mathlib.Core.Path.{◌≡◌}
use lib.ListN.{length, get_or}
use Rattle.spans.specs.Tables.{Same}
use Rattle.spans.specs.Steps.{Unpacked}
use Rattle.spans.proofs.Tables.unpack.Given as goal

abbrev pub invariant-loop-i : goal.invariant-loop-i
invariant-loop-i l = record {
  same : Same l.initial.self l.self;
  first_long : length l.self.first.now ≡ length l.initial.self.first.now;
  last_long : length l.self.last.now ≡ length l.initial.self.last.now;
  unpacked : (k : ℕ) → k < l.i → Unpacked (get_or l.initial.self.first.now k 0) (get_or l.self.first.now k 0) (get_or l.self.last.now k 0);
  rest : (k : ℕ) → l.i ≤ k → get_or l.self.first.now k 0 ≡ get_or l.initial.self.first.now k 0;
}
