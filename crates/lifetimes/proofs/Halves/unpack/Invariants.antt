-- What the loop of `unpack` keeps: the leaves below i are unpacked, the others as they were.
use Rattle.std.proofs.Common.{◌≡◌, ℕ, ◌<◌, ◌≤◌, length, get_or}
use Rattle.lifetimes.specs.Steps.{SameHalves, Unpacked}
use Rattle.lifetimes.proofs.Halves.unpack.Given as goal

abbrev pub invariant-loop-i : goal.invariant-loop-i
invariant-loop-i l = let was = l.initial.self in let here = l.self in record {
  same : SameHalves was here;
  first_long : length here.first.now ≡ length was.first.now;
  last_long : length here.last.now ≡ length was.last.now;
  each : (i : ℕ) → i < l.i → Unpacked (get_or was.first.now i 0) (get_or was.last.now i 0) (get_or here.first.now i 0) (get_or here.last.now i 0);
  rest : (i : ℕ) → l.i ≤ i → (get_or here.first.now i 0 ≡ get_or was.first.now i 0) × (get_or here.last.now i 0 ≡ get_or was.last.now i 0);
}
