-- What the loop of `go_down` keeps.
use Prim.Native.Nat.{◌*◌, ◌-◌, ◌/◌, ◌≤◌}
use mathlib.Core.Path.{◌≡◌}
use Rattle.tree.specs.Down.{the_nodes}
use Rattle.tree.proofs.Finding.{Going}
use Rattle.tree.proofs.Nodes.go_down.Given as goal

abbrev pub invariant-loop-shift : goal.invariant-loop-shift
invariant-loop-shift l =
    (3 * (l.shift / 3) ≡ l.shift) × (l.shift / 3 ≤ l.fn.level) × Going (the_nodes l.fn.self) l.fn.level l.fn.key (l.fn.level - l.shift / 3) l.place

abbrev pub decreases-loop-shift : goal.decreases-loop-shift
decreases-loop-shift l = l.shift
