-- What the loop of `put_children` keeps.
use Rattle.build.proofs.Ring.{Putting}
use Rattle.build.proofs.put_children.Given as goal

abbrev pub invariant-loop-i : goal.invariant-loop-i
invariant-loop-i l = Putting l.initial.queue l.key l.item l.queue l.at l.i
