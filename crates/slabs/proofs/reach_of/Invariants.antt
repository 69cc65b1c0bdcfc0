-- What the loop of `reach_of` keeps, and how it ends.
use Rattle.slabs.proofs.Outermost.{Both}
use Rattle.slabs.proofs.reach_of.Given as goal

abbrev pub invariant-loop-i : goal.invariant-loop-i
invariant-loop-i l = Both l.exponent l.nodes l.i l.first l.last
