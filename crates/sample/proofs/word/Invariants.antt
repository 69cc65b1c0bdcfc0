-- What the loop of `word` keeps: the number so far is that of the digits so far.
use Rattle.sample.proofs.Digits.{SoFar}
use Rattle.sample.proofs.word.Given as goal

abbrev pub invariant-loop-i : goal.invariant-loop-i
invariant-loop-i l = SoFar l.text l.at l.n l.i
