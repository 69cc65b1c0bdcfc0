-- What the loop of `pull_all` keeps.
use Rattle.lifetimes.specs.Steps.{SameHalves, Widened}
use Rattle.lifetimes.proofs.Halves.pull_all.Given as goal

abbrev pub invariant-loop-number : goal.invariant-loop-number
invariant-loop-number l = let was = l.initial.self in let here = l.self in record {
  same : SameHalves was here;
  widened : Widened l.cell.numbers l.number-index l.cell.low l.cell.high was.first.now was.last.now here.first.now here.last.now;
}
