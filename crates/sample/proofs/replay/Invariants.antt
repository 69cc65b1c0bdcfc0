-- What the loop of `replay` keeps: the counts are those of the lines so far.
use Rattle.sample.specs.Reading.{Counts}
use Rattle.sample.proofs.replay.Given as goal

abbrev pub invariant-loop : goal.invariant-loop
invariant-loop g l = record {
  callable : goal.F-IsAlwaysCallable g l.agrees;
  counts : Counts (goal.F-step g) l.fn.agrees (g.R.Read.remaining l.initial.input) l.agrees (g.R.Read.remaining l.input) l.tally;
}
