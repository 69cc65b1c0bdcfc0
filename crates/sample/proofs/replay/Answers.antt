-- `replay` meets its contract: a line more is read, asked and counted. Assumes nothing.
use Rattle.std.proofs.Common.{rules, of_calls}
use Rattle.sample.specs.Reading.Counts.{none, more}
use Rattle.sample.proofs.replay.Goals as goal

pub loop-init : goal.loop-init
loop-init g c = record { callable = search rules; counts = none }

pub loop-preserved : goal.loop-preserved
loop-preserved g c = record {
  callable = search (rules, of_calls);
  counts = rw c.counted-tally.ensures (more {h = c.agrees-same.new.self} {same = c.agrees-same.result} c.loop.invariant.counts c.in_ok-l.ensures (search of_calls));
}
