-- `Key::level` meets its contract: three bits make a level. Assumes nothing.
use Rattle.std.proofs.Common.{sym, ap, ◌∙◌}
use Rattle.morton.specs.Level.{deepest, level}
use Rattle.morton.proofs.Levels.{level_at_bit, largest_zero}
use Rattle.morton.proofs.Key.level.Goals as goal

pub returns-then-n-eq0 : goal.returns-then-n-eq0
returns-then-n-eq0 c = sym (ap level c.if-n-eq0.true ∙ largest_zero deepest)

pub returns : goal.returns
returns c = sym (level_at_bit _ _ c.ilog2.ensures.power_le c.ilog2.ensures.next_power_gt c.ilog2.ensures.bound)
