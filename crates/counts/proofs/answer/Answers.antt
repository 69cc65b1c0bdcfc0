-- The line of what was read is the line of the whole input.
use Rattle.std.proofs.Common.{◌∙◌, rules}
use Rattle.counts.proofs.Reading.{answered}
use Rattle.counts.proofs.answer.Goals as goal

pub returns : goal.returns
returns g c =
    answered c.write_all.result _ _ _ _ c.fill.new.buffer _ c.in_ok-got.got
    (search rules) c.in_ok-got.ensures.bound c.in_ok-got.ensures.bytes c.in_ok-got.ensures.end (c.as_bytes.ensures ∙ c.line-text.ensures.line) c.write_all.ensures.bytes
