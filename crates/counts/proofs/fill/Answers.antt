-- A read into the buffer's end takes what it puts there.
use Rattle.std.proofs.Common.{rules, sym, subst}
use Rattle.std.specs.Io.KnownBytes.{Consumes}
use Rattle.std.proofs.KnownBytes.{Consumes-trans}
use Rattle.counts.proofs.Reading.{joined}
use Rattle.counts.proofs.fill.Goals as goal

pub loop-got-preserved : goal.loop-got-preserved
loop-got-preserved g c =
    let whole = joined _ _ _ _ _ c.loop-got.invariant.0 c.in_ok-n.ensures.bound.0 in
    (search rules, subst (Consumes _ _) (sym whole) (Consumes-trans _ _ _ _ _ c.loop-got.invariant.1 c.in_ok-n.ensures.bytes.0))
