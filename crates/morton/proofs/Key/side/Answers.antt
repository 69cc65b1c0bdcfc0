-- `Key::side` meets its contract. Assumes nothing.
use Rattle.std.proofs.Common.{◌≡◌, ◌-◌, ◌*◌, ◌^◌, ◌≤◌, arith, sym, ◌∙◌}
use Rattle.std.proofs.lemmas.Grind.{common_steps}
use Rattle.morton.specs.Level.{deepest}
use Rattle.morton.proofs.Vertices.{up_pow, inner_level}
use Rattle.morton.proofs.Key.side.Goals as goal

pub overflow_mul-q : goal.overflow_mul-q
overflow_mul-q c = omega (arith, inner_level _ _ (sym c.is_inner.ensures ∙ c.if-not-is_inner.false))

pub overflow_sub-q : goal.overflow_sub-q
overflow_sub-q c = omega (arith, inner_level _ _ (sym c.is_inner.ensures ∙ c.if-not-is_inner.false))

pub returns : goal.returns
returns c =
    let L = c.args.level in
    let deep : L ≤ deepest = omega (arith, inner_level _ _ (sym c.is_inner.ensures ∙ c.if-not-is_inner.false)) in
    let e : 2 ^ (63 - L * 3) ≡ 8 ^ (deepest - L) = up_pow L deep in
    rw (← e) (grind (arith, common_steps))
