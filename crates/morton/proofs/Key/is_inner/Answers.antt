-- `Key::is_inner` meets its contract. Assumes nothing.
use Rattle.std.proofs.Common.{rules, ◌≡◌, false, ◌&&◌, leb, sym, ◌∙◌, arith}
use Rattle.morton.proofs.Vertices.{inner_off, inner_range, inner_low, inner_code}
use Rattle.morton.proofs.Key.is_inner.Goals as goal

pub returns-then-not-contains : goal.returns-then-not-contains
returns-then-not-contains c =
    let off : (leb 1 c.args.level && leb c.args.level 20) ≡ false = search rules in
    sym (inner_off _ _ off)

pub returns-then-q-t : goal.returns-then-q-t
returns-then-q-t c =
    let on = inner_range c.args.level (search rules) in
    sym (inner_low _ _ on.0 on.1 (omega arith) c.if-q-t.true)

pub returns : goal.returns
returns c =
    let on = inner_range c.args.level (search rules) in
    c.is_inside.ensures ∙ inner_code _ _ on.0 on.1 (omega arith) c.if-q-t.false
