-- `differ` meets its contract: a turn takes one leaf more. Assumes nothing.
use Rattle.std.proofs.Common.{refl, arith}
use Rattle.lifetimes.proofs.Counting.{differ_start, differ_skip, differ_up, differ_both}
use Rattle.lifetimes.proofs.differ.Goals as goal
use Rattle.lifetimes.proofs.differ.Goals.{then-a-b+then-b-needed, then-a-b+else-b-needed, else-a-b}

pub loop-i-init : goal.loop-i-init
loop-i-init c = differ_start c.args.first.now c.args.last.now c.args.needed.now c.requires.needed_value

pub loop-i-preserved : goal.loop-i-preserved
loop-i-preserved c =
    let k = c.loop-i in
    let first = c.args.first.now in
    let last = c.args.last.now in
    let was = c.args.needed.now in
    elim c.if-a-b.branch [
      | then-a-b+then-b-needed w ↦
          rw w.needed-is (differ_both first last k.i was k.needed k.invariant _ _ w.if-a-b.true refl w.if-b-needed.true refl)
      | then-a-b+else-b-needed w ↦
          let within = c.requires.first_len.1 k.i (omega (arith, c.requires.first_len.0)) in
          rw w.needed-is (differ_up first last k.i was k.needed k.invariant _ w.if-a-b.true within refl w.if-b-needed.false)
      | else-a-b w ↦ rw w.needed-is (differ_skip first last k.i was k.needed k.invariant w.if-a-b.false)
    ]
