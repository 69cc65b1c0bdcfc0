-- `sound` meets its contract: `Seen` is what the pass has shown. Assumes nothing.
use Rattle.tree.proofs.Pass.{seen_none, seen_more, after_split, after_leaf, accepted, all_eight, not_too_deep, leaf_next, first_here, first_none, no_more_keys, no_more_leaves, said, denied, cell_fits}
use mathlib.Core.Path.{sym, ◌∙◌}
use native.Mathlib.Omega.{arith}
use Rattle.tree.proofs.Tree.sound.Goals as goal

pub loop-i-init : goal.loop-i-init
loop-i-init c = seen_none _ _ _ _ (said _ _ c.if-not-stands.false c.stands.ensures)

pub loop-i-preserved-then-stands : goal.loop-i-preserved-then-stands
loop-i-preserved-then-stands c =
    seen_more c.loop-i.invariant (sym c.is_finite.ensures ∙ c.if-not-is_finite.false)
    (after_split c.loop-i.invariant.walked c.loop-i-test.true (omega arith) (said _ _ c.if-not-eight_at.false c.eight_at.ensures)
    (sym c.from.ensures ∙ c.if-from-child.false))

pub loop-i-preserved : goal.loop-i-preserved
loop-i-preserved c =
    seen_more c.loop-i.invariant (sym c.is_finite.ensures ∙ c.if-not-is_finite.false)
    (after_leaf c.loop-i.invariant.walked c.loop-i-test.true (said _ _ c.if-not-stands-2.false c.stands-else-stands.ensures) c.if-firsts-i-ne0.false)

pub returns-then-k-top : goal.returns-then-k-top
returns-then-k-top c = λ S. not_too_deep c.loop-i.invariant.walked S (said _ _ c.if-stands.true c.stands-in-loop-i.ensures) (omega arith)

pub returns-then-not-eight_at : goal.returns-then-not-eight_at
returns-then-not-eight_at c = λ S.
    denied _ _ c.if-not-eight_at.true c.eight_at.ensures
    (all_eight c.loop-i.invariant.walked S c.loop-i-test.true (said _ _ c.if-stands.true c.stands-in-loop-i.ensures))

pub returns-then-from-child : goal.returns-then-from-child
returns-then-from-child c = λ S.
    c.if-from-child.true
    (c.from.ensures ∙ first_here c.loop-i.invariant.walked S c.loop-i-test.true (said _ _ c.if-stands.true c.stands-in-loop-i.ensures))

pub returns-then-not-stands-2 : goal.returns-then-not-stands-2
returns-then-not-stands-2 c = λ S.
    denied _ _ c.if-not-stands-2.true c.stands-else-stands.ensures
    (leaf_next c.loop-i.invariant.walked S c.loop-i-test.true (denied _ _ c.if-stands.false c.stands-in-loop-i.ensures))

pub returns-then-firsts-i-ne0 : goal.returns-then-firsts-i-ne0
returns-then-firsts-i-ne0 c = λ S.
    c.if-firsts-i-ne0.true (first_none c.loop-i.invariant.walked S c.loop-i-test.true (denied _ _ c.if-stands.false c.stands-in-loop-i.ensures))

pub returns-then-child-keys : goal.returns-then-child-keys
returns-then-child-keys c = λ S. no_more_keys c.loop-i.invariant.walked S c.loop-i-test.false (omega arith)

pub returns-then-leaf-leaves : goal.returns-then-leaf-leaves
returns-then-leaf-leaves c = λ S. no_more_leaves c.loop-i.invariant.walked S (omega arith) (omega arith)

pub returns : goal.returns
returns c = accepted c.loop-i.invariant c.loop-i-test.false c.if-child-keys.false c.if-leaf-leaves.false (omega arith) (omega arith)

pub overflow_mul-k : goal.overflow_mul-k
overflow_mul-k c = record { fits = cell_fits (c.loop-i.invariant.walked.cells _ c.loop-i-test.true) }
