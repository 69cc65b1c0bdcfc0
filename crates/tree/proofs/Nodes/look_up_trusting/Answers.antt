-- `look_up_trusting` meets its contract. Assumes nothing.
use mathlib.Core.Path.{sym, ◌∙◌}
use native.Mathlib.Omega.{arith}
use Rattle.tree.proofs.Finding.{shifted, found_at, nothing_at}
use Rattle.tree.proofs.Nodes.look_up_trusting.Goals as goal

pub returns-then-node-eq0 : goal.returns-then-node-eq0
returns-then-node-eq0 c =
    nothing_at _ _ _ _ _ _ (sym c.is_cell.ensures ∙ c.if-not-is_cell.false) c.level-level.ensures c.go_down-node.ensures c.if-node-eq0.true

pub returns : goal.returns
returns c =
    found_at _ _ _ _ _ _ (sym c.is_cell.ensures ∙ c.if-not-is_cell.false) c.level-level.ensures c.go_down-node.ensures (omega arith) _ _
    (shifted _ _) c.distance_at.ensures
