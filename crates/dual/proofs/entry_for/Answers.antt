-- `entry_for` meets its contract. Assumes nothing.
use native.Mathlib.Omega.{arith}
use Rattle.tree.proofs.Finding.{shifted}
use Rattle.dual.proofs.Sharing.{entry_nothing, entry_row, entry_one}
use Rattle.dual.proofs.entry_for.Goals as goal

pub returns-then-at-eq0 : goal.returns-then-at-eq0
returns-then-at-eq0 c = let p = c.requires in (entry_nothing _ _ _ _ _ p.1 p.4 p.0 c.if-at-eq0.true, omega arith)

pub returns-then-at-level : goal.returns-then-at-level
returns-then-at-level c = let p = c.requires in (entry_row _ _ _ _ _ p.1 p.4 (omega arith) c.if-at-level.true _ c.distance_at.ensures, omega arith)

pub returns : goal.returns
returns c = let p = c.requires in (entry_one _ _ _ _ _ p.1 p.4 (omega arith) (omega arith) _ _ (shifted _ _) c.distance_at-2.ensures, omega arith)
