-- `is_cell_to` meets its contract, test by test. Assumes nothing.
use Prim.Native.Nat.{ℕ}
use lib.Dec.{leb}
use mathlib.Core.Path.{ap}
use Rattle.build.proofs.Walk.{and_yes, via_true, called}
use Rattle.build.specs.Build.{cell_to}
use Rattle.build.proofs.is_cell_to.Goals as goal

pub returns-then-not-is_cell : goal.returns-then-not-is_cell
unfolding cell_to
returns-then-not-is_cell c = search called

pub returns : goal.returns
unfolding cell_to
returns c = and_yes _ _ _ (via_true _ _ c.is_cell.ensures c.if-not-is_cell.false) (ap (λ (l : ℕ). leb l c.args.top) c.level.ensures)
