-- `line` meets its contract. Assumes nothing.
use Rattle.std.proofs.Common.{◌≡◌, ◌∷◌, ◌∙◌, ap, Ok, rules}
use Rattle.counting.proofs.Texts.{holds}
use Rattle.counting.proofs.Trees.{built}
use Rattle.counting.proofs.Lines.{line_empty, line_by}
use Rattle.counting.proofs.line.Goals as goal
use Rattle.counting.proofs.line.Goals.{In-Some}

pub returns-in_default-clause-line : goal.returns-in_default-clause-line
returns-in_default-clause-line c = line_empty _ c.in_default.ensures.cases c.short.ensures

pub returns-in_default-clause-holds : goal.returns-in_default-clause-holds
returns-in_default-clause-holds c = holds (search rules) (returns-in_default-clause-line c)

pub tree_line-requires : goal.tree_line-requires
tree_line-requires c = built _ _ _ _ _ (c.in-Ok-Finished.is ∙ ap Ok c.in-Ok-Finished.field-0-is) c.drive.ensures

whole : (c : In-Some) → c.args.input.now ≡ c.in-Some.bound.now ∷ c.in-Some.bytes.now
whole c = search rules

pub returns-in-Ok-Ask-clause-line : goal.returns-in-Ok-Ask-clause-line
returns-in-Ok-Ask-clause-line c =
    line_by _ (whole (goal.at.returns-in-Ok-Ask-clause-line c).In-Some) c.drive.ensures (c.in-Ok-Ask.is ∙ ap Ok c.in-Ok-Ask.field-0-is) c.short-in-Ok-Ask.ensures

pub returns-in-Ok-Ask-clause-holds : goal.returns-in-Ok-Ask-clause-holds
returns-in-Ok-Ask-clause-holds c = holds (search rules) (returns-in-Ok-Ask-clause-line c)

pub returns-in-Ok-Finished-clause-line : goal.returns-in-Ok-Finished-clause-line
returns-in-Ok-Finished-clause-line c =
    line_by _ (whole (goal.at.returns-in-Ok-Finished-clause-line c).In-Some) c.drive.ensures (c.in-Ok-Finished.is ∙ ap Ok c.in-Ok-Finished.field-0-is) c.tree_line.ensures

pub returns-in-Ok-Finished-clause-holds : goal.returns-in-Ok-Finished-clause-holds
returns-in-Ok-Finished-clause-holds c = holds (search rules) (returns-in-Ok-Finished-clause-line c)

pub returns-in-Err-clause-line : goal.returns-in-Err-clause-line
returns-in-Err-clause-line c = line_by _ (whole (goal.at.returns-in-Err-clause-line c).In-Some) c.drive.ensures c.in-Err.is c.refused.ensures

pub returns-in-Err-clause-holds : goal.returns-in-Err-clause-holds
returns-in-Err-clause-holds c = holds (search rules) (returns-in-Err-clause-line c)
