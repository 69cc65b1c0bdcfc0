-- `Key::child` meets its contract. Assumes nothing.
use Rattle.std.proofs.Common.{◌≤◌, arith, ◌∙◌}
use Rattle.std.proofs.lemmas.Grind.{common_steps}
use Rattle.morton.specs.Level.{level}
use Rattle.morton.proofs.Levels.{level_le, above_deepest, child_code}
use Rattle.morton.proofs.Key.child.Goals as goal

pub returns : goal.returns
returns c =
    let n = c.args.self.code in
    let is = c.in_ok-own.ensures in
    let few : level n ≤ 20 = above_deepest (level n) (level_le n) (λ e. c.if-own-eq-DEEPEST.false (is.1 ∙ e)) in
    let code = child_code n c.args.which is.0 few c.if-which-gt7.false in
    grind (arith, common_steps)
