-- `Key::add` meets its contract: three words, one for each field. Assumes nothing.
use Rattle.std.proofs.Common.{rules, arith}
use Rattle.morton.proofs.Dilated.{add_words}
use Rattle.morton.proofs.Key.add.Goals as goal

pub returns : goal.returns
returns c =
    add_words c.args.self.code c.args.other.code c.sum.result c.sum-2.result c.sum-3.result
    (omega arith) (search rules) (search rules) (search rules)
