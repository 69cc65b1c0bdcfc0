-- `Key::sub` meets its contract: three words, one for each field. Assumes nothing.
use Rattle.std.proofs.Common.{rules}
use Rattle.morton.proofs.Dilated.{sub_words}
use Rattle.morton.proofs.Key.sub.Goals as goal

pub returns : goal.returns
returns c =
    sub_words c.args.self.code c.args.other.code c.difference.result c.difference-2.result c.difference-3.result
    (search rules) (search rules) (search rules)
