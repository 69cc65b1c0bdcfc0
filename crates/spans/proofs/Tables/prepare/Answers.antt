-- `prepare` meets its contract. Assumes nothing.
use Rattle.std.proofs.Common.{rules}
use Rattle.tree.specs.Down.{the_nodes}
use Rattle.spans.proofs.Finishing.{prepared_at}
use Rattle.spans.proofs.Tables.prepare.Goals as goal

-- what empties the tables is found, and not named: so one that is emptied otherwise is judged by what it holds
pub returns-clause-prepared : goal.returns-clause-prepared
returns-clause-prepared c =
    let t = c.args.self.now in
    prepared_at (the_nodes c.args.nodes.now) _ _ c.requires.many_value.0 c.requires.many_value.1 t.first.now t.last.now _ _ _ c.requires.first_len.0
    c.requires.first_len.1 (search rules) (search rules) c.put_slabs.ensures
