-- `spans` meets its contract: each step goes on from what the one before has left. Assumes nothing.
use Rattle.std.proofs.Common.{rules}
use Rattle.lifetimes.proofs.Same.{spans_same}
use Rattle.lifetimes.proofs.Spanning.{spans_done}
use Rattle.lifetimes.proofs.spans.Goals as goal

pub returns : goal.returns
returns c =
    let same = c.number_leaves.ensures.same in
    let widens = rw (same.nodes, same.many) at c.go_over.ensures.widens in
    let done =
    spans_done _ _ _ c.requires.many_value.0 c.requires.many_value.1 _ _ _ _ _ _ c.number_leaves.ensures.prepared widens c.unpack.ensures.unpacked in
    spans_same done (search rules) (search rules)
