-- `report` meets its contract: its steps one after another. Assumes nothing.
use Rattle.tree.specs.Down.{the_nodes}
use Rattle.spans.proofs.Finishing.{small_words, spans_left}
use Rattle.spans.proofs.Tables.report.Goals as goal

pub unpack-requires-clause-small_words : goal.unpack-requires-clause-small_words
unpack-requires-clause-small_words c =
    let m = c.requires.many_value in
    let p = c.prepare.ensures in
    let w = c.go_over.ensures in
    let g = c.gather-leaves.ensures in
    small_words (the_nodes c.args.nodes.now) _ m.1 m.0 p.same p.prepared w.same w.widens g.last g.gathered (c.fill.ensures.after (λ y e. e))

pub returns-clause-spans : goal.returns-clause-spans
returns-clause-spans c =
    let m = c.requires.many_value in
    let p = c.prepare.ensures in
    let w = c.go_over.ensures in
    let g = c.gather-leaves.ensures in
    spans_left (the_nodes c.args.nodes.now) _ m.1 m.0 p.same p.prepared w.same w.widens g.last g.gathered (c.fill.ensures.after (λ y e. e))
    c.unpack.ensures.unpacked
