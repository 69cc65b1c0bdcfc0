-- `from_root` meets its contract: the root's block, by whether the root is split. Assumes nothing.
use mathlib.Core.Path.{sym, ◌∙◌}
use native.Mathlib.Omega.{arith}
use Rattle.tree.specs.Down.{the_nodes}
use Rattle.vertices.proofs.Root.{root_here, root_alone, root_walked}
use Rattle.vertices.proofs.from_root.Goals as goal

pub gather-requires : goal.gather-requires
gather-requires c =
    let first = c.root_child-first.ensures in
    let r = root_here (the_nodes c.args.nodes.now) _ first.value (sym c.leads.ensures ∙ c.if-leads.true) in
    record { here = r.0; cell_value = r.1; n_le_room = (omega arith, omega arith, first.each) }

pub returns-then-leads-clause-stored : goal.returns-then-leads-clause-stored
returns-then-leads-clause-stored c = root_walked _ _ _ _ _ _ c.gather.ensures.stored

pub returns-clause-stored : goal.returns-clause-stored
returns-clause-stored c = root_alone (the_nodes c.args.nodes.now) _ c.root_child-first.ensures.value (sym c.leads.ensures ∙ c.if-leads.false) _ _ _
