-- `number_leaves` meets its contract: a turn of the loop takes one place more. Assumes nothing.
use Rattle.std.proofs.Common.{rules, sym, refl, ◌∙◌, arith}
use Rattle.lifetimes.proofs.Numbers.{numbered_none, numbered_leaf, numbered_other, slab_at_is, slab_at_small}
use Rattle.lifetimes.proofs.Halves.number_leaves.Goals as goal
use Rattle.lifetimes.proofs.Halves.number_leaves.Goals.{then-first_at-eq0, else-first_at-eq0}

pub loop-place-init : goal.loop-place-init
loop-place-init c = record {
  same = record { nodes = refl; many = refl; first = refl; last = refl };
  numbered = numbered_none _ _ _ _ _ _ c.requires.first_value.0 c.requires.first_value.1;
}

pub put_leaf-number-requires : goal.put_leaf-number-requires
put_leaf-number-requires c =
    let k = c.loop-place.invariant.numbered in
    (omega (arith, k.number_is, k.first_long), slab_at_small _ _ _ c.requires.many_value.1 c.slab_at-slab.ensures)

pub loop-place-preserved : goal.loop-place-preserved
loop-place-preserved c =
    let k = c.loop-place in
    let n = k.invariant.numbered in
    elim c.if-first_at-eq0.branch [
      | then-first_at-eq0 w ↦
          rw (w.self-is, w.number-is) (record {
            same = search rules;
            numbered =
                numbered_leaf _ _ _ _ k.place k.number _ _ n c.loop-place-test.true (sym c.first_at.ensures ∙ w.if-first_at-eq0.true) _ _ _
                (slab_at_is _ _ _ c.requires.many_value.1 w.slab_at-slab.ensures) w.put_leaf-number.ensures;
          })
      | else-first_at-eq0 w ↦
          rw (w.self-is, w.number-is) (record {
            same = search rules;
            numbered =
                numbered_other _ _ _ _ k.place k.number _ _ n c.loop-place-test.true (λ e. w.if-first_at-eq0.false (c.first_at.ensures ∙ e));
          })
    ]
