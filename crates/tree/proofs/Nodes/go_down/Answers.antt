-- `go_down` meets its contract: a turn is a step down. Assumes nothing.
use Prim.Native.Nat.{ℕ, ◌+◌, ◌-◌, ◌*◌, ◌/◌, ◌%◌, ◌^◌, ◌≤◌, ◌<◌}
use mathlib.Core.Path.{◌≡◌, sym, ap, ◌∙◌, subst}
use mathlib.Core.Logic.{inl}
use native.Mathlib.Omega.{arith}
use Rattle.tree.specs.Down.{the_nodes, NodeOver}
use Rattle.tree.proofs.Down.{leads_in}
use Rattle.tree.proofs.Finding.{Going, going_none, going_more, going_stop, shifted}
use Rattle.tree.proofs.Nodes.go_down.Goals as goal

-- a turn's child, three bits lower than the shift before it
child_at : (x L s : ℕ) → 3 * (s / 3) ≡ s → s / 3 ≤ L → 0 < s → x / 2 ^ (s - 3) ≡ x / 8 ^ (L - (L - s / 3) - 1)
child_at x L s w i t =
    let e : s - 3 ≡ 3 * (s / 3 - 1) = omega (arith, w, t) in
    let d : s / 3 - 1 ≡ L - (L - s / 3) - 1 = omega (arith, w, i, t) in
    ap (λ (m : ℕ). x / 2 ^ m) e ∙ shifted x (s / 3 - 1) ∙ ap (λ (m : ℕ). x / 8 ^ m) d

pub loop-shift-init : goal.loop-shift-init
loop-shift-init c =
    let a = c.args in
    let e : 0 ≡ a.level - 3 * a.level / 3 = omega arith in
    (omega arith, omega arith, subst (λ (l : ℕ). Going (the_nodes a.self.now) a.level a.key l 0) e (going_none _ _ _))

pub returns-then-not-leads : goal.returns-then-not-leads
returns-then-not-leads c =
    let a = c.args in
    let s = c.loop-shift.shift in
    let v = c.loop-shift.invariant in
    let t : 0 < s = omega (arith, c.loop-shift-test.true) in
    let e : a.level - s / 3 ≡ a.level - (s - 3) / 3 - 1 = omega (arith, v.0, v.1, t) in
    inl (
      omega arith,
      subst (λ (l : ℕ). NodeOver (the_nodes a.self.now) a.level a.key l c.loop-shift.place) e
          (going_stop _ _ _ (a.level - s / 3) _ (omega (arith, v.0, v.1, t)) v.2 _ _ (child_at _ _ _ v.0 v.1 t) c.first_at-first.ensures
          (sym c.leads.ensures ∙ c.if-not-leads.true)),
    )

pub overflow_add-place : goal.overflow_add-place
overflow_add-place c = record { fits = omega (arith, (leads_in _ _ _ (sym c.leads.ensures ∙ c.if-not-leads.false)).1) }

pub loop-shift-preserved : goal.loop-shift-preserved
loop-shift-preserved c =
    let a = c.args in
    let s = c.loop-shift.shift in
    let v = c.loop-shift.invariant in
    let t : 0 < s = omega (arith, c.loop-shift-test.true) in
    let e : a.level - s / 3 + 1 ≡ a.level - (s - 3) / 3 = omega (arith, v.0, v.1, t) in (
      omega (arith, v.0, t),
      omega (arith, v.1),
      subst (λ (l : ℕ). Going (the_nodes a.self.now) a.level a.key l (c.first_at-first.result + a.key / 2 ^ (s - 3) % 8)) e
          (going_more _ _ _ (a.level - s / 3) _ (omega (arith, v.0, v.1, t)) v.2 _ _ (child_at _ _ _ v.0 v.1 t) c.first_at-first.ensures
          (sym c.leads.ensures ∙ c.if-not-leads.false)),
    )
