-- `Key::vertex` meets its contract. Assumes nothing.
use Rattle.std.proofs.Common.{◌≡◌, ℕ, ◌-◌, ◌*◌, ◌%◌, ◌^◌, ◌≤◌, true, false, arith, sym, ◌∙◌, subst, ap}
use Rattle.std.proofs.lemmas.Grind.{common_steps}
use Rattle.morton.specs.Field.{add}
use Rattle.morton.specs.Level.{deepest, level, Cell, is_cell}
use Rattle.morton.specs.Vertex.{vertex_of, is_inside}
use Rattle.morton.proofs.Levels.{level_le, above_deepest, is_cell_lem}
use Rattle.morton.proofs.Vertices.{vertex_deep, vertex_none, vertex_code}
use Rattle.morton.proofs.Key.vertex.Goals as goal

-- past the refusals: l is what `cell_level` answered
module _ (n L w l : ℕ) (is : (is_cell n ≡ true) × (l ≡ level n)) (few : w ≤ 7) (own : l ≡ L) (deep : L ≡ deepest → ⊥) where
  cell : Cell L n
  cell = subst (λ (x : ℕ). Cell x n) (sym is.1 ∙ own) (is_cell_lem n is.0)

  shallow : L ≤ 20
  shallow = above_deepest L (subst (λ (x : ℕ). x ≤ deepest) (sym is.1 ∙ own) (level_le n)) deep

  there : is_inside L (add n w) ≡ true → (add n w * 2 ^ (63 - L * 3)) % 2 ^ 64 ≡ vertex_of L n w
  there = vertex_code L n w shallow cell few

  none : is_inside L (add n w) ≡ false → vertex_of L n w ≡ 0
  none = vertex_none L n w shallow cell few

pub returns-then-level-eq-DEEPEST : goal.returns-then-level-eq-DEEPEST
returns-then-level-eq-DEEPEST c =
    let a = c.args in
    let e : vertex_of a.level a.self.code a.corner ≡ 0
    = ap (λ (x : ℕ). vertex_of x a.self.code a.corner) c.if-level-eq-DEEPEST.true ∙ vertex_deep a.self.code a.corner in
    grind (arith, common_steps)

pub is_inside-requires : goal.is_inside-requires
is_inside-requires c = shallow _ _ _ _ c.in_ok-own.ensures c.if-corner-gt7.false c.if-own-level.false c.if-level-eq-DEEPEST.false

pub overflow_mul-result : goal.overflow_mul-result
overflow_mul-result c = omega (arith, level_le c.args.self.code, c.in_ok-own.ensures)

pub overflow_sub-result : goal.overflow_sub-result
overflow_sub-result c = omega (arith, level_le c.args.self.code, c.in_ok-own.ensures)

pub returns-then-is_inside : goal.returns-then-is_inside
returns-then-is_inside c =
    let a = c.args in
    let v = there a.self.code a.level a.corner _ c.in_ok-own.ensures c.if-corner-gt7.false c.if-own-level.false c.if-level-eq-DEEPEST.false in
    grind (arith, common_steps)

pub returns-else-is_inside : goal.returns-else-is_inside
returns-else-is_inside c =
    let a = c.args in
    let v = none a.self.code a.level a.corner _ c.in_ok-own.ensures c.if-corner-gt7.false c.if-own-level.false c.if-level-eq-DEEPEST.false in
    grind (arith, common_steps)
