-- The places of the listed cells are among the nodes that are looked at. Assumes nothing.
use Prim.Native.Nat.{ℕ, zero, suc, ◌+◌, ◌*◌, ◌/◌, ◌%◌, ◌^◌, ◌<◌, min}
use mathlib.Core.Path.{◌≡◌, sym, ◌∙◌, ap, subst}
use mathlib.Core.Logic.{⊎_elim}
use native.Mathlib.Omega.{arith}
use lib.ListN.{length, get_or, drop}
use lib.Seq.{get_or-take, get_or-drop}
use Rattle.tree.specs.Down.{Nodes, first_at, reach, is_split, place_over}
use Rattle.tree.proofs.Down.{split_steps, reach_down, place_next, steps_in, place_inside as over-inside}
use Rattle.tree.proofs.Lists.{decided}
use Rattle.vertices.specs.Walk.{spots_of}
use Rattle.vertices.specs.Cells.{places_of}
use Rattle.vertices.proofs.Rounds.{spots_right}
use Rattle.vertices.proofs.Storing.{places_length}

module _ (n : Nodes) (short : (i : ℕ) → get_or n.firsts i 0 < 2 ^ 16) where
  -- a first child's place is 1 modulo 8, so at most 65529
  over_near : (l x : ℕ) → place_over n l x < 65537
  unfolding place_over first_at
  over_near zero x = omega arith
  over_near (suc l) x =
      let q : ℕ = reach n l (x / 8) in
      decided (is_split n l (x / 8))
      (λ e. omega (arith, place_next n l x e, reach_down n l x, (steps_in n q (x / 8) (split_steps n l (x / 8) e)).0, short q))
      (λ e. omega (arith, place_next n l x e, over_near l (x / 8)))

  over_looked : 1 < length n.keys → (l x : ℕ) → place_over n l x < min (length n.keys) 65537
  over_looked more l x = ⊎_elim (λ z. omega arith) (λ h. omega (arith, over_near l x)) (over-inside n l x)

  -- each place of a listed cell is one of the nodes that are looked at
  pub place_inside : (j : ℕ) → j < length (places_of n (spots_of n)) → get_or (places_of n (spots_of n)) j 0 < min (length n.keys) 65537
  place_inside j h =
      let p = spots_right n (j / 8) (omega (arith, places_length n (spots_of n))) in
      let e : 8 * (j / 8) + j % 8 ≡ j = omega arith in
      subst (λ (q : ℕ). q < min (length n.keys) 65537)
      (sym (p.at (j % 8) (omega arith))
      ∙ get_or-take 8 (drop (8 * (j / 8)) (places_of n (spots_of n))) (j % 8) 0 (omega arith)
      ∙ get_or-drop (8 * (j / 8)) (places_of n (spots_of n)) (j % 8) 0
      ∙ ap (λ (x : ℕ). get_or (places_of n (spots_of n)) x 0) e)
      (over_looked p.more _ _)
