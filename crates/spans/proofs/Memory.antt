-- Both tables as one memory: what stands there. Assumes nothing.
use Prim.Native.Nat.{ℕ, ◌+◌, ◌-◌, ◌/◌, ◌≤◌, ◌<◌}
use mathlib.Core.Path.{◌≡◌, sym, ◌∙◌, ap}
use mathlib.Core.List.{List, ◌++◌}
use mathlib.Core.Logic.{⊎_elim}
use native.Mathlib.Omega.{arith}
use lib.ListN.{length, get_or, get_or-append}
use lib.Seq.{get_or-append-add}
use Rattle.tree.proofs.Lists.{order}
use Rattle.spans.specs.Trusted.{leaves_of}
use Rattle.spans.specs.Steps.{own}

module _ (xs ys : List ℕ) (i : ℕ) where
  pub in_first : i < length xs → get_or (xs ++ ys) i 0 ≡ get_or xs i 0
  in_first h = get_or-append xs ys 0 i h

  pub in_last : length xs ≤ i → get_or (xs ++ ys) i 0 ≡ get_or ys (i - length xs) 0
  in_last h =
      let e : length xs + (i - length xs) ≡ i = omega arith in
      ap (λ (j : ℕ). get_or (xs ++ ys) j 0) (sym e) ∙ get_or-append-add xs ys (i - length xs) 0

-- a place of the memory stays if it stays in the first table
pub words_stay : (first first' last : List ℕ) (p : ℕ) → length first' ≡ length first → get_or first' p 0 ≡ get_or first p 0
    → get_or (first' ++ last) p 0 ≡ get_or (first ++ last) p 0
words_stay first first' last p l e =
    ⊎_elim
    (λ h. in_first first' last p (omega arith) ∙ e ∙ sym (in_first first last p h))
    (λ h. in_last first' last p (omega arith) ∙ ap (λ (n : ℕ). get_or last (p - n) 0) l ∙ sym (in_last first last p h))
    (order p (length first))

-- there is a place behind the words for the slabs of each four siblings
pub own_room : (nodes p : ℕ) (last : List ℕ) → length last ≡ leaves_of nodes → p < nodes → nodes - length last + (p + 3) / 4 < length last
own_room nodes p last e h = omega (arith, e)

-- the slab of the node at place p stands behind the words
pub own_is : (nodes p : ℕ) (first last : List ℕ) → length first ≡ leaves_of nodes → length last ≡ leaves_of nodes
    → get_or (first ++ last) (nodes + (p + 3) / 4) 0 ≡ own nodes last p
own_is nodes p first last e f =
    let i : nodes + (p + 3) / 4 - length first ≡ nodes - length last + (p + 3) / 4 = omega (arith, e, f) in
    in_last first last (nodes + (p + 3) / 4) (omega (arith, e)) ∙ ap (λ (j : ℕ). get_or last j 0) i
