-- The line of a tree, and of an input. Assumes nothing.
use Prim.Native.Nat.{ℕ}
use mathlib.Core.Path.{◌≡◌, sym, ◌∙◌, ap}
use mathlib.Core.Bool.{Bool, true, false, cond}
use mathlib.Core.List.{List, [], ◌∷◌}
use native.Mathlib.Omega.{arith}
use lib.Dec.{ltb}
use lib.ListN.{length}
use Rattle.std.specs.Prelude.{Result, Ok, Err}
use Rattle.refusals.specs.declared.Refusal.{Refusal}
use Rattle.refusals.specs.declared.Refusal.TheVariants.{ListFull}
use Rattle.refusals.specs.Refusals.{number}
use Rattle.build.specs.declared.Answer.{Answer}
use Rattle.build.specs.Build.{Tables, outcome}
use Rattle.counting.specs.Vertices.{vertex_count}
use Rattle.counting.specs.Printed.{lent, short_line, refused_line, counts_line, tree_line, line_for, line_at, line_of}
use Rattle.counting.specs.Writing.{listed_of}
use Rattle.counting.proofs.Bytes.{whole_of}

-- ---- of a tree

module _ (n m : ℕ) (leaves : List ℕ) {a : Result ℕ Refusal} {r : List ℕ} (h : a ≡ listed_of leaves) where
  pub tree_counted : {v : ℕ} → a ≡ Ok v → r ≡ counts_line n m v → r ≡ tree_line n m (vertex_count leaves)
  unfolding tree_line
  tree_counted {v} e f = f ∙ go (ltb 1024 (vertex_count leaves)) (vertex_count leaves) (sym h ∙ e)
    where
      go : (b : Bool) (c : ℕ) → ◌≡◌ {A = Result ℕ Refusal} (cond b (Err ListFull) (Ok c)) (Ok v) → counts_line n m v ≡ cond b (refused_line 12) (counts_line n m c)
      go true c q = cc
      go false c q = let z : c ≡ v = cc in ap (counts_line n m) (sym z)

  pub tree_refused : {k : Refusal} → a ≡ Err k → r ≡ refused_line (number k) → r ≡ tree_line n m (vertex_count leaves)
  unfolding tree_line
  tree_refused {k} e f = f ∙ go (ltb 1024 (vertex_count leaves)) (vertex_count leaves) (sym h ∙ e)
    where
      go : (b : Bool) (c : ℕ) → ◌≡◌ {A = Result ℕ Refusal} (cond b (Err ListFull) (Ok c)) (Err k) → refused_line (number k) ≡ cond b (refused_line 12) (counts_line n m c)
      go true c q = let z : ListFull ≡ k = cc in ap (λ (x : Refusal). refused_line (number x)) (sym z)
      go false c q = cc

-- ---- of an input

pub line_empty : (input : List ℕ) {r : List ℕ} → length input ≡ 0 → r ≡ short_line → r ≡ line_of input
unfolding line_of
line_empty [] l e = e
line_empty (x ∷ xs) l e = absurd (omega arith)

-- by the last answer
module _ {input : List ℕ} {bound : ℕ} {bytes : List ℕ} {a : Result Answer Refusal} (t : Tables) {r : List ℕ}
    (g : input ≡ bound ∷ bytes) (h : outcome a t ≡ whole_of bound bytes lent) where
  pub line_by : {b : Result Answer Refusal} → a ≡ b → r ≡ line_for b t → r ≡ line_of input
  unfolding line_of
  line_by e f = f ∙ ap (λ (y : Result Answer Refusal). line_for y t) (sym e) ∙ ap line_at h ∙ ap line_of (sym g)
