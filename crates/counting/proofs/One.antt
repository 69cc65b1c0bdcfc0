-- One answer only: the promise of `line` settles its bytes, all 64 of them, and how many of them count. Assumes nothing.
use Prim.Native.Nat.{ℕ}
use mathlib.Core.Path.{◌≡◌, sym, ◌∙◌}
use mathlib.Core.List.{List}
use Rattle.morton.proofs.One.{OnlyOne}
use Rattle.counting.specs.declared.Text.TheInside.{Inside as Text}
use Rattle.counting.specs.Printed.{line_of, Holds}

pub line_one : (input : List ℕ) → OnlyOne (λ (t : Text). Holds (line_of input) t.bytes t.count)
line_one input a b g h i = record { bytes = (g.bytes_are ∙ sym h.bytes_are) i; count = (g.count_is ∙ sym h.count_is) i }

-- and so what a contract sees of it
pub text_one : (input : List ℕ) → OnlyOne (λ (line : List ℕ). line ≡ line_of input)
text_one input a b g h = g ∙ sym h
