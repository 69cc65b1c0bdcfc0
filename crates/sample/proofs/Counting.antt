-- What is counted, and what a line that agrees means, read for themselves. Assumes nothing.
use Rattle.std.proofs.Common.{◌≡◌, ℕ, ◌+◌, ◌%◌, ◌^◌, Bool, true, false, ◌&&◌, eqb, sym, refl, ap, ◌∙◌, eqb-true}
use mathlib.Core.Bool.{false≢true}
use lib.Ieee.{Float, binary32, of_bits, to_bits}
use Rattle.sample.specs.declared.Line.{Line}
use Rattle.sample.specs.declared.Tally.{Tally}
use Rattle.sample.specs.Count.{counted_of}
use Rattle.sample.specs.Text.{first_is}
use Rattle.sample.specs.Word.{float_of, is_float}

-- a line that differs raises the one count, and none of those that agree
pub differs : (t : Tally) (op : ℕ) → ((counted_of t op false).differ ≡ (t.differ + 1) % 2 ^ 64) × ((counted_of t op false).agree ≡ t.agree)
differs t op = (refl, refl)

pub first_means : (l : Line) (n : ℕ) → first_is l n ≡ true → (l.status ≡ 0) × (n ≡ l.x)
first_means l n e = go (eqb l.status 0) refl e
  where
    go : (b : Bool) → eqb l.status 0 ≡ b → (b && eqb n l.x) ≡ true → (l.status ≡ 0) × (n ≡ l.x)
    go true f e = (eqb-true l.status 0 f, eqb-true n l.x e)
    go false f e = absurd (false≢true e)

-- a float comes back from its pattern, as `floats::to_bits` promises
pub float_means : (d : Float) (bits : ℕ) → of_bits binary32 (to_bits binary32 d) ≡ d → is_float d bits ≡ true → float_of bits ≡ d
float_means d bits back e = ap (of_bits binary32) (sym (eqb-true (to_bits binary32 d) (bits % 2 ^ 32) e)) ∙ back
