-- What the split rule says of levels. Assumes nothing.
use Prim.Native.Nat.{ℕ, ◌≤◌, ◌<◌, max}
use mathlib.Core.Path.{◌≡◌, refl, sym, ◌∙◌}
use mathlib.Core.Bool.{Bool, true, false, ◌&&◌, ◌||◌, false≢true}
use native.Mathlib.Decide.{dec_lt}
use native.Mathlib.Omega.{arith}
use lib.Dec.{ltb}
use lib.Ieee.{Float, nan, inf, fin}
use lib.Ieee.Scale.{finite}
use borrow.Author.Tests.{ltb-true}
use Rattle.morton.specs.Level.{deepest, limit}
use Rattle.morton.specs.Split.{near, splits}
use Rattle.morton.proofs.Levels.{and_true}
use Rattle.morton.proofs.Distance.{shallow}
use Rattle.build.specs.Build.{finest}

-- a cell that is split isn't of the finest level
pub split_level : (L bound : ℕ) (d : Float) → splits L bound d ≡ true → L < finest bound
unfolding finest splits
split_level L bound nan h = absurd (false≢true h)
split_level L bound (inf s) h = absurd (false≢true h)
split_level L bound (fin s m e) h = go (ltb L 2) refl h
  where
    go : (t : Bool) → ltb L 2 ≡ t → (t || (ltb L bound && near L m e)) ≡ true → L < max bound 2
    go true e h = omega (arith, ltb-true L 2 e)
    go false f h = omega (arith, ltb-true L bound (and_true (ltb L bound) (near L m e) h).0)

-- and one that a distance leaves whole is of level 2 or more
pub whole_level : (L bound : ℕ) (d : Float) → finite d ≡ true → splits L bound d ≡ false → 2 ≤ L
whole_level L bound d f h = go (dec_lt L 2)
  where
    go : Dec (L < 2) → 2 ≤ L
    go (yes l) = absurd (false≢true (sym h ∙ sym (shallow L bound d l) ∙ f))
    go (no l) = omega arith

pub finest_least : (bound : ℕ) → bound ≤ 2 → finest bound ≡ 2
unfolding finest
finest_least bound h = omega arith

pub finest_deep : (bound : ℕ) → bound ≤ limit → finest bound ≤ deepest
unfolding finest
finest_deep bound h = omega arith
