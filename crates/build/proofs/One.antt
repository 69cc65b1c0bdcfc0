-- One answer only: of each public call, two answers that meet its promise are the same, and so are the tables. Assumes nothing.
use Prim.Native.Nat.{ℕ}
use mathlib.Core.Path.{◌≡◌}
use lib.Ieee.{Float}
use Rattle.morton.proofs.One.{OnlyOne, equal}
use Rattle.std.specs.Prelude.{Result}
use Rattle.refusals.specs.declared.Refusal.{Refusal}
use Rattle.build.specs.declared.Lengths.{Lengths}
use Rattle.build.specs.declared.State.{State}
use Rattle.build.specs.declared.Answer.{Answer}
use Rattle.build.specs.Build.{Tables, Outcome, start_at, distance_of}

pub start_one : (bound : ℕ) (z : Lengths) → OnlyOne (λ (r : Result Answer Refusal). r ≡ start_at bound z)
start_one bound z = equal (start_at bound z)

pub distance_one : (s : State) (d : Float) (t : Tables) → OnlyOne (λ (o : Outcome). o ≡ distance_of s d t)
distance_one s d t = equal (distance_of s d t)
