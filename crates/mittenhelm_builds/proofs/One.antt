-- One answer only: of each exported call, what is returned, every out parameter and every table are settled by its promise. Assumes nothing.
use mathlib.Core.Path.{◌≡◌}
use mathlib.Core.List.{List}
use Prim.Native.Nat.{ℕ}
use lib.Ieee.{Float}
use Rattle.morton.proofs.One.{OnlyOne, equal}
use Rattle.build.specs.declared.Request.{Request}
use Rattle.build.specs.Build.{Tables}
use Rattle.mittenhelm_builds.specs.Words.{Reply, start_replies, Effect, distance_effect}

pub start_one : (bound : ℕ) (t : Tables) (words : List ℕ) (q : Request) → OnlyOne (λ (r : Reply). r ≡ start_replies bound t words q)
start_one bound t words q = equal (start_replies bound t words q)

pub distance_one : (words : List ℕ) (d : Float) (t : Tables) (q : Request) → OnlyOne (λ (r : Effect). r ≡ distance_effect words d t q)
distance_one words d t q = equal (distance_effect words d t q)
