-- How an answer is handed to a host: the returned number is 0 and the out parameter is the result; or it is the refusal's number, and the out
-- parameter is as it was. Assumes nothing.
use Rattle.std.specs.Prelude.{ℕ, ◌≡◌, Float, Result, Ok, Err}
use Rattle.refusals.specs.declared.Refusal.{Refusal}
use Rattle.refusals.specs.Refusals.{number, Hands}
use Rattle.morton.specs.declared.Key.{Key}
use Rattle.morton.specs.declared.Vec3.{Vec3}
use Rattle.morton.specs.Answers.{HalfSizeSays, CentreSays}

-- The out parameter is the key's number.
abbrev pub HandsKey : Result Key Refusal → ℕ → ℕ → ℕ → Type 0
HandsKey (Ok k) was r out = (r ≡ 0) × (out ≡ k.code)
HandsKey (Err e) was r out = (r ≡ number e) × (out ≡ was)

-- The answer is the one that `half_size` promises.
abbrev pub HandsSize : ℕ → Float → ℕ → Float → Type 0
HandsSize k was r out = (a : Result Float Refusal) × HalfSizeSays k a × Hands a was r out

-- Three floats, by axis.
pub record Three : Type 0 where
  pub x : Float
  pub y : Float
  pub z : Float

abbrev pub three : Float → Float → Float → Three
three x y z = record { x = x; y = y; z = z }

abbrev pub HandsThree : Result Vec3 Refusal → Three → ℕ → Three → Type 0
HandsThree (Ok p) was r out = (r ≡ 0) × (out ≡ three p.x p.y p.z)
HandsThree (Err e) was r out = (r ≡ number e) × (out ≡ was)

-- The answer is the one that `centre` promises.
abbrev pub HandsCentre : ℕ → Three → ℕ → Three → Type 0
HandsCentre k was r out = (a : Result Vec3 Refusal) × CentreSays k a × HandsThree a was r out
