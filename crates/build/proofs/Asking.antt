-- The request for a cell, from what its extent promises. Assumes nothing.
use Prim.Native.Nat.{ℕ, ◌+◌, ◌*◌, ◌^◌}
use mathlib.Core.Path.{◌≡◌, subst}
use lib.Ieee.{Float}
use mathlib.Core.Bool.{true}
use Rattle.morton.specs.declared.Extent.{Extent}
use Rattle.std.specs.Prelude.{Ok}
use Rattle.morton.specs.Answers.{OnAxis, HalfSizeSays, CentreSays, ExtentSays}
use Rattle.morton.specs.Exact.{Exactly}
use Rattle.morton.specs.Field.{coord}
use Rattle.morton.specs.Level.{level, is_cell}
use Rattle.morton.proofs.Fields.{coord_lt}
use Rattle.morton.proofs.Levels.{level_le}
use Rattle.morton.proofs.Sizes.{half_exactly, centre_exactly, centre_is, half_is}
use Rattle.build.specs.Build.{centre_of, half_of, request_of}
use Rattle.build.specs.declared.Request.{Request}

on_axis : (key a : ℕ) (x : Float) → OnAxis key a x → x ≡ centre_of key a
unfolding centre_of
on_axis key a x h = centre_is x _ (level key) (level_le key) (coord_lt (level key) key a) h

pub request_is : (key : ℕ) (e : Extent) → ExtentSays key e → ◌≡◌ {A = Request} (record { key = key; x = e.x; y = e.y; z = e.z; half = e.half }) (request_of key)
unfolding request_of half_of
request_is key e s =
    rw (on_axis key 0 e.x s.0.0, on_axis key 1 e.y s.0.1, on_axis key 2 e.z s.0.2, half_is e.half (level key) (level_le key) s.1)

-- ---- the definition's floats are the fractions that document 01 names

pub half_means : (key : ℕ) → Exactly (half_of key) 1 (2 ^ (level key + 1))
unfolding half_of
half_means key =
    let e = half_exactly (level key) (level_le key) in
    subst (λ (x : Float). Exactly x 1 (2 ^ (level key + 1))) (half_is _ (level key) (level_le key) e) e

pub centre_means : (key a : ℕ) → Exactly (centre_of key a) (2 * coord (level key) key a + 1) (2 ^ (level key + 1))
centre_means key a =
    let e = centre_exactly (coord (level key) key a) (level key) (half_of key) (level_le key) (coord_lt (level key) key a) (half_means key) in
    subst (λ (x : Float). Exactly x (2 * coord (level key) key a + 1) (2 ^ (level key + 1))) (on_axis key a _ e) e

-- a request carries what `centre` and `half_size` answer
pub request_means : (key : ℕ) → is_cell key ≡ true
    → CentreSays key (Ok (record { x = (request_of key).x; y = (request_of key).y; z = (request_of key).z })) × HalfSizeSays key (Ok (request_of key).half)
unfolding request_of
request_means key e = ((e, (centre_means key 0, centre_means key 1, centre_means key 2)), (e, half_means key))
