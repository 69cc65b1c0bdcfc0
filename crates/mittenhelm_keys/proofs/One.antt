-- One answer only: of each exported call, what is returned and every out parameter are settled by its promise. Assumes nothing.
use mathlib.Core.Path.{◌≡◌}
use mathlib.Core.Bool.{Bool, ◌&&◌}
use Prim.Native.Nat.{ℕ}
use lib.Dec.{leb}
use lib.Ieee.{Float}
use Rattle.std.specs.Prelude.{Result, Ok, Err}
use Rattle.refusals.specs.declared.Refusal.{Refusal}
use Rattle.refusals.specs.Refusals.{number, Hands}
use Rattle.refusals.proofs.One.{hand_one}
use Rattle.morton.specs.declared.Key.{Key}
use Rattle.morton.specs.declared.Vec3.{Vec3}
use Rattle.morton.specs.Answers.{child_of, vertex_answer, side_answer, HalfSizeSays, CentreSays}
use Rattle.morton.specs.Field.{add, sub}
use Rattle.morton.specs.Level.{deepest, level, is_cell, parent_of}
use Rattle.morton.specs.Split.{splits}
use Rattle.morton.specs.Vertex.{is_inner}
use Rattle.morton.proofs.One.{OnlyOne, equal, both, handed_on, half_size_one as size-answer-one, centre_one as centre-answer-one}
use Rattle.mittenhelm_keys.specs.Keys.{HandsKey, HandsSize, Three, three, HandsThree, HandsCentre}

key_one : (a : Result Key Refusal) (was : ℕ) → OnlyOne (λ (r : ℕ × ℕ). HandsKey a was r.0 r.1)
key_one (Ok k) was = both 0 k.code
key_one (Err e) was = both (number e) was

three_one : (a : Result Vec3 Refusal) (was : Three) → OnlyOne (λ (r : ℕ × Three). HandsThree a was r.0 r.1)
three_one (Ok p) was = both 0 (three p.x p.y p.z)
three_one (Err e) was = both (number e) was

pub level_one : (k : ℕ) → OnlyOne (λ (r : ℕ). r ≡ level k)
level_one k = equal (level k)

pub is_cell_one : (k : ℕ) → OnlyOne (λ (r : Bool). r ≡ is_cell k)
is_cell_one k = equal (is_cell k)

pub parent_one : (k : ℕ) → OnlyOne (λ (r : ℕ). r ≡ parent_of k)
parent_one k = equal (parent_of k)

pub add_one : (a b : ℕ) → OnlyOne (λ (r : ℕ). r ≡ add a b)
add_one a b = equal (add a b)

pub sub_one : (a b : ℕ) → OnlyOne (λ (r : ℕ). r ≡ sub a b)
sub_one a b = equal (sub a b)

pub child_one : (k w was : ℕ) → OnlyOne (λ (r : ℕ × ℕ). HandsKey (child_of k w) was r.0 r.1)
child_one k w was = key_one (child_of k w) was

pub half_size_one : (k : ℕ) (was : Float) → OnlyOne (λ (r : ℕ × Float). HandsSize k was r.0 r.1)
half_size_one k was = handed_on (HalfSizeSays k) (λ a r. Hands a was r.0 r.1) (size-answer-one k) (λ a. hand_one a was)

pub centre_one : (k : ℕ) (was : Three) → OnlyOne (λ (r : ℕ × Three). HandsCentre k was r.0 r.1)
centre_one k was = handed_on (CentreSays k) (λ a r. HandsThree a was r.0 r.1) (centre-answer-one k) (λ a. three_one a was)

pub vertex_one : (k L w was : ℕ) → OnlyOne (λ (r : ℕ × ℕ). HandsKey (vertex_answer k L w) was r.0 r.1)
vertex_one k L w was = key_one (vertex_answer k L w) was

pub is_inner_one : (v L : ℕ) → OnlyOne (λ (r : Bool). r ≡ is_inner L v)
is_inner_one v L = equal (is_inner L v)

pub side_one : (v L w was : ℕ) → OnlyOne (λ (r : ℕ × ℕ). HandsKey (side_answer v L w) was r.0 r.1)
side_one v L w was = key_one (side_answer v L w) was

pub should_refine_one : (L bound : ℕ) (d : Float) → OnlyOne (λ (r : Bool). r ≡ (leb L deepest && splits L bound d))
should_refine_one L bound d = equal (leb L deepest && splits L bound d)
