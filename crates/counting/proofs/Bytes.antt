-- Bytes as distances, and what distances lead to. Assumes nothing.
use Prim.Native.Nat.{ℕ, zero, suc, ◌+◌, ◌*◌, ◌/◌, ◌<◌}
use mathlib.Core.Path.{◌≡◌, refl, sym, ◌∙◌, ap}
use mathlib.Core.List.{List, [], ◌∷◌, map}
use native.Mathlib.Omega.{arith}
use lib.ListN.{length, get_or, take, drop}
use lib.Seq.{drop-cons}
use lib.Ieee.{Float, of_bits, binary32}
use Rattle.std.specs.Simd.{first_chunks}
use Rattle.std.specs.Prelude.{Result, Ok, Err}
use Rattle.refusals.specs.declared.Refusal.{Refusal}
use Rattle.build.specs.declared.Request.{Request}
use Rattle.build.specs.declared.State.{State}
use Rattle.build.specs.declared.Lengths.{Lengths}
use Rattle.build.specs.declared.Answer.{Answer}
use Rattle.build.specs.declared.Answer.TheVariants.{Ask, Finished}
use Rattle.build.specs.Build.{Tables, Outcome, outcome, lengths_of, start_at, start_of, distance_of}
use Rattle.counting.specs.Printed.{little_endian, distances_in, after_all}
use Rattle.counting.specs.Writing.{float_of}

-- ---- four bytes are a distance

pub distances_are : (bytes : List ℕ) → map float_of (first_chunks 4 (length bytes / 4) bytes) ≡ distances_in bytes
unfolding distances_in
distances_are [] = refl
distances_are (a ∷ []) = refl
distances_are (a ∷ b ∷ []) = refl
distances_are (a ∷ b ∷ c ∷ []) = refl
distances_are (a ∷ b ∷ c ∷ d ∷ bytes) =
    let e : length (a ∷ b ∷ c ∷ d ∷ bytes) / 4 ≡ suc (length bytes / 4) = omega arith in
    ap (λ (k : ℕ). map float_of (first_chunks 4 k (a ∷ b ∷ c ∷ d ∷ bytes))) e
    ∙ ap (λ (ds : List Float). of_bits binary32 (little_endian a b c d) ∷ ds) (distances_are bytes)

-- The first n distances stand in the first 4n bytes.
abbrev quads : ℕ → ℕ
quads zero = zero
quads (suc n) = suc (suc (suc (suc (quads n))))

quads_are : (n : ℕ) → quads n ≡ 4 * n
quads_are zero = omega arith
quads_are (suc n) = omega (arith, quads_are n)

take_quads : (n : ℕ) (xs : List ℕ) → distances_in (take (quads n) xs) ≡ take n (distances_in xs)
unfolding distances_in
take_quads zero xs = refl
take_quads (suc n) [] = refl
take_quads (suc n) (a ∷ []) = refl
take_quads (suc n) (a ∷ b ∷ []) = refl
take_quads (suc n) (a ∷ b ∷ c ∷ []) = refl
take_quads (suc n) (a ∷ b ∷ c ∷ d ∷ xs) = ap (λ (ds : List Float). of_bits binary32 (little_endian a b c d) ∷ ds) (take_quads n xs)

pub take_distances : (n : ℕ) (xs : List ℕ) → distances_in (take (4 * n) xs) ≡ take n (distances_in xs)
take_distances n xs = ap (λ (k : ℕ). distances_in (take k xs)) (sym (quads_are n)) ∙ take_quads n xs

-- ---- what distances lead to

pub after_asked : (d : Float) (ds : List Float) (r : Request) (s : State) (t : Tables)
    → after_all (d ∷ ds) (outcome (Ok (Ask r s)) t) ≡ after_all ds (distance_of s d t)
unfolding after_all
after_asked d ds r s t = refl

-- where nothing is asked, later ones are ignored
pub after_finished : (ds : List Float) (s : State) (t : Tables) → after_all ds (outcome (Ok (Finished s)) t) ≡ outcome (Ok (Finished s)) t
unfolding after_all
after_finished [] s t = refl
after_finished (d ∷ ds) s t = after_finished ds s t

pub after_refused : (ds : List Float) (e : Refusal) (t : Tables) → after_all ds (outcome (Err e) t) ≡ outcome (Err e) t
unfolding after_all
after_refused [] e t = refl
after_refused (d ∷ ds) e t = after_refused ds e t

-- an answer that asks for nothing is one of these
after_idle : (ds : List Float) (a : Result Answer Refusal) (t : Tables) → ((r : Request) (s : State) → a ≡ Ok (Ask r s) → ⊥) → after_all ds (outcome a t) ≡ outcome a t
after_idle ds (Ok (Ask r s)) t k = absurd (k r s refl)
after_idle ds (Ok (Finished s)) t k = after_finished ds s t
after_idle ds (Err e) t k = after_refused ds e t

-- ---- the loop of `drive`

-- What all of an input leads to, and that what is left of it leads there from the last answer.
abbrev pub whole_of : ℕ → List ℕ → Tables → Outcome
whole_of bound bytes was = after_all (distances_in bytes) (outcome (start_of bound was) was)

pub record Going (bound : ℕ) (bytes : List ℕ) (was : Tables) (left : List (List ℕ)) (a : Result Answer Refusal) (t : Tables) : Type 0 where
  leads : after_all (map float_of left) (outcome a t) ≡ whole_of bound bytes was

pub started : {r : Result Answer Refusal} {given bound : ℕ} {z : Lengths} (was : Tables)
    → r ≡ start_at given z → given ≡ bound → z ≡ lengths_of was → r ≡ start_of bound was
unfolding start_of
started {bound = bound} {z = z} was e f g = e ∙ ap (λ (b : ℕ). start_at b z) f ∙ ap (start_at bound) g

module _ {bound : ℕ} {bytes : List ℕ} {was : Tables} where
  pub going_start : {a : Result Answer Refusal} → a ≡ start_of bound was → Going bound bytes was (first_chunks 4 (length bytes / 4) bytes) a was
  going_start e =
      record {
        leads =
            ap (λ (x : Result Answer Refusal). after_all (map float_of (first_chunks 4 (length bytes / 4) bytes)) (outcome x was)) e
            ∙ ap (λ (ds : List Float). after_all ds (outcome (start_of bound was) was)) (distances_are bytes);
      }

  pub going_on : (fours : List (List ℕ)) (i : ℕ) {r : Request} {s : State} {d : Float} {a q a' : Result Answer Refusal} {t t' : Tables}
      → Going bound bytes was (drop i fours) a t → i < length fours → a ≡ Ok (Ask r s) → d ≡ float_of (get_or fours i [])
      → outcome q t' ≡ distance_of s d t → q ≡ a' → Going bound bytes was (drop (i + 1) fours) a' t'
  going_on fours i {r} {s} {d} {a} {q} {a'} {t} {t'} h l e f g w =
      let rest = map float_of (drop (suc i) fours) in
      let n : i + 1 ≡ suc i = omega arith in
      record {
        leads =
            ap (λ (k : ℕ). after_all (map float_of (drop k fours)) (outcome a' t')) n
            ∙ ap (λ (x : Result Answer Refusal). after_all rest (outcome x t')) (sym w)
            ∙ ap (after_all rest) (g ∙ ap (λ (x : Float). distance_of s x t) f)
            ∙ sym (after_asked (float_of (get_or fours i [])) rest r s t)
            ∙ ap (λ (x : Result Answer Refusal). after_all (float_of (get_or fours i []) ∷ rest) (outcome x t)) (sym e)
            ∙ ap (λ (fs : List (List ℕ)). after_all (map float_of fs) (outcome a t)) (sym (drop-cons fours i [] l))
            ∙ h.leads;
      }

  module _ {left : List (List ℕ)} {a : Result Answer Refusal} {t : Tables} (h : Going bound bytes was left a t) where
    pub ends_short : left ≡ [] → outcome a t ≡ whole_of bound bytes was
    unfolding after_all
    ends_short e = ap (λ (fs : List (List ℕ)). after_all (map float_of fs) (outcome a t)) (sym e) ∙ h.leads

    pub ends_finished : {s : State} → a ≡ Ok (Finished s) → outcome a t ≡ whole_of bound bytes was
    ends_finished {s} e =
        ap (λ (x : Result Answer Refusal). outcome x t) e ∙ sym (after_finished (map float_of left) s t)
        ∙ ap (λ (x : Result Answer Refusal). after_all (map float_of left) (outcome x t)) (sym e) ∙ h.leads

    pub ends_refused : {e : Refusal} → a ≡ Err e → outcome (Err e) t ≡ whole_of bound bytes was
    ends_refused {e} f =
        sym (after_refused (map float_of left) e t) ∙ ap (λ (x : Result Answer Refusal). after_all (map float_of left) (outcome x t)) (sym f) ∙ h.leads

    pub ends_idle : ((r : Request) (s : State) → a ≡ Ok (Ask r s) → ⊥) → outcome a t ≡ whole_of bound bytes was
    ends_idle k = sym (after_idle (map float_of left) a t k) ∙ h.leads
