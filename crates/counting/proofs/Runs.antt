-- What the program calls finished is a build, and no more than 1,024 distances are accepted: so later bytes are ignored. Assumes nothing.
use Prim.Native.Nat.{ℕ, zero, suc, ◌+◌, ◌≤◌, ◌<◌}
use mathlib.Core.Path.{◌≡◌, refl, sym, ◌∙◌, ap, subst}
use mathlib.Core.Bool.{Bool, true, false, cond}
use mathlib.Core.List.{List, [], ◌∷◌}
use native.Mathlib.Omega.{arith}
use lib.Dec.{ltb}
use lib.ListN.{length, take, length-replicate}
use lib.Ieee.{Float}
use Rattle.std.specs.Prelude.{Result, Ok, Err}
use Rattle.morton.specs.Level.{limit}
use Rattle.refusals.specs.declared.Refusal.{Refusal}
use Rattle.refusals.specs.declared.Refusal.TheVariants.{AboveFifteen}
use Rattle.build.specs.declared.Request.{Request}
use Rattle.build.specs.declared.State.{State}
use Rattle.build.specs.declared.Answer.{Answer}
use Rattle.build.specs.declared.Answer.TheVariants.{Ask, Finished}
use Rattle.build.specs.Build.{Tables, Outcome, outcome, lengths_of, node_room, distance_of, start_of, start_at}
use Rattle.demands.specs.Run.{Run}
use Rattle.demands.specs.Run.Run.{started, asked, finished}
use Rattle.demands.proofs.Call.{distance_ends}
use Rattle.demands.proofs.Demands.{building}
use Rattle.counting.specs.Printed.{distances_in, lent, after_all, line_at, line_of}
use Rattle.counting.proofs.Bytes.{take_distances, after_finished, after_refused}

-- a start finishes nothing
start_unfinished : (bound : ℕ) (t : Tables) (s : State) → start_of bound t ≡ Ok (Finished s) → ⊥
unfolding start_of start_at
start_unfinished bound t s = go (ltb limit bound) _ _
  where
    go : (b : Bool) (q : Request) (x : State) → ◌≡◌ {A = Result Answer Refusal} (cond b (Err AboveFifteen) (Ok (Ask q x))) (Ok (Finished s)) → ⊥
    go true q x e = cc
    go false q x e = cc

-- ---- what an answer says of the distances that were accepted

abbrev Led : ℕ → Tables → List Float → Result Answer Refusal → Tables → Type 0
Led bound was given (Ok (Ask r s)) t = Run bound was given s t
Led bound was given (Ok (Finished s)) t = Run bound was given s t × (s.asked ≡ 0)
Led bound was given (Err e) t = Unit {0}

start_led : (bound : ℕ) (was : Tables) (a : Result Answer Refusal) → start_of bound was ≡ a → Led bound was [] a was
start_led bound was (Ok (Ask r s)) e = started e
start_led bound was (Ok (Finished s)) e = absurd (start_unfinished bound was s e)
start_led bound was (Err k) e = tt

module _ (bound : ℕ) (was : Tables) where
  next_led : {given : List Float} {s : State} {t : Tables} (d : Float) → Run bound was given s t
      → (a : Result Answer Refusal) (t' : Tables) → distance_of s d t ≡ outcome a t' → Led bound was (d ∷ given) a t'
  next_led d run (Ok (Ask r s')) t' e = asked d run e
  next_led {given} {s} {t} d run (Ok (Finished s')) t' e = (finished d run e, distance_ends s d t s' (ap (λ (o : Outcome). o.answer) e))
  next_led d run (Err k) t' e = tt

  after_led : (ds given : List Float) (a : Result Answer Refusal) (t : Tables) → Led bound was given a t
      → (all : List Float) × Led bound was all (after_all ds (outcome a t)).answer (after_all ds (outcome a t)).tables
  unfolding after_all
  after_led [] given a t h = (given, h)
  after_led (d ∷ ds) given (Ok (Ask r s)) t h =
      let o = distance_of s d t in after_led ds (d ∷ given) o.answer o.tables (next_led d h o.answer o.tables refl)
  after_led (d ∷ ds) given (Ok (Finished s)) t h = after_led ds given (Ok (Finished s)) t h
  after_led (d ∷ ds) given (Err k) t h = after_led ds given (Err k) t h

  -- Where the room is used up, none is asked for; so later distances are ignored.
  after_full : (ds given : List Float) (a : Result Answer Refusal) (t : Tables) → Led bound was given a t → node_room (lengths_of was) < length given
      → after_all [] (outcome a t) ≡ after_all ds (outcome a t)
  unfolding after_all
  after_full ds given (Ok (Ask r s)) t h l = absurd (omega (arith, l, (building bound was given s t h).ends))
  after_full ds given (Ok (Finished s)) t h l = sym (after_finished ds s t)
  after_full ds given (Err k) t h l = sym (after_refused ds k t)

  after_room : (m : ℕ) (ds given : List Float) (a : Result Answer Refusal) (t : Tables) → Led bound was given a t → node_room (lengths_of was) < length given + m
      → after_all (take m ds) (outcome a t) ≡ after_all ds (outcome a t)
  unfolding after_all
  after_room zero ds given a t h l = after_full ds given a t h (omega arith)
  after_room (suc m) [] given a t h l = refl
  after_room (suc m) (d ∷ ds) given (Ok (Ask r s)) t h l =
      let o = distance_of s d t in after_room m ds (d ∷ given) o.answer o.tables (next_led d h o.answer o.tables refl) (omega arith)
  after_room (suc m) (d ∷ ds) given (Ok (Finished s)) t h l = after_finished (take m ds) s t ∙ sym (after_finished ds s t)
  after_room (suc m) (d ∷ ds) given (Err k) t h l = after_refused (take m ds) k t ∙ sym (after_refused ds k t)

-- ---- of every input

-- What is called finished is a build from its start, with nothing asked.
pub finished_run : (bound : ℕ) (was : Tables) (ds : List Float) (s : State) (t : Tables)
    → after_all ds (outcome (start_of bound was) was) ≡ outcome (Ok (Finished s)) t
    → (given : List Float) × Run bound was given s t × (s.asked ≡ 0)
finished_run bound was ds s t e =
    let h = after_led bound was ds [] (start_of bound was) was (start_led bound was (start_of bound was) refl) in
    let r = subst (λ (o : Outcome). Led bound was h.0 o.answer o.tables) e h.1 in (h.0, r.0, r.1)

room_of_lent : node_room (lengths_of lent) ≤ 1024
unfolding node_room lengths_of
room_of_lent = omega (arith, length-replicate {A = ℕ} 1024 0)

-- Later bytes are ignored: a bound byte and 1,025 distances settle the line.
pub later_ignored : (input : List ℕ) → line_of (take 4101 input) ≡ line_of input
unfolding line_of
later_ignored [] = refl
later_ignored (bound ∷ bytes) =
    ap (λ (ds : List Float). line_at (after_all ds (outcome (start_of bound lent) lent))) (take_distances 1025 bytes)
    ∙ ap line_at (after_room bound lent 1025 (distances_in bytes) [] (start_of bound lent) lent (start_led bound lent (start_of bound lent) refl) (omega (arith, room_of_lent)))
