-- What a call of a host returned and handed over, by what the build answered. Assumes nothing.
use Prim.Native.Nat.{ℕ, ◌+◌, ◌*◌, ◌≤◌, ◌<◌}
use mathlib.Core.Path.{◌≡◌, refl, sym, ap}
use mathlib.Core.Bool.{Bool, true, false, cond, not}
use mathlib.Core.List.{List}
use native.Mathlib.Omega.{arith}
use lib.Dec.{eqb, ltb}
use lib.ListN.{length}
use lib.Ieee.{Float}
use lib.Ieee.Scale.{finite}
use borrow.Author.Tests.{eqb-true, eq-eqb, ltb-true}
use Rattle.std.specs.Prelude.{Result, Ok, Err, ⊤}
use Rattle.refusals.specs.declared.Refusal.{Refusal}
use Rattle.refusals.specs.declared.Refusal.TheVariants.{AboveFifteen, NodesFull, NothingAsked, NotFitting, NotFinite}
use Rattle.refusals.proofs.Numbers.{some_number}
use Rattle.morton.specs.Level.{limit}
use Rattle.build.specs.declared.Request.{Request}
use Rattle.build.specs.declared.State.{State}
use Rattle.build.specs.declared.Answer.{Answer}
use Rattle.build.specs.declared.Answer.TheVariants.{Ask, Finished}
use Rattle.build.specs.Build.{number_of, unless_refused, Tables, Outcome, outcome, request_of, items, item_at, lengths_of, node_room, fits, full_of, refusal_of, refusal_at, split_of, moved_of, advance_of, accept_of, decide_of, distance_of, start_of, start_at}
use Rattle.demands.proofs.Call.{answered, advanced}
use Rattle.demands.proofs.Fits.{full_most, not_so}
use Rattle.mittenhelm_builds.specs.Words.{state_of, words_of, Reply, reply, hand_over, start_replies, Effect, effect, effect_of, distance_effect}

-- ---- what the build answers

-- a refusal keeps the tables
pub distance_refused : (s : State) (d : Float) (t : Tables) (k : Refusal) (t' : Tables) → distance_of s d t ≡ outcome (Err k) t' → t' ≡ t
unfolding distance_of decide_of accept_of
distance_refused s d t k t' = go (refusal_of s (split_of s d) d t) _ _
  where
    go : (b : Result ⊤ Refusal) (a : Answer) (u : Tables) → unless_refused b (outcome (Ok a) u) t ≡ outcome (Err k) t' → t' ≡ t
    go (Ok x) a u e = absurd (answered a k (ap (λ (o : Outcome). o.answer) e))
    go (Err j) a u e = ap (λ (o : Outcome). o.tables) (sym e)

-- An answer asks for a key by that key's request, and an item waited.
pub record Asks (r : Request) (s : State) : Type 0 where
  pub request : r ≡ request_of s.asked
  pub waited : 8 * s.leaves ≤ 7 * s.nodes

module _ (s : State) (m : ℕ) (queue : List ℕ) where
  advance_asks : (r : Request) (s' : State) → advance_of s m queue ≡ Ask r s' → Asks r s'
  unfolding advance_of moved_of
  advance_asks r s' = go (ltb s.nodes (items (s.nodes + 1) m)) refl
    where
      moved : request_of (item_at queue s.nodes) ≡ r → moved_of s m (item_at queue s.nodes) ≡ s' → s.nodes < items (s.nodes + 1) m → Asks r s'
      moved i j l = rw (← i, ← j) record { request = refl; waited = omega arith }

      go : (b : Bool) → ltb s.nodes (items (s.nodes + 1) m) ≡ b
          → cond b (Ask (request_of (item_at queue s.nodes)) (moved_of s m (item_at queue s.nodes))) (Finished (moved_of s m 0)) ≡ Ask r s' → Asks r s'
      go true f e = moved (cc) (cc) (ltb-true _ _ f)
      go false f e = absurd (let z : ◌≡◌ {A = ℕ} 0 1 = cc in omega arith)

pub distance_asks : (s : State) (d : Float) (t : Tables) (r : Request) (s' : State) → (distance_of s d t).answer ≡ Ok (Ask r s') → Asks r s'
distance_asks s d t r s' e = advance_asks s _ _ r s' (advanced s d t (Ask r s') e)

-- ---- the number that a distance returns

hands_0 : (a : Answer) (words : List ℕ) (places : Request) → (hand_over (Ok a) words places).number ≡ 0
unfolding hand_over
hands_0 (Ask r s) words places = refl
hands_0 (Finished s) words places = refl

-- of nine words it is the number of the build
pub number_is : (words : List ℕ) (d : Float) (t : Tables) (places : Request) → length words ≡ 9
    → (distance_effect words d t places).said.number ≡ number_of (refusal_of (state_of words) (split_of (state_of words) d) d t)
unfolding distance_effect effect_of distance_of decide_of accept_of hand_over
number_is words d t places l = rw (eq-eqb (length words) 9 l) (go (refusal_of (state_of words) (split_of (state_of words) d) d t))
  where
    s : State
    s = state_of words

    go : (b : Result ⊤ Refusal) → (hand_over (unless_refused b (accept_of s (split_of s d) d t) t).answer words places).number ≡ number_of b
    go (Ok u) = hands_0 _ words places
    go (Err k) = refl

-- 9 is for a state that asks for nothing
module _ (s : State) (split : Bool) (d : Float) (t : Tables) where
  pub asks_nothing : fits s t ≡ true → s.asked ≡ 0 → refusal_of s split d t ≡ Err NothingAsked
  unfolding refusal_of refusal_at fits
  asks_nothing f e = rw (f, eq-eqb s.asked 0 e) refl

  pub nothing_asked : refusal_of s split d t ≡ Err NothingAsked → s.asked ≡ 0
  unfolding refusal_of refusal_at fits
  nothing_asked = go (fits s t) (eqb s.asked 0) (finite d) (eqb s.nodes (node_room (lengths_of t))) refl
    where
      go : (a b f c : Bool) → eqb s.asked 0 ≡ b
          → cond {A = Result ⊤ Refusal} (not a) (Err NotFitting) (cond b (Err NothingAsked) (cond (not f) (Err NotFinite) (cond c (Err NodesFull) (full_of s split)))) ≡ Err NothingAsked
          → s.asked ≡ 0
      go false b f c n e = absurd (not_so (Err NotFitting) NothingAsked (λ m. omega arith) e)
      go true true f c n e = eqb-true s.asked 0 n
      go true false false c n e = absurd (not_so (Err NotFinite) NothingAsked (λ m. omega arith) e)
      go true false true true n e = absurd (not_so (Err NodesFull) NothingAsked (λ m. omega arith) e)
      go true false true false n e = absurd (not_so (full_of s split) NothingAsked (λ m. omega (arith, full_most s split)) e)

-- ---- what a call hands over

-- A start is refused, and all stays as it was; or it begins a build.
pub data StartSaid (bound : ℕ) (lent : Tables) (words : List ℕ) (places : Request) : Reply → Type 0 where
  declines : {k : ℕ} → (k ≡ 0 → ⊥) → StartSaid bound lent words places (reply k words places)
  begins : {s : State} → start_of bound lent ≡ Ok (Ask (request_of 1) s) → s.asked ≡ 1 → StartSaid bound lent words places (reply 0 (words_of s) (request_of 1))

pub start_said : (bound : ℕ) (lent : Tables) (words : List ℕ) (places : Request) → StartSaid bound lent words places (start_replies bound lent words places)
unfolding start_replies start_of start_at hand_over
start_said bound lent words places = go (ltb limit bound) (eqb (length words) 9) refl
  where
    root : State
    root = record { bound = bound; nodes = 0; leaves = 0; asked = 1; lengths = lengths_of lent }

    go : (b c : Bool) → ltb limit bound ≡ b
        → StartSaid bound lent words places
        (cond b (reply 5 words places) (cond (not c) (reply 10 words places) (hand_over (cond b (Err AboveFifteen) (Ok (Ask (request_of 1) root))) words places)))
    go true c f = declines {k = 5} (λ e. omega arith)
    go false false f = declines {k = 10} (λ e. omega arith)
    go false true f = begins {s = root} (rw f refl) refl

-- A distance is refused, and all stays as it was; or it is accepted, and the next one is asked for or the build is finished.
pub data Said (words : List ℕ) (d : Float) (t : Tables) (places : Request) : Effect → Type 0 where
  refuses : {k : ℕ} → (k ≡ 0 → ⊥) → Said words d t places (effect (reply k words places) t)
  asks : {r : Request} {s : State} {t' : Tables} → distance_of (state_of words) d t ≡ outcome (Ok (Ask r s)) t' → Said words d t places (effect (reply 0 (words_of s) r) t')
  ends : {s : State} {t' : Tables} → distance_of (state_of words) d t ≡ outcome (Ok (Finished s)) t' → Said words d t places (effect (reply 0 (words_of s) places) t')

module _ (words : List ℕ) (d : Float) (t : Tables) (places : Request) where
  handed : (a : Result Answer Refusal) (t' : Tables) → distance_of (state_of words) d t ≡ outcome a t' → Said words d t places (effect (hand_over a words places) t')
  unfolding hand_over
  handed (Ok (Ask r s)) t' f = asks f
  handed (Ok (Finished s)) t' f = ends f
  handed (Err k) t' f = rw (distance_refused (state_of words) d t k t' f) (refuses (some_number k))

  pub said : Said words d t places (distance_effect words d t places)
  unfolding distance_effect effect_of
  said = go (eqb (length words) 9)
    where
      go : (b : Bool) → Said words d t places (cond (not b) (effect (reply 10 words places) t) (effect_of (distance_of (state_of words) d t) words places))
      go false = refuses {k = 10} (λ e. omega arith)
      go true = handed (distance_of (state_of words) d t).answer (distance_of (state_of words) d t).tables refl
