-- An accepted call, whichever its answer, and how runs are made of them. Assumes nothing.
use Prim.Native.Nat.{ℕ, ◌+◌, ◌≤◌}
use mathlib.Core.Path.{◌≡◌, refl, sym, ◌∙◌, ap}
use mathlib.Core.Bool.{Bool, true, false, cond}
use mathlib.Core.List.{List, [], ◌∷◌}
use native.Mathlib.Omega.{arith}
use lib.Dec.{ltb}
use lib.Ieee.{Float}
use borrow.Author.Tests.{le-ltb}
use Rattle.std.specs.Prelude.{Result, Ok, Err, ⊤}
use Rattle.refusals.specs.declared.Refusal.{Refusal}
use Rattle.morton.specs.Level.{limit}
use Rattle.build.specs.declared.Request.{Request}
use Rattle.build.specs.declared.State.{State}
use Rattle.build.specs.declared.Answer.{Answer}
use Rattle.build.specs.declared.Answer.TheVariants.{Ask, Finished}
use Rattle.build.specs.Build.{allowed, unless_refused, Tables, Outcome, outcome, request_of, items, item_at, queue_of, leaves_of, stored_of, moved_of, advance_of, accept_of, refusal_of, split_of, decide_of, distance_of, start_of, start_at}
use Rattle.build.proofs.Laws.{accepted}
use Rattle.demands.specs.Run.{Run}
use Rattle.demands.specs.Run.Run.{started, asked, finished}

-- The key asked after the call, 0 where none is.
unfoldable pub next_of : State → ℕ → List ℕ → ℕ
next_of s m queue = cond (ltb s.nodes (items (s.nodes + 1) m)) (item_at queue s.nodes) 0

-- The state after the call; its tables are `stored_of s split d t`.
abbrev pub state_after : State → Bool → Tables → State
state_after s split t = moved_of s (leaves_of s split) (next_of s (leaves_of s split) (queue_of s split t))

-- A call takes s and t to s' and t'.
pub record Took (s : State) (split : Bool) (d : Float) (t : Tables) (s' : State) (t' : Tables) : Type 0 where
  pub free : refusal_of s split d t ≡ allowed
  pub state : state_after s split t ≡ s'
  pub tables : stored_of s split d t ≡ t'

-- ---- a call that isn't refused

-- no answer is a refusal
pub answered : (a : Answer) (k : Refusal) → ◌≡◌ {A = Result Answer Refusal} (Ok a) (Err k) → ⊥
answered a k e = let z : ◌≡◌ {A = ℕ} 0 1 = cc in omega arith

pub answer_is : (a b : Answer) → ◌≡◌ {A = Result Answer Refusal} (Ok a) (Ok b) → a ≡ b
answer_is a b e = cc

not_refused : (b : Result ⊤ Refusal) (x : Outcome) (t : Tables) (o : Outcome) → unless_refused b x t ≡ o
    → ((k : Refusal) → o.answer ≡ Err k → ⊥) → (b ≡ allowed) × (x ≡ o)
not_refused (Ok u) x t o e n = (refl, e)
not_refused (Err k) x t o e n = absurd (n k (ap (λ (y : Outcome). y.answer) (sym e)))

-- The state that an answer brings; s where it is refused.
abbrev pub state_in : State → Result Answer Refusal → State
state_in s (Ok (Ask r s')) = s'
state_in s (Ok (Finished s')) = s'
state_in s (Err k) = s

advance_state : (s : State) (m : ℕ) (queue : List ℕ) → moved_of s m (next_of s m queue) ≡ state_in s (Ok (advance_of s m queue))
unfolding advance_of next_of
advance_state s m queue = go (ltb s.nodes (items (s.nodes + 1) m)) (request_of (item_at queue s.nodes)) (item_at queue s.nodes)
  where
    go : (b : Bool) (r : Request) (key : ℕ) → moved_of s m (cond b key 0) ≡ state_in s (Ok (cond b (Ask r (moved_of s m key)) (Finished (moved_of s m 0))))
    go true r key = refl
    go false r key = refl

pub answer_took : (s : State) (t t' : Tables) (d : Float) (a : Result Answer Refusal) → distance_of s d t ≡ outcome a t' → ((k : Refusal) → a ≡ Err k → ⊥)
    → Took s (split_of s d) d t (state_in s a) t'
unfolding distance_of decide_of accept_of
answer_took s t t' d a e n =
    let c = not_refused (refusal_of s (split_of s d) d t) _ _ (outcome a t') e n in
    record {
      free = c.0;
      state = advance_state s _ _ ∙ ap (λ (o : Outcome). state_in s o.answer) c.1;
      tables = ap (λ (o : Outcome). o.tables) c.1;
    }

-- an answer that isn't refused is that of `advance_of`
pub advanced : (s : State) (d : Float) (t : Tables) (a : Answer) → (distance_of s d t).answer ≡ Ok a
    → advance_of s (leaves_of s (split_of s d)) (queue_of s (split_of s d) t) ≡ a
unfolding distance_of decide_of accept_of
advanced s d t a = go (refusal_of s (split_of s d) d t)
  where
    go : (b : Result ⊤ Refusal) → (unless_refused b (accept_of s (split_of s d) d t) t).answer ≡ Ok a
        → advance_of s (leaves_of s (split_of s d)) (queue_of s (split_of s d) t) ≡ a
    go (Ok u) e = answer_is _ a e
    go (Err k) e = absurd (answered a k (sym e))

-- a finished build asks for nothing
advance_ends : (s : State) (m : ℕ) (queue : List ℕ) (s' : State) → advance_of s m queue ≡ Finished s' → s'.asked ≡ 0
unfolding advance_of moved_of
advance_ends s m queue s' = go (ltb s.nodes (items (s.nodes + 1) m)) _ _
  where
    go : (b : Bool) (r : Request) (x : State) → cond b (Ask r x) (Finished (moved_of s m 0)) ≡ Finished s' → s'.asked ≡ 0
    go true r x e = absurd (let z : ◌≡◌ {A = ℕ} 0 1 = cc in omega arith)
    go false r x e = let j : moved_of s m 0 ≡ s' = cc in ap (λ (z : State). z.asked) (sym j)

pub distance_ends : (s : State) (d : Float) (t : Tables) (s' : State) → (distance_of s d t).answer ≡ Ok (Finished s') → s'.asked ≡ 0
distance_ends s d t s' e = advance_ends s _ _ s' (advanced s d t (Finished s') e)

-- a refused call gives its refusal
pub refused_why : (s : State) (d : Float) (t : Tables) (k : Refusal) → (distance_of s d t).answer ≡ Err k → refusal_of s (split_of s d) d t ≡ Err k
unfolding distance_of decide_of accept_of
refused_why s d t k = go (refusal_of s (split_of s d) d t) _ _
  where
    go : (b : Result ⊤ Refusal) (a : Answer) (t' : Tables) → (unless_refused b (outcome (Ok a) t') t).answer ≡ Err k → b ≡ Err k
    go (Ok u) a t' e = absurd (answered a k e)
    go (Err j) a t' e = let i : j ≡ k = cc in ap Err i

-- ---- a run begins, and goes on while calls aren't refused

pub run_start : (bound : ℕ) (lent : Tables) → bound ≤ limit → (s : State) × Run bound lent [] s lent
unfolding start_of start_at
run_start bound lent h = (_, started (start_asks (ltb limit bound) _ _ (le-ltb limit bound h)))
  where
    start_asks : (b : Bool) (k : Refusal) (a : Answer) → b ≡ false → cond {A = Result Answer Refusal} b (Err k) (Ok a) ≡ Ok a
    start_asks b k a e = rw e refl

module _ {bound : ℕ} {lent : Tables} {given : List Float} (s : State) (t : Tables) (d : Float) (run : Run bound lent given s t) where
  pub run_on : refusal_of s (split_of s d) d t ≡ allowed → (s' : State) × (t' : Tables) × Run bound lent (d ∷ given) s' t'
  unfolding distance_of accept_of advance_of
  run_on z = go (ltb s.nodes (items (s.nodes + 1) (leaves_of s (split_of s d)))) _ _ _ _ (accepted s (split_of s d) d t z)
    where
      go : (b : Bool) (r : Request) (x y : State) (t' : Tables) → outcome (Ok (cond b (Ask r x) (Finished y))) t' ≡ decide_of s (split_of s d) d t
          → (s' : State) × (t' : Tables) × Run bound lent (d ∷ given) s' t'
      go true r x y t' e = (x, t', asked d run (sym e))
      go false r x y t' e = (y, t', finished d run (sym e))
