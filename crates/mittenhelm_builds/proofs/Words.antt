-- A build's answer is handed over as its case says. Assumes nothing.
use Prim.Native.Nat.{ℕ, ◌≤◌, ◌<◌}
use mathlib.Core.Path.{◌≡◌, refl, sym, ap}
use mathlib.Core.List.{List, [], ◌∷◌}
use native.Mathlib.Omega.{arith}
use lib.Ieee.{Float}
use Rattle.std.specs.Prelude.{Result, Ok, Err}
use Rattle.refusals.specs.declared.Refusal.{Refusal}
use Rattle.refusals.specs.declared.Refusal.TheVariants.{NotFitting}
use Rattle.refusals.specs.Refusals.{number}
use lib.ListN.{length, get_or, set}
use borrow.Author.Tests.{le-ltb, lt-ltb, eq-eqb, ne_eqb}
use Rattle.morton.specs.Level.{limit}
use Rattle.build.specs.declared.Request.{Request}
use Rattle.build.specs.declared.State.{State}
use Rattle.build.specs.declared.Answer.{Answer}
use Rattle.build.specs.declared.Answer.TheVariants.{Ask, Finished}
use Rattle.build.specs.Build.{Tables, outcome, lengths_of, start_at, start_of, split_of, distance_of}
use Rattle.build.proofs.Laws.{deep_refused}
use Rattle.mittenhelm_builds.specs.Words.{state_of, words_of, Reply, reply, hand_over, start_replies, effect, effect_of, distance_effect}

-- a slice of nine is its nine words
pub nine_are : (ws : List ℕ) → length ws ≡ 9
    → (get_or ws 0 0 ∷ get_or ws 1 0 ∷ get_or ws 2 0 ∷ get_or ws 3 0 ∷ get_or ws 4 0 ∷ get_or ws 5 0 ∷ get_or ws 6 0 ∷ get_or ws 7 0 ∷ get_or ws 8 0 ∷ []) ≡ ws
nine_are [] l = absurd (omega arith)
nine_are (_ ∷ []) l = absurd (omega arith)
nine_are (_ ∷ _ ∷ []) l = absurd (omega arith)
nine_are (_ ∷ _ ∷ _ ∷ []) l = absurd (omega arith)
nine_are (_ ∷ _ ∷ _ ∷ _ ∷ []) l = absurd (omega arith)
nine_are (_ ∷ _ ∷ _ ∷ _ ∷ _ ∷ []) l = absurd (omega arith)
nine_are (_ ∷ _ ∷ _ ∷ _ ∷ _ ∷ _ ∷ []) l = absurd (omega arith)
nine_are (_ ∷ _ ∷ _ ∷ _ ∷ _ ∷ _ ∷ _ ∷ []) l = absurd (omega arith)
nine_are (_ ∷ _ ∷ _ ∷ _ ∷ _ ∷ _ ∷ _ ∷ _ ∷ []) l = absurd (omega arith)
nine_are (_ ∷ _ ∷ _ ∷ _ ∷ _ ∷ _ ∷ _ ∷ _ ∷ _ ∷ []) l = refl
nine_are (_ ∷ _ ∷ _ ∷ _ ∷ _ ∷ _ ∷ _ ∷ _ ∷ _ ∷ _ ∷ _) l = absurd (omega arith)

-- nine stores fill a slice of nine
pub nine_words : (ws : List ℕ) (a b c d e f g h i : ℕ) → length ws ≡ 9
    → set (set (set (set (set (set (set (set (set ws 0 a) 1 b) 2 c) 3 d) 4 e) 5 f) 6 g) 7 h) 8 i ≡ (a ∷ b ∷ c ∷ d ∷ e ∷ f ∷ g ∷ h ∷ i ∷ [])
nine_words ws a b c d e f g h i l =
    ap (λ (w : List ℕ). set (set (set (set (set (set (set (set (set w 0 a) 1 b) 2 c) 3 d) 4 e) 5 f) 6 g) 7 h) 8 i) (sym (nine_are ws l))

module _ (a : Result Answer Refusal) (x : Answer) (words words' : List ℕ) (q : Request) (e : a ≡ Ok x) where
  pub over_ask : (r : Request) (s : State) → x ≡ Ask r s → words' ≡ words_of s → reply 0 words' r ≡ hand_over a words q
  unfolding hand_over
  over_ask r s f g = rw (e, f, g)

  pub over_finished : (s : State) → x ≡ Finished s → words' ≡ words_of s → reply 0 words' q ≡ hand_over a words q
  unfolding hand_over
  over_finished s f g = rw (e, f, g)

pub over_refused : (a : Result Answer Refusal) (e : Refusal) (k : ℕ) (words : List ℕ) (q : Request) → a ≡ Err e → k ≡ number e → reply k words q ≡ hand_over a words q
unfolding hand_over
over_refused a e k words q f g = rw (f, g)

-- ---- start

module _ (bound : ℕ) (t : Tables) (words : List ℕ) (q : Request) where
  pub start_deep : limit < bound → reply 5 words q ≡ start_replies bound t words q
  unfolding start_replies
  start_deep h = rw (lt-ltb limit bound h)

  pub start_wordless : (bound ≤ limit) → (length words ≡ 9 → ⊥) → reply 10 words q ≡ start_replies bound t words q
  unfolding start_replies
  start_wordless h n = rw (le-ltb limit bound h, ne_eqb (length words) 9 n)

  pub start_over : (a : Result Answer Refusal) (h : Reply) → bound ≤ limit → length words ≡ 9 → a ≡ start_at bound (lengths_of t) → h ≡ hand_over a words q → h ≡ start_replies bound t words q
  unfolding start_replies start_of
  start_over a h b l e f = rw (le-ltb limit bound b, eq-eqb (length words) 9 l, ← e) f

-- ---- distance

module _ (words : List ℕ) (d : Float) (t : Tables) (q : Request) where
  pub distance_wordless : (length words ≡ 9 → ⊥) → effect (reply 10 words q) t ≡ distance_effect words d t q
  unfolding distance_effect
  distance_wordless n = rw (ne_eqb (length words) 9 n)

  pub distance_over : (a : Result Answer Refusal) (t' : Tables) (h : Reply) → length words ≡ 9 → outcome a t' ≡ distance_of (state_of words) d t → h ≡ hand_over a words q
      → effect h t' ≡ distance_effect words d t q
  unfolding distance_effect effect_of
  distance_over a t' h l e f = rw (eq-eqb (length words) 9 l, ← e, f)

  pub distance_deep : length words ≡ 9 → limit < get_or words 0 0 → effect (reply 10 words q) t ≡ distance_effect words d t q
  unfolding distance_of state_of hand_over
  distance_deep l h = distance_over (Err NotFitting) t (reply 10 words q) l (deep_refused (state_of words) (split_of (state_of words) d) d t h) refl
