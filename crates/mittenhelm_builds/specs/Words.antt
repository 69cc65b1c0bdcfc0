-- How a build is handed to a host: its state as nine words in a lent slice, its request in five places. Assumes nothing.
use Rattle.std.specs.Prelude.{ℕ, Result, Ok, Err, cond, not, List, [], ◌∷◌, eqb, ltb, Float, length, get_or}
use Rattle.morton.specs.Level.{limit}
use Rattle.refusals.specs.declared.Refusal.{Refusal}
use Rattle.refusals.specs.Refusals.{number}
use Rattle.build.specs.declared.Request.{Request}
use Rattle.build.specs.declared.State.{State}
use Rattle.build.specs.declared.Answer.{Answer}
use Rattle.build.specs.declared.Answer.TheVariants.{Ask, Finished}
use Rattle.build.specs.Build.{Tables, Outcome, start_of, distance_of}

-- The words: bound, nodes, leaves, the asked key, and the lengths of node keys, node distances, first children, leaf keys and queue.
unfoldable pub state_of : List ℕ → State
state_of words =
    record {
      bound = get_or words 0 0;
      nodes = get_or words 1 0;
      leaves = get_or words 2 0;
      asked = get_or words 3 0;
      lengths = record { keys = get_or words 4 0; distances = get_or words 5 0; firsts = get_or words 6 0; leaves = get_or words 7 0; queue = get_or words 8 0 };
    }

unfoldable pub words_of : State → List ℕ
words_of s =
    s.bound ∷ s.nodes ∷ s.leaves ∷ s.asked
    ∷ s.lengths.keys ∷ s.lengths.distances ∷ s.lengths.firsts ∷ s.lengths.leaves ∷ s.lengths.queue ∷ []

abbrev pub request_at : ℕ → Float → Float → Float → Float → Request
request_at key x y z half = record { key = key; x = x; y = y; z = z; half = half }

-- What a call hands over: the number it returns, the state's words, and the five places of the request.
pub record Reply : Type 0 where
  pub number : ℕ
  pub words : List ℕ
  pub request : Request

abbrev pub reply : ℕ → List ℕ → Request → Reply
reply number words request = record { number = number; words = words; request = request }

-- A state and a request are written where there are any; a refusal leaves all as it was.
unfoldable pub hand_over : Result Answer Refusal → List ℕ → Request → Reply
hand_over (Ok (Ask r s)) words request = reply 0 (words_of s) r
hand_over (Ok (Finished s)) words request = reply 0 (words_of s) request
hand_over (Err e) words request = reply (number e) words request

-- 5 as for every start. Then 10, since a slice of other than nine words is no place for a state.
unfoldable pub start_replies : ℕ → Tables → List ℕ → Request → Reply
start_replies bound t words request =
    cond (ltb limit bound) (reply 5 words request)
    (cond (not (eqb (length words) 9)) (reply 10 words request)
    (hand_over (start_of bound t) words request))

-- The same with the tables as the call leaves them.
pub record Effect : Type 0 where
  pub said : Reply
  pub tables : Tables

abbrev pub effect : Reply → Tables → Effect
effect said t = record { said = said; tables = t }

unfoldable pub effect_of : Outcome → List ℕ → Request → Effect
effect_of o words request = effect (hand_over o.answer words request) o.tables

-- 10 too where a slice of other than nine words holds no state.
unfoldable pub distance_effect : List ℕ → Float → Tables → Request → Effect
distance_effect words d t request =
    cond (not (eqb (length words) 9)) (effect (reply 10 words request) t)
    (effect_of (distance_of (state_of words) d t) words request)
