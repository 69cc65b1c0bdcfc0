-- A build from its start, and the cells it has at hand. Assumes nothing.
use Rattle.std.specs.Prelude.{ℕ, zero, suc, ◌+◌, ◌-◌, ◌*◌, ◌≡◌, cond, List, [], ◌∷◌, ◌++◌, eqb, take, Float, Ok}
use Rattle.morton.specs.Level.{level}
use Rattle.morton.specs.Split.{splits}
use Rattle.build.specs.declared.Request.{Request}
use Rattle.build.specs.declared.State.{State}
use Rattle.build.specs.declared.Answer.TheVariants.{Ask, Finished}
use Rattle.build.specs.Build.{Tables, outcome, item_at, start_of, distance_of}

-- Each call gets the state and the tables exactly as the last accepted call left them; `start_of` and `distance_of` are what the calls promise to
-- answer and to leave. `given` are the accepted distances, the last one first.
pub data Run (bound : ℕ) (lent : Tables) : List Float → State → Tables → Type 0 where
  started : {r : Request} {s : State} → start_of bound lent ≡ Ok (Ask r s) → Run bound lent [] s lent
  asked : {given : List Float} {r : Request} {s s' : State} {t t' : Tables} (d : Float)
      → Run bound lent given s t → distance_of s d t ≡ outcome (Ok (Ask r s')) t' → Run bound lent (d ∷ given) s' t'
  finished : {given : List Float} {s s' : State} {t t' : Tables} (d : Float)
      → Run bound lent given s t → distance_of s d t ≡ outcome (Ok (Finished s')) t' → Run bound lent (d ∷ given) s' t'

-- The keys of the nodes and of the leaves so far.
abbrev pub node_keys : State → Tables → List ℕ
node_keys s t = take s.nodes t.keys

abbrev pub leaf_keys : State → Tables → List ℕ
leaf_keys s t = take s.leaves t.leaves

-- The k items of the queue from item j on.
unfoldable pub items_from : List ℕ → ℕ → ℕ → List ℕ
items_from queue j zero = []
items_from queue j (suc k) = item_at queue j ∷ items_from queue (j + 1) k

-- With n nodes and m leaves 7n - 8m items wait, item n first.
abbrev pub waiting : State → Tables → List ℕ
waiting s t = items_from t.queue s.nodes (7 * s.nodes - 8 * s.leaves)

-- The cell asked for and those that wait; none once the build is finished.
unfoldable pub open_cells : State → Tables → List ℕ
open_cells s t = cond (eqb s.asked 0) [] (s.asked ∷ waiting s t)

-- n children of a cell from child w on, and all eight.
unfoldable pub children_from : ℕ → ℕ → ℕ → List ℕ
children_from k w zero = []
children_from k w (suc n) = (8 * k + w) ∷ children_from k (suc w) n

abbrev pub children : ℕ → List ℕ
children k = children_from k 0 8

-- Of cells with a distance each, those that document 01's rule leaves whole, in their order.
unfoldable pub whole_of : ℕ → List ℕ → List Float → List ℕ
whole_of bound [] ds = []
whole_of bound (k ∷ ks) [] = []
whole_of bound (k ∷ ks) (d ∷ ds) = cond (splits (level k) bound d) (whole_of bound ks ds) (k ∷ whole_of bound ks ds)

-- And the eight children of each that it splits.
unfoldable pub children_of : ℕ → List ℕ → List Float → List ℕ
children_of bound [] ds = []
children_of bound (k ∷ ks) [] = []
children_of bound (k ∷ ks) (d ∷ ds) = cond (splits (level k) bound d) (children k ++ children_of bound ks ds) (children_of bound ks ds)
