-- A build as a host has it behind the C boundary: nine words and five tables, from its start on. Assumes nothing.
use Rattle.std.specs.Prelude.{ℕ, suc, ◌≡◌, List, [], ◌∷◌, length, take, Float}
use Rattle.build.specs.declared.Request.{Request}
use Rattle.build.specs.Build.{Tables}
use Rattle.tree.specs.Tree.{Tree}
use Rattle.mittenhelm_builds.specs.Words.{reply, start_replies, effect, distance_effect}
use Rattle.mittenhelm_builds.specs.Header.{word}

-- What stands in a host's places when it calls: the words before the start, and the request's five places before the start, which is call 0, and
-- before the i-th accepted distance. It may be anything; only a start with other than nine words isn't accepted.
pub record Host : Type 0 where
  pub words : List ℕ
  pub places : ℕ → Request

-- Each call gets the words and the tables exactly as the last accepted call left them; `start_replies` and `distance_effect` are what the exported
-- calls promise to return and to leave, and 0 is returned for an accepted call. Refused ones may come in between: they change nothing. `given` are the
-- accepted distances, the last one first.
pub data HostRun (host : Host) (bound : ℕ) (lent : Tables) : List Float → List ℕ → Tables → Type 0 where
  started : {words : List ℕ} {request : Request} → start_replies bound lent host.words (host.places 0) ≡ reply 0 words request
      → HostRun host bound lent [] words lent
  told : {given : List Float} {words words' : List ℕ} {request : Request} {t t' : Tables} (d : Float)
      → HostRun host bound lent given words t
      → distance_effect words d t (host.places (suc (length given))) ≡ effect (reply 0 words' request) t'
      → HostRun host bound lent (d ∷ given) words' t'

-- Of a build with n nodes and m leaves the first n keys, distances and first children and the first m leaves.
abbrev pub tree_in : List ℕ → Tables → Tree
tree_in words t =
    record {
      keys = take (word words 1) t.keys;
      distances = take (word words 1) t.distances;
      firsts = take (word words 1) t.firsts;
      leaves = take (word words 2) t.leaves;
    }
