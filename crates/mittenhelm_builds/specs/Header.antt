-- The words of a state as include/mittenhelm.h tells them to hosts, one by one: a statement of the order beside the two of Words. Assumes nothing.
use Rattle.std.specs.Prelude.{ℕ, ◌≡◌, List, get_or}
use Rattle.build.specs.declared.State.{State}

-- The word at a place of the header's `enum mittenhelm_state`.
abbrev pub word : List ℕ → ℕ → ℕ
word words place = get_or words place 0

-- The words are those of the state.
pub record Told (words : List ℕ) (s : State) : Type 0 where
  pub bound : word words 0 ≡ s.bound
  pub nodes : word words 1 ≡ s.nodes
  pub leaves : word words 2 ≡ s.leaves
  pub asked : word words 3 ≡ s.asked
  pub keys_length : word words 4 ≡ s.lengths.keys
  pub distances_length : word words 5 ≡ s.lengths.distances
  pub firsts_length : word words 6 ≡ s.lengths.firsts
  pub leaves_length : word words 7 ≡ s.lengths.leaves
  pub queue_length : word words 8 ≡ s.lengths.queue
