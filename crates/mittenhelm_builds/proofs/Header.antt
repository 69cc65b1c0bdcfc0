-- A state and its words are one: what is written is read back, what is read is written back, and the words stand as the header tells it. Assumes nothing.
use Prim.Native.Nat.{ℕ}
use mathlib.Core.Path.{◌≡◌, refl}
use mathlib.Core.List.{List}
use lib.ListN.{length}
use Rattle.build.specs.declared.State.{State}
use Rattle.mittenhelm_builds.specs.Words.{state_of, words_of}
use Rattle.mittenhelm_builds.specs.Header.{Told}
use Rattle.mittenhelm_builds.proofs.Words.{nine_are}

pub read_back : (s : State) → state_of (words_of s) ≡ s
unfolding state_of words_of
read_back s = refl

pub written_back : (words : List ℕ) → length words ≡ 9 → words_of (state_of words) ≡ words
unfolding state_of words_of
written_back words l = nine_are words l

pub words_are_nine : (s : State) → length (words_of s) ≡ 9
unfolding words_of
words_are_nine s = refl

pub words_told : (s : State) → Told (words_of s) s
unfolding words_of
words_told s =
    record {
      bound = refl;
      nodes = refl;
      leaves = refl;
      asked = refl;
      keys_length = refl;
      distances_length = refl;
      firsts_length = refl;
      leaves_length = refl;
      queue_length = refl;
    }
