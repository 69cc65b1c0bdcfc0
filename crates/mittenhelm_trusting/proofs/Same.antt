-- Of a sound tree, what is handed over is what the calls that check it first hand over. Assumes nothing.
use Prim.Native.Nat.{ℕ, ◌^◌, ◌<◌}
use Rattle.tree.specs.Tree.{Tree, Sound}
use Rattle.tree.specs.Climb.{trusting_of}
use Rattle.tree.proofs.Finding.{nodes, trusting_lookup}
use Rattle.vertices.specs.Listing.{Lists}
use Rattle.vertices.proofs.Law.{trusting_list}
use Rattle.dual.proofs.Filling.{trusting_dual}
use Rattle.mittenhelm_reading.specs.Reading.{Found, HandsFound, HandsLookup, HandsList, Eight, HandsDual}
use Rattle.mittenhelm_trusting.specs.Trusting.{HandsTrustedList, HandsTrustedDual}

module _ (t : Tree) (S : Sound t) where
  pub same_look_up : (key : ℕ) (was : Found) (r : ℕ) (out : Found) → HandsFound (trusting_of (nodes t) t.distances key) was r out → HandsLookup t key was r out
  same_look_up key was r out h = (trusting_of (nodes t) t.distances key, trusting_lookup t S key, h)

  pub same_list : (start : ℕ) (before after : Lists) (was r out : ℕ) → HandsTrustedList (nodes t) start before after was r out → HandsList t start before after was r out
  same_list start before after was r out (a, says, h) = (a, trusting_list t S start before after a says, h)

  -- a vertex is a number of 64 bits
  pub same_dual_cell : (L v : ℕ) → v < 2 ^ 64 → (was : Eight) (r : ℕ) (out : Eight) → HandsTrustedDual (nodes t) t.distances L v was r out → HandsDual t L v was r out
  same_dual_cell L v word was r out (a, says, h) = (a, trusting_dual t S L v word a.keys a.distances a.places a.tried says, h)
