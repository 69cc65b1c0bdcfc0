-- The tree of a build that the program has finished, and what its list is answered. Assumes nothing.
use Prim.Native.Nat.{ℕ, ◌<◌}
use mathlib.Core.Path.{◌≡◌, sym, ◌∙◌, ap}
use mathlib.Core.Bool.{Bool, cond}
use mathlib.Core.Logic.{⊎_elim}
use mathlib.Core.List.{List}
use native.Mathlib.Omega.{arith}
use native.Mathlib.Decide.{dec_lt}
use lib.ListN.{length, take, replicate, length-replicate}
use lib.Ieee.{Float}
use borrow.Author.Tests.{lt-ltb, le-ltb}
use Rattle.build.specs.declared.State.{State}
use Rattle.std.specs.Prelude.{Result, Ok, Err}
use Rattle.refusals.specs.declared.Refusal.{Refusal}
use Rattle.refusals.specs.declared.Refusal.TheVariants.{ListFull}
use Rattle.build.specs.declared.Answer.{Answer}
use Rattle.build.specs.declared.Answer.TheVariants.{Finished}
use Rattle.build.specs.Build.{Tables, outcome, start_of}
use Rattle.tree.specs.Tree.{Tree, Sound}
use Rattle.vertices.specs.Listing as listing
use Rattle.vertices.specs.Listing.{Lists, lists_of, ListSays}
use Rattle.demands.specs.Reading.{tree_after}
use Rattle.demands.proofs.Trace.{nodes_count, leaves_count, run_traced}
use Rattle.demands.proofs.Soundness.{finished_sound}
use Rattle.counting.specs.Vertices.{vertex_count}
use Rattle.counting.specs.Printed.{after_all}
use Rattle.counting.specs.Writing.{Built, listed_of}
use Rattle.counting.proofs.Runs.{finished_run}
use Rattle.counting.proofs.Distinct.{listed_count}

pub built : (bound : ℕ) (lent : Tables) (ds : List Float) (s : State) (t : Tables) {a : Result Answer Refusal}
    → a ≡ Ok (Finished s) → outcome a t ≡ after_all ds (outcome (start_of bound lent) lent) → Built s t
built bound lent ds s t e h =
    let r = finished_run bound lent ds s t (sym h ∙ ap (λ (x : Result Answer Refusal). outcome x t) e) in
    record { bound = bound; lent = lent; given = r.0; run = r.1; done = r.2 }

module _ {s : State} {t : Tables} (h : Built s t) where
  pub built_sound : Sound (tree_after s t)
  built_sound = finished_sound h.bound h.lent h.given s t h.run h.done

  pub as_many_keys : length (take s.nodes t.keys) ≡ s.nodes
  as_many_keys = nodes_count s t (run_traced h.run)

  pub as_many_distances : length (take s.nodes t.distances) ≡ s.nodes
  as_many_distances = sym built_sound.as_many ∙ as_many_keys

  pub as_many_firsts : length (take s.nodes t.firsts) ≡ s.nodes
  as_many_firsts = sym built_sound.as_many_firsts ∙ as_many_keys

  pub as_many_leaves : length (take s.leaves t.leaves) ≡ s.leaves
  as_many_leaves = leaves_count s t (run_traced h.run)

-- The tables of 1,024 places that it is written to.
abbrev pub places : Lists
places = lists_of (replicate 1024 0) (replicate 1024 0)

more_than : (leaves : List ℕ) (w : listing.Short leaves 0 places) → 1024 < vertex_count leaves
more_than leaves w = go (dec_lt 1024 (vertex_count leaves))
  where
    go : Dec (1024 < vertex_count leaves) → 1024 < vertex_count leaves
    go (yes l) = l
    go (no l) =
        let e = length-replicate {A = ℕ} 1024 0 in
        let c = listed_count leaves w.vs w.ls w.listed in
        absurd (w.no_room (record { vertices = omega arith; levels = omega arith }))

abbrev choose : ℕ → Bool → Result ℕ Refusal
choose n b = cond b (Err ListFull) (Ok n)

pub list_is : (t : Tree) (after : Lists) (r : Result ℕ Refusal) → Sound t → ListSays t 0 places after r → r ≡ listed_of t.leaves
list_is t after (Ok n) sound (_, w) =
    let c : n ≡ vertex_count t.leaves = w.count ∙ listed_count t.leaves w.vs w.ls w.listed in
    ap (λ (m : ℕ). Ok m) c ∙ sym (ap (choose (vertex_count t.leaves)) (le-ltb 1024 (vertex_count t.leaves) (omega (arith, c, w.room.vertices, length-replicate {A = ℕ} 1024 0))))
list_is t after (Err e) sound (_, h) =
    ⊎_elim (λ n. absurd (n.0 sound))
    (λ p. ap (λ (x : Refusal). Err x) p.2 ∙ sym (ap (choose (vertex_count t.leaves)) (lt-ltb 1024 (vertex_count t.leaves) (more_than t.leaves p.1)))) h
