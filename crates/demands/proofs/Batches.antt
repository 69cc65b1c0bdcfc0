-- A host's batches give every vertex once: specs/Batches.antt, proved. Assumes nothing.
use Prim.Native.Nat.{ℕ, ◌+◌, ◌-◌, ◌*◌, ◌/◌, ◌%◌, ◌≤◌, ◌<◌}
use mathlib.Core.Path.{◌≡◌, refl, sym, ◌∙◌, ap, ap₂, subst}
use mathlib.Core.Logic.{◌⊎◌, inl, inr, ⊎_elim}
use mathlib.Core.List.{List, [], ◌++◌, append-nil}
use native.Mathlib.Omega.{arith}
use lib.Ieee.{Float}
use lib.ListN.{length, get_or, take, drop, length-append}
use lib.Seq.{drop-length, get_or-take, get_or-drop}
use Rattle.std.specs.Prelude.{Ok}
use Rattle.tree.specs.Tree.{Tree, Ascending, Sound}
use Rattle.tree.specs.Down.{Nodes}
use Rattle.tree.proofs.Finding.{nodes}
use Rattle.vertices.specs.Walk.{Spot, spots_of, vertices_of, levels_of}
use Rattle.vertices.specs.Cells.{wanted, places_of, places_at, Cells, cells_of, room_of, CellsSays}
use Rattle.vertices.specs.Listing.{written}
use Rattle.vertices.proofs.Blocks.{vertices_append, levels_append, vertices_length, levels_length}
use Rattle.vertices.proofs.Law.{spots_listed}
use Rattle.vertices.proofs.Storing.{places_append, places_length, all_wanted}
use Rattle.vertices.proofs.Rounds.{cells_right}
use Rattle.vertices.proofs.Batches.{spots_ascending, Gone, gone_begun, from_fits, since_ahead, came_count, came_vertices, came_levels, came_places, gone_full, all_came}
use Rattle.dual.specs.Dual.{DualCell}
use Rattle.dual.proofs.Filling.{answer_at, dual_inside, trusting_dual}
use Rattle.demands.specs.Batches.{CellAt, OfEachCall, with_batch, Batches, OfFullBatches, OfAllBatches, AllCells, OfSoundTreesInBatches}
use Rattle.demands.specs.Batches.Batches.{begun, full}
use Rattle.demands.specs.Batches.Done.{done}

-- ---- what a host has

-- some vertices with their levels and places
abbrev cells_at : Nodes → List Spot → Cells
cells_at ks ss = cells_of (vertices_of ss) (levels_of ss) (places_of ks ss)

-- the vertices that are past were got
record Kept (ks : Nodes) (calls from : ℕ) (got : Cells) : Type 0 where
  past : List Spot
  ahead : List Spot
  gone : Gone ks from past ahead
  got_is : got ≡ cells_at ks past
  few : calls ≤ length past

module _ (ks : Nodes) (calls from : ℕ) (got : Cells) (k : Kept ks calls from got) (was left : Cells) (n : ℕ) (says : CellsSays ks from was left n) where
  abbrev came : List Spot
  came = take (room_of was) k.ahead

  with_came : with_batch got left n ≡ cells_at ks (k.past ++ came)
  with_came =
      λ i. cells_of
      ((ap₂ ◌++◌ (ap (λ (c : Cells). c.vertices) k.got_is) (came_vertices ks from k.past k.ahead k.gone was left n says) ∙ sym (vertices_append k.past came)) i)
      ((ap₂ ◌++◌ (ap (λ (c : Cells). c.levels) k.got_is) (came_levels ks from k.past k.ahead k.gone was left n says) ∙ sym (levels_append k.past came)) i)
      ((ap₂ ◌++◌ (ap (λ (c : Cells). c.places) k.got_is) (came_places ks from k.past k.ahead k.gone was left n says) ∙ sym (places_append ks k.past came)) i)

  -- no fewer came than have room
  kept_full : 0 < room_of was → room_of was ≤ n → Kept ks (calls + 1) (get_or left.vertices (n - 1) 0 + 1) (with_batch got left n)
  kept_full some all =
      record {
        past = k.past ++ came;
        ahead = drop (room_of was) k.ahead;
        gone = gone_full ks from k.past k.ahead k.gone was left n says some all;
        got_is = with_came;
        few = omega (arith, k.few, length-append k.past came, came_count ks from k.past k.ahead k.gone was left n says);
      }

  -- fewer came than have room
  got_all : n < room_of was → with_batch got left n ≡ cells_at ks (spots_of ks)
  got_all fewer = with_came ∙ ap (cells_at ks) (sym (all_came ks from k.past k.ahead k.gone was left n says fewer))

kept_begun : (ks : Nodes) → Kept ks 0 0 (cells_of [] [] [])
unfolding vertices_of levels_of places_of
kept_begun ks = record { past = []; ahead = spots_of ks; gone = gone_begun ks; got_is = refl; few = omega arith }

batches_kept : {ks : Nodes} {calls from : ℕ} {got : Cells} → Batches ks calls from got → Kept ks calls from got
batches_kept {ks} begun = kept_begun ks
batches_kept {ks} (full {calls} {from} {got} was left n b room says all) = kept_full ks calls from got (batches_kept b) was left n says room all

-- ---- the places that go with a vertex

-- place i of the table is one of the eight of vertex i / 8
place_of : (i : ℕ) (got : Cells) → get_or (places_at (i / 8) got.places) (i % 8) 0 ≡ get_or got.places i 0
place_of i got =
    let e : 8 * (i / 8) + i % 8 ≡ i = omega arith in
    get_or-take 8 (drop (8 * (i / 8)) got.places) (i % 8) 0 (omega arith)
    ∙ get_or-drop (8 * (i / 8)) got.places (i % 8) 0
    ∙ ap (λ (x : ℕ). get_or got.places x 0) e

pub of_each_call : OfEachCall
of_each_call ks from was left n says j h ds =
    let p = cells_right ks from was left n says j h in
    answer_at _ _ p.word p.inner ks ds (places_at j left.places) (λ z. omega (arith, p.more)) p.eight p.at

-- so each lies inside, or is 0
pub places_inside : (ks : Nodes) (from : ℕ) (was left : Cells) (n : ℕ) → CellsSays ks from was left n → (i : ℕ) → i < 8 * n
    → (get_or left.places i 0 ≡ 0) ⊎ (get_or left.places i 0 < length ks.keys)
places_inside ks from was left n says i h =
    let (keys, distances, tried, answer) = of_each_call ks from was left n says (i / 8) (omega arith) [] in
    subst (λ (p : ℕ). (p ≡ 0) ⊎ (p < length ks.keys)) (place_of i left)
    (⊎_elim (λ z. inl z.1) (λ z. inr z.1) (dual_inside ks [] _ _ keys distances (places_at (i / 8) left.places) (Ok tried) answer (i % 8) (omega arith)))

-- one call with room for just all of them
one_call : (ks : Nodes) → CellsSays ks 0 (cells_at ks (spots_of ks)) (cells_at ks (spots_of ks)) (length (spots_of ks))
unfolding wanted room_of
one_call ks = record { count = ap length (sym all); vertices_are = table vertices_of; levels_are = table levels_of; places_are = table (places_of ks) }
  where
    room : ℕ
    room = room_of (cells_at ks (spots_of ks))

    enough : length (spots_of ks) ≤ room
    enough = omega (arith, vertices_length (spots_of ks), levels_length (spots_of ks), places_length ks (spots_of ks))

    all : wanted 0 room (spots_of ks) ≡ spots_of ks
    all = all_wanted ks (spots_of ks) room enough

    table : (of : List Spot → List ℕ) → of (spots_of ks) ≡ written (of (spots_of ks)) 0 (of (wanted 0 room (spots_of ks)))
    table of =
        let e : length (of (spots_of ks)) ≡ 0 + length (of (spots_of ks)) = omega arith in
        sym (append-nil (of (spots_of ks)))
        ∙ ap (λ (xs : List ℕ). of (spots_of ks) ++ xs) (sym (drop-length (of (spots_of ks))) ∙ ap (λ (n : ℕ). drop n (of (spots_of ks))) e)
        ∙ ap (λ (ss : List Spot). written (of (spots_of ks)) 0 (of ss)) (sym all)

-- so of all of them
each_cell : (ks : Nodes) (j : ℕ) → j < length (vertices_of (spots_of ks)) → CellAt ks (cells_at ks (spots_of ks)) j
each_cell ks j h = of_each_call ks 0 (cells_at ks (spots_of ks)) (cells_at ks (spots_of ks)) (length (spots_of ks)) (one_call ks) j (omega (arith, vertices_length (spots_of ks)))

-- ---- on any tables

pub of_full_batches : OfFullBatches
of_full_batches ks calls from got b =
    record {
      rest =
          ap vertices_of k.gone.both
          ∙ vertices_append k.past k.ahead
          ∙ ap₂ (λ (xs : List ℕ) (ss : List Spot). xs ++ vertices_of ss) (sym vertices_are) (sym (since_ahead ks from k.past k.ahead k.gone));
      fits = from_fits ks from k.past k.ahead k.gone;
      moves = omega (arith, k.few, ap length vertices_are, vertices_length k.past);
    }
  where
    k : Kept ks calls from got
    k = batches_kept b

    vertices_are : got.vertices ≡ vertices_of k.past
    vertices_are = ap (λ (c : Cells). c.vertices) k.got_is

pub of_all_batches : OfAllBatches
of_all_batches ks made all (done {calls} {from} {got} was left n b says fewer) =
    record {
      all = is;
      ascending = subst Ascending (sym vertices_are) (spots_ascending ks);
      cell = subst (λ (got : Cells). (j : ℕ) → j < length got.vertices → CellAt ks got j) (sym is) (each_cell ks);
      ends = omega (arith, k.few, ap length vertices_are, vertices_length (spots_of ks), ap length k.gone.both, length-append k.past k.ahead);
    }
  where
    k : Kept ks calls from got
    k = batches_kept b

    is : with_batch got left n ≡ cells_at ks (spots_of ks)
    is = got_all ks calls from got k was left n says fewer

    vertices_are : (with_batch got left n).vertices ≡ vertices_of (spots_of ks)
    vertices_are = ap (λ (c : Cells). c.vertices) is

-- ---- of a sound tree

module _ (t : Tree) (S : Sound t) where
  got : Cells
  got = cells_at (nodes t) (spots_of (nodes t))

  eight_each : length got.places ≡ 8 * length got.vertices
  unfolding got
  eight_each = omega (arith, places_length (nodes t) (spots_of (nodes t)), vertices_length (spots_of (nodes t)))

  cell : (j : ℕ) → j < length got.vertices
      → (keys : List ℕ) × (distances : List Float) × (tried : ℕ) × DualCell t (get_or got.levels j 0) (get_or got.vertices j 0) keys distances (places_at j got.places) tried
  unfolding got
  cell j h =
      let (keys, distances, tried, says) = each_cell (nodes t) j h t.distances in
      let word = (cells_right (nodes t) 0 got got (length (spots_of (nodes t))) (one_call (nodes t)) j (omega (arith, vertices_length (spots_of (nodes t))))).word in
      (keys, distances, tried, (trusting_dual t S _ _ word keys distances (places_at j got.places) (Ok tried) says).3)

  inside : (i : ℕ) → i < length got.places → get_or got.places i 0 < length t.keys
  inside i h =
      subst (λ (p : ℕ). p < length t.keys) (place_of i got) ((cell (i / 8) (omega (arith, eight_each))).3.entry (i % 8) (omega arith)).present.inside

  all_cells : AllCells t got
  unfolding got
  all_cells = record { listed = spots_listed t S; eight_each = eight_each; inside = inside; cell = cell }

pub of_sound_trees_in_batches : OfSoundTreesInBatches
unfolding got
of_sound_trees_in_batches t S calls got d = subst (AllCells t) (sym (of_all_batches (nodes t) calls got d).all) (all_cells t S)
