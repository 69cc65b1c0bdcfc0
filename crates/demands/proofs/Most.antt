-- How many vertices a tree has at most: specs/Most.antt, proved. Each vertex is a point of the grid of level 2, or a middle of a split cell of
-- level 2 or more. Assumes nothing.
use Prim.Native.Nat.{ℕ, zero, suc, ◌+◌, ◌-◌, ◌*◌, ◌/◌, ◌%◌, ◌≤◌, ◌<◌}
use mathlib.Core.Path.{◌≡◌, refl, sym, ◌∙◌, ap, ap₂, subst}
use mathlib.Core.Bool.{not}
use mathlib.Core.Logic.{⊎_elim}
use mathlib.Core.List.{List, [], ◌∷◌, ◌++◌}
use native.Mathlib.Decide.{dec_le}
use native.Mathlib.Omega.{arith}
use lib.Dec.{leb}
use lib.Ieee.{Float}
use lib.ListN.{length, length-append}
use borrow.Author.Tests.{le-leb, lt-leb}
use Rattle.morton.specs.Level.{deepest, limit, level}
use Rattle.morton.proofs.Levels.{eight_mono}
use Rattle.tree.specs.Tree.{Tree, In, AllFinite, Sound}
use Rattle.tree.proofs.Lists.{in_cast, in_none, in_cases, in_one, in_left, in_right, in_append, has, has_in, has_not, asc_from}
use Rattle.geometry.specs.Corner.{Corner, StrictlyInside}
use Rattle.geometry.specs.Listing.{Listed}
use Rattle.geometry.proofs.Place.{corner_grid, grid_below}
use Rattle.geometry.proofs.Vertex.{vertex_corner, vertex_strict}
use Rattle.geometry.proofs.Shape.{Shape, root_level, child_is, child_level, leaves_rising, sound_shape}
use Rattle.geometry.proofs.Few.{keep, in_keep, length_keep, few, numbers, numbers_in, asc_numbers}
use Rattle.geometry.proofs.Middles.{coarse, length_coarse, in_coarse, middles, length_middles, corner_up}
use Rattle.vertices.specs.Listing.{Lists, Room, Short}
use Rattle.demands.specs.Reading.{tree_after}
use Rattle.demands.specs.Most.{most, MostVertices, MostOfSoundTrees, MostOfFinishedBuilds}
use Rattle.demands.proofs.Rule.{whole_level}
use Rattle.demands.proofs.Finite.{finite_head, finite_tail}
use Rattle.demands.proofs.Growth.{Grown}
use Rattle.demands.proofs.Growth.Grown.{root, kept, divided}
use Rattle.demands.proofs.Trace.{nodes_count, leaves_count, run_traced}
use Rattle.demands.proofs.Soundness.{finished_sound}

-- ---- the middles of many cells

-- All middles of the cells of a list.
added : List ℕ → List ℕ
added [] = []
added (k ∷ ks) = middles (level k) k ++ added ks

length_added : (ks : List ℕ) → length (added ks) ≡ 19 * length ks
unfolding added
length_added [] = refl
length_added (k ∷ ks) = omega (arith, length-append (middles (level k) k) (added ks), length_middles (level k) k, length_added ks)

in_added : (v k : ℕ) (ks : List ℕ) → In k ks → In v (middles (level k) k) → In v (added ks)
unfolding added
in_added v k [] m i = absurd (in_none m)
in_added v k (x ∷ xs) m i =
    ⊎_elim (λ e. in_left (middles (level x) x) (added xs) (subst (λ (n : ℕ). In v (middles (level n) n)) e i))
    (λ n. in_right (middles (level x) x) (added xs) (in_added v k xs n i)) (in_cases m)

module _ (D : ℕ) (ns ls : List ℕ) (t : Shape D ns ls) (deep : D < deepest) where
  -- The nodes that aren't leaves; those of them below the root's children; the points that these add to the grid of level 2.
  splits : List ℕ
  splits = keep (λ k. not (has ls k)) ns

  lower : List ℕ
  lower = keep (leb 16) splits

  points : List ℕ
  points = coarse ++ added lower

  in_splits : (k : ℕ) → In k ns → (In k ls → ⊥) → In k splits
  unfolding splits
  in_splits k m n = in_keep (λ k. not (has ls k)) ns k (ap not (has_not k ls n)) m

  -- ---- each vertex is one of the points

  on_coarse : (L k w v : ℕ) → L ≤ 2 → Corner L k w v → StrictlyInside v → In v points
  unfolding points
  on_coarse L k w v h c i = in_left coarse (added lower) (in_coarse v i (grid_below L 2 v h (omega arith) (corner_grid L k w v c)))

  on_middle : (L k v : ℕ) → 2 ≤ L → In k ns → (In k ls → ⊥) → level k ≡ L → In v (middles L k) → In v points
  unfolding points lower
  on_middle L k v h m n e i =
      in_right coarse (added lower)
      (in_added v k lower
      (in_keep (leb 16) splits k (le-leb 16 k (omega (arith, (t.cells k m).0.low, eight_mono {i = 2} {j = level k} (omega arith)))) (in_splits k m n))
      (subst (λ (x : ℕ). In v (middles x k)) (sym e) i))

  -- a corner of a node, from the node up
  in_points : (L k w v : ℕ) → In k ns → level k ≡ L → Corner L k w v → StrictlyInside v → In v points
  in_points zero k w v m e c i = on_coarse 0 k w v (omega arith) c i
  in_points (suc L) k w v m e c i =
      elim (dec_le (suc L) 2) [
        | yes h ↦ on_coarse (suc L) k w v h c i
        | no h ↦ ⊎_elim (λ one. absurd (omega (arith, ap level one, root_level))) (go h (in_points L)) (t.parents k m)
      ]
    where
      go : (suc L ≤ 2 → ⊥) → ((k w v : ℕ) → In k ns → level k ≡ L → Corner L k w v → StrictlyInside v → In v points) → In (k / 8) ns → In v points
      go h up j =
          let own : 8 * (k / 8) + k % 8 ≡ k = child_is (k / 8) k refl in
          let l : level (k / 8) ≡ L = omega (arith, ap level own, child_level (k / 8) (k % 8) (t.cells (k / 8) j).0 (omega (arith, (t.cells (k / 8) j).1)) (omega arith)) in
          ⊎_elim (λ d. up (k / 8) d.0 v j l d.1 i)
          (on_middle L (k / 8) v (omega arith) j (λ b. t.none (k / 8) (k % 8) b (omega arith) (in_cast own m)) l)
          (corner_up L k w v (omega (arith, (t.cells k m).1)) i c)

  few_vertices : (vs us : List ℕ) → Listed ls vs us → length vs ≤ 27 + 19 * length lower
  unfolding points
  few_vertices vs us list =
      omega (
        arith,
        few 0 vs points (asc_from 0 vs list.ascending (λ l. omega arith)) one,
        length-append coarse (added lower),
        length_coarse,
        length_added lower,
      )
    where
      one : (x : ℕ) → In x vs → In x points
      one x m =
          let f = list.from m.place m.inside in
          let g = f.1 in
          let e = g.gives ∙ m.here in
          let p : 0 < x = omega (arith, f.0, m.here) in
          in_points (level g.leaf) g.leaf g.corner x (t.here g.leaf g.is_leaf) refl
          (vertex_corner (level g.leaf) g.leaf g.corner x e p)
          (vertex_strict (level g.leaf) g.leaf g.corner x e p)

  -- ---- how many are split

  module _ (low : (k : ℕ) → In k ls → 2 ≤ level k) where
    nine : List ℕ
    nine = 1 ∷ numbers 8 8

    root_split : In 1 ls → ⊥
    root_split m = omega (arith, low 1 m, root_level)

    child_split : (w : ℕ) → w < 8 → In (8 * 1 + w) ns × (In (8 * 1 + w) ls → ⊥)
    child_split w h = (
      ⊎_elim (λ m. absurd (root_split m)) (λ all. all w h) (t.eight 1 t.first),
      λ m. omega (arith, low (8 * 1 + w) m, root_level, child_level 1 w (t.cells 1 t.first).0 (omega (arith, root_level)) h),
    )

    nine_split : (k : ℕ) → In k nine → In k (keep (λ k. not (leb 16 k)) splits)
    unfolding nine
    nine_split k m =
        ⊎_elim
        (λ e. in_keep (λ k. not (leb 16 k)) splits k (ap not (lt-leb 16 k (omega arith))) (in_cast e (in_splits 1 t.first root_split)))
        (λ i.
        let b = numbers_in 8 8 k i in
        let c = child_split (k - 8) (omega arith) in
        in_keep (λ k. not (leb 16 k)) splits k (ap not (lt-leb 16 k b.1))
        (in_cast (omega arith) (in_splits (8 * 1 + (k - 8)) c.0 c.1)))
        (in_cases m)

    counted : length ls + 9 + length lower ≤ length ns
    unfolding splits lower nine numbers
    counted =
        omega (
          arith,
          length_keep (has ls) ns,
          length_keep (leb 16) splits,
          few 1 ls (keep (has ls) ns) (leaves_rising D ns ls t) (λ k m. in_keep (has ls) ns k (has_in k ls m) (t.here k m)),
          few 1 nine (keep (λ k. not (leb 16 k)) splits) (omega arith, asc_numbers 2 8 8 (omega arith)) nine_split,
        )

    few_by_splits : (vs us : List ℕ) → Listed ls vs us → length vs ≤ most (length ns - length ls)
    few_by_splits vs us list = omega (arith, counted, few_vertices vs us list)

-- ---- sound trees and builds

module _ (t : Tree) (sound : Sound t) (low : (k : ℕ) → In k t.leaves → 2 ≤ level k) where
  few_listed : (vs us : List ℕ) → Listed t.leaves vs us → length vs ≤ most (length t.keys - length t.leaves)
  few_listed = few_by_splits limit t.keys t.leaves (sound_shape t sound) (omega arith) low

  long_enough : (start : ℕ) (was : Lists) → Room start (most (length t.keys - length t.leaves)) was → Short t.leaves start was → ⊥
  long_enough start was r short =
      let l = few_listed short.vs short.ls short.listed in
      short.no_room (record { vertices = omega (arith, r.vertices); levels = omega (arith, r.levels) })

pub most_of_sound_trees : MostOfSoundTrees
most_of_sound_trees t sound low =
    record {
      nine = omega (arith, counted limit t.keys t.leaves (sound_shape t sound) (omega arith) low);
      at_most = few_listed t sound low;
      enough = λ start k was left r (_, why). ⊎_elim (λ x. x.0 sound) (λ x. long_enough t sound low start was r x.1) why;
    }

-- no build leaves the root or a child of it whole
grown_low : {bound : ℕ} {given : List Float} {nodes leaves pending : List ℕ} → Grown bound given nodes leaves pending → AllFinite given → (k : ℕ) → In k leaves → 2 ≤ level k
grown_low root all k m = absurd (in_none m)
grown_low {bound} (kept {k = j} {d} {given} {leaves = leaves} e g) all k m =
    ⊎_elim (λ i. grown_low g (finite_tail d given all) k i) (λ i. omega (arith, ap level (in_one i), whole_level (level j) bound d (finite_head d given all) e))
    (in_append leaves (j ∷ []) m)
grown_low (divided {d = d} {given = given} _ g) all k m = grown_low g (finite_tail d given all) k m

pub most_of_finished_builds : MostOfFinishedBuilds
most_of_finished_builds bound lent given s t run done =
    let h = run_traced run in
    subst (λ (splits : ℕ). MostVertices splits (tree_after s t)) (ap₂ ◌-◌ (nodes_count s t h) (leaves_count s t h))
    (most_of_sound_trees (tree_after s t) (finished_sound bound lent given s t run done) (grown_low h.grown h.known))
