-- The tree of a finished build is sound. Assumes nothing.
use Prim.Native.Nat.{ℕ, zero, suc, ◌+◌, ◌*◌, ◌/◌, ◌≤◌, ◌<◌}
use mathlib.Core.Path.{◌≡◌, refl, sym, ap, ◌∙◌, subst, subst₂}
use mathlib.Core.Bool.{Bool, true, false}
use mathlib.Core.Logic.{◌⊎◌, inl, inr, ⊎_elim}
use mathlib.Core.List.{List, [], ◌∷◌, ◌++◌, append_assoc, append-nil, reverse}
use native.Mathlib.Omega.{arith}
use native.Mathlib.Decide.{ℕ_discrete}
use lib.ListN.{length, get_or, take, length-append, length-reverse, get_or-append}
use lib.Seq.{length-take-le}
use lib.Ieee.{Float, nan}
use Rattle.morton.specs.Level.{deepest, level, Cell, parent_of}
use Rattle.morton.specs.Split.{splits}
use Rattle.morton.proofs.Levels.{eight_pos}
use Rattle.build.specs.declared.Lengths.{Lengths}
use Rattle.build.specs.declared.State.{State}
use Rattle.build.specs.Build.{Tables, lengths_of, node_room, finest}
use Rattle.geometry.specs.Grid.{Cells}
use Rattle.tree.proofs.Lists.{in_cast, in_head, in_tail, in_none, in_cases, in_one, in_left, in_right, in_append}
use Rattle.tree.specs.Tree.{StandsAt, In, AllChildren, NoChild, AllFinite, FirstChild, Sound}
use Rattle.demands.specs.Run.{Run, node_keys, leaf_keys, children_from, children}
use Rattle.demands.specs.Reading.{tree_after}
use Rattle.demands.proofs.Growth.{Grown, grown_nodes, grown_leaves, grown_all, whole_into, firsts_of, first_stands, first_none}
use Rattle.demands.proofs.Growth.Grown.{root, kept, divided}
use Rattle.demands.proofs.Cover.{cells_append, cells_right, grown_covers}
use Rattle.demands.proofs.Order.{Rises, rises_in, rises_ascend, grown_ordered}
use Rattle.demands.proofs.Rule.{finest_deep}
use Rattle.demands.proofs.Finite.{finite_reverse}
use Rattle.demands.proofs.Trace.{Traced, open_none, nodes_count, run_traced}

cells_in : {D m : ℕ} (ks : List ℕ) → Cells D ks → In m ks → Cell (level m) m × (level m ≤ D)
cells_in [] c i = absurd (in_none i)
cells_in {D} {m} (k ∷ ks) c i =
    ⊎_elim (λ e. subst (λ (n : ℕ). Cell (level n) n × (level n ≤ D)) (sym e) c.0) (λ j. cells_in ks c.1 j) (in_cases i)

-- ---- children of a cell as a list

child_in : (k n w u : ℕ) → w ≤ u → u < w + n → In (8 * k + u) (children_from k w n)
unfolding children_from
child_in k zero w u a b = absurd (omega arith)
child_in k (suc n) w u a b = go (ℕ_discrete u w) (child_in k n (suc w) u)
  where
    go : Dec (u ≡ w) → (suc w ≤ u → u < suc w + n → In (8 * k + u) (children_from k (suc w) n)) → In (8 * k + u) ((8 * k + w) ∷ children_from k (suc w) n)
    go (yes e) h = in_head (omega arith)
    go (no e) h = in_tail (h (omega arith) (omega arith))

pub in_children : {m : ℕ} (k n w : ℕ) → w + n ≤ 8 → In m (children_from k w n) → m / 8 ≡ k
unfolding children_from
in_children k zero w h i = absurd (in_none i)
in_children {m} k (suc n) w h i =
    ⊎_elim (λ e. omega arith) (λ j. in_children k n (suc w) (omega arith) j) (in_cases i)

-- ---- parents and children while the cells grow

-- How the nodes, the leaves and all cells, the open ones last, are akin.
record Akin (all nodes leaves : List ℕ) : Type 0 where
  first : StandsAt all 0 1
  parents : (m : ℕ) → In m all → (m ≡ 1) ⊎ In (m / 8) nodes
  eight : (m : ℕ) → In m nodes → In m leaves ⊎ AllChildren m all
  leaf_nodes : (m : ℕ) → In m leaves → In m nodes
  childless : (m : ℕ) → In m leaves → NoChild m all

-- The cell k that is decided is above each node, and no child of it is there yet.
module _ (k : ℕ) (all nodes leaves : List ℕ) (h : Akin all nodes leaves)
    (newest : (m : ℕ) → In m nodes → m < k) (below : (m : ℕ) → In m all → m < 8 * k) where
  -- one more at the end of a list
  in_more : {m : ℕ} (xs : List ℕ) → In m xs → In m (xs ++ (k ∷ []))
  in_more xs i = in_left xs (k ∷ []) i

  in_last : {m : ℕ} (xs : List ℕ) → m ≡ k → In m (xs ++ (k ∷ []))
  in_last xs e = in_right xs (k ∷ []) (in_head e)

  one_more : {m : ℕ} (xs : List ℕ) → In m (xs ++ (k ∷ [])) → In m xs ⊎ (m ≡ k)
  one_more xs i = ⊎_elim (λ j. inl j) (λ j. inr (in_one j)) (in_append xs (k ∷ []) i)

  parents_more : (m : ℕ) → In m all → (m ≡ 1) ⊎ In (m / 8) (nodes ++ (k ∷ []))
  parents_more m i = ⊎_elim (λ e. inl e) (λ j. inr (in_more nodes j)) (h.parents m i)

  akin_kept : Akin all (nodes ++ (k ∷ [])) (leaves ++ (k ∷ []))
  akin_kept =
      record {
        first = h.first;
        parents = parents_more;
        eight = λ m i. ⊎_elim (λ j. ⊎_elim (λ l. inl (in_more leaves l)) (λ c. inr c) (h.eight m j)) (λ e. inl (in_last leaves e)) (one_more nodes i);
        leaf_nodes = λ m i. ⊎_elim (λ j. in_more nodes (h.leaf_nodes m j)) (λ e. in_last nodes e) (one_more leaves i);
        childless = λ m i w l c. ⊎_elim (λ j. h.childless m j w l c) (λ e. omega (arith, below (8 * m + w) c)) (one_more leaves i);
      }

  akin_divided : Akin (all ++ children k) (nodes ++ (k ∷ [])) leaves
  akin_divided =
      record {
        first =
            record {
              inside = omega (arith, length-append all (children k), h.first.inside);
              here = get_or-append all (children k) 0 0 h.first.inside ∙ h.first.here;
            };
        parents = λ m i. ⊎_elim (parents_more m) (λ j. inr (in_last nodes (in_children k 8 0 (omega arith) j))) (in_append all (children k) i);
        eight = λ m i. ⊎_elim (λ j. ⊎_elim (λ l. inl l) (λ c. inr (λ w l. in_left all (children k) (c w l))) (h.eight m j)) (λ e. inr (own_eight m e)) (one_more nodes i);
        leaf_nodes = λ m i. in_more nodes (h.leaf_nodes m i);
        childless =
            λ m i w l c.
            ⊎_elim (h.childless m i w l) (λ j. omega (arith, newest m (h.leaf_nodes m i), in_children k 8 0 (omega arith) j)) (in_append all (children k) c);
      }
    where
      own_eight : (m : ℕ) → m ≡ k → AllChildren m (all ++ children k)
      own_eight m e w l = in_cast (omega arith) (in_right all (children k) (child_in k 8 0 w (omega arith) (omega arith)))

akin_root : Akin (1 ∷ []) [] []
akin_root =
    record {
      first = record { inside = omega arith; here = refl };
      parents = λ m i. inl (in_one i);
      eight = λ m i. absurd (in_none i);
      leaf_nodes = λ m i. absurd (in_none i);
      childless = λ m i w l c. in_none i;
    }

-- the first open cell
module _ {bound k : ℕ} {given : List Float} {nodes leaves pending : List ℕ} (g : Grown bound given nodes leaves (k ∷ pending)) where
  next_newest : (m : ℕ) → In m nodes → m < k
  unfolding Rises
  next_newest m i =
      let o = grown_ordered g in
      let l : o.from ≤ k = o.pending_rise.0 in
      omega (arith, rises_in 0 o.from nodes o.nodes_rise i)

  next_below : (m : ℕ) → In m (nodes ++ (k ∷ pending)) → m < 8 * k
  unfolding Rises
  next_below m i =
      let o = grown_ordered g in
      let l : o.from ≤ k = o.pending_rise.0 in
      ⊎_elim (λ j. omega (arith, next_newest m j)) (λ j. omega (arith, rises_in o.from (8 * o.from) (k ∷ pending) o.pending_rise j)) (in_append nodes (k ∷ pending) i)

  next_cells : finest bound ≤ deepest → Cells (finest bound) nodes → Cells (finest bound) (nodes ++ (k ∷ []))
  next_cells deep c = cells_append (finest bound) nodes (k ∷ []) c ((cells_right (finest bound) leaves (k ∷ pending) (grown_covers deep g).cells).0, tt)

grown_akin : {bound : ℕ} {given : List Float} {nodes leaves pending : List ℕ} → Grown bound given nodes leaves pending → Akin (nodes ++ pending) nodes leaves
grown_akin root = akin_root
grown_akin (kept {k} {d} {given} {nodes} {leaves} {pending} _ g) =
    rw (append_assoc nodes (k ∷ []) pending) (akin_kept k (nodes ++ (k ∷ pending)) nodes leaves (grown_akin g) (next_newest g) (next_below g))
grown_akin (divided {k} {d} {given} {nodes} {leaves} {pending} _ g) =
    let e : (nodes ++ (k ∷ [])) ++ (pending ++ children k) ≡ (nodes ++ (k ∷ pending)) ++ children k = simp append_assoc in
    rw e (akin_divided k (nodes ++ (k ∷ pending)) nodes leaves (grown_akin g) (next_newest g) (next_below g))

-- the place beside a node, among all cells
pub grown_first : {bound : ℕ} {given : List Float} {nodes leaves pending : List ℕ} → Grown bound given nodes leaves pending → (i : ℕ) → i < length nodes
    → FirstChild (nodes ++ pending) (get_or nodes i 0) (get_or (firsts_of bound 1 nodes (reverse given)) i 0)
grown_first {bound} {given} {nodes} {leaves} {pending} g i l = go (splits (level (get_or nodes i 0)) bound (get_or (reverse given) i nan)) refl
  where
    paired : length nodes ≡ length (reverse given)
    paired = grown_nodes g ∙ sym (length-reverse given)

    go : (b : Bool) → splits (level (get_or nodes i 0)) bound (get_or (reverse given) i nan) ≡ b
        → FirstChild (nodes ++ pending) (get_or nodes i 0) (get_or (firsts_of bound 1 nodes (reverse given)) i 0)
    go true e =
        inl (subst (λ (all : List ℕ). StandsAt all (get_or (firsts_of bound 1 nodes (reverse given)) i 0) (8 * get_or nodes i 0)) (sym (grown_all g))
        (first_stands bound (1 ∷ []) nodes (reverse given) paired i 1 l refl e))
    go false e =
        inr (
          (grown_akin g).childless (get_or nodes i 0) (subst (In (get_or nodes i 0)) (sym (grown_leaves g)) (whole_into bound nodes (reverse given) paired i l e)),
          first_none bound nodes (reverse given) i 1 e,
        )

grown_cells : {bound : ℕ} {given : List Float} {nodes leaves pending : List ℕ} → finest bound ≤ deepest → Grown bound given nodes leaves pending
    → Cells (finest bound) nodes
grown_cells deep root = tt
grown_cells deep (kept _ g) = next_cells g deep (grown_cells deep g)
grown_cells deep (divided _ g) = next_cells g deep (grown_cells deep g)

-- ---- a finished build

-- no cell is open
module _ {bound : ℕ} {lent : Tables} {given : List Float} (s : State) (t : Tables) (h : Traced bound lent given s t) (done : s.asked ≡ 0) where
  tree_grown : Grown bound given (node_keys s t) (leaf_keys s t) []
  tree_grown = subst (Grown bound given (node_keys s t) (leaf_keys s t)) (open_none s t done) h.grown

  tree_akin : Akin (node_keys s t) (node_keys s t) (leaf_keys s t)
  tree_akin = subst (λ (all : List ℕ). Akin all (node_keys s t) (leaf_keys s t)) (append-nil (node_keys s t)) (grown_akin tree_grown)

  tree_cell : (m : ℕ) → In m (node_keys s t) → Cell (level m) m × (level m ≤ finest bound)
  tree_cell m i = cells_in (node_keys s t) (grown_cells (finest_deep bound h.bounded) tree_grown) i

  tree_firsts : length (node_keys s t) ≡ length (take s.nodes t.firsts)
  unfolding lengths_of node_room
  tree_firsts =
      let r : s.nodes ≤ node_room (lengths_of t) = subst (λ (z : Lengths). s.nodes ≤ node_room z) h.tables_same h.node_room_lem in
      nodes_count s t h ∙ sym (length-take-le s.nodes t.firsts (omega arith))

  tree_first : (i : ℕ) → i < length (node_keys s t) → FirstChild (node_keys s t) (get_or (node_keys s t) i 0) (get_or (take s.nodes t.firsts) i 0)
  tree_first i l =
      subst₂ (λ (all fs : List ℕ). FirstChild all (get_or (node_keys s t) i 0) (get_or fs i 0)) (append-nil (node_keys s t)) (sym h.firsts) (grown_first tree_grown i l)

  tree_pairs : length (node_keys s t) ≡ length (take s.nodes t.distances)
  tree_pairs = nodes_count s t h ∙ h.nodes ∙ sym (length-reverse given) ∙ sym (ap length h.distances)

  -- a parent is a cell too, so it isn't 0
  tree_parents : (m : ℕ) → In m (node_keys s t) → (m ≡ 1 → ⊥) → In (parent_of m) (node_keys s t)
  tree_parents m i n = ⊎_elim (λ e. absurd (n e)) (λ j. in_cast (own j) j) (tree_akin.parents m i)
    where
      own : In (m / 8) (node_keys s t) → parent_of m ≡ m / 8
      own j = omega (arith, (tree_cell (m / 8) j).0.low, eight_pos (level (m / 8)))

  sound : Sound (tree_after s t)
  unfolding finest
  sound =
      let o = grown_ordered tree_grown in
      let k = tree_akin in
      record {
        as_many = tree_pairs;
        all_finite = subst AllFinite (sym h.distances) (finite_reverse given h.known);
        ascending = rises_ascend 0 o.from (node_keys s t) o.nodes_rise;
        first = k.first;
        cells = λ m i. ((tree_cell m i).0, omega (arith, (tree_cell m i).1, h.bounded));
        parents = tree_parents;
        children = λ m i. ⊎_elim (λ j. inr (k.childless m j)) (λ c. inl c) (k.eight m i);
        leaves_ascending = rises_ascend 0 o.from (leaf_keys s t) o.leaves_rise;
        leaves_childless = λ m i. (k.leaf_nodes m i, k.childless m i);
        childless_leaves = λ m i n. ⊎_elim (λ j. j) (λ c. absurd (n 0 (omega arith) (c 0 (omega arith)))) (k.eight m i);
        as_many_firsts = tree_firsts;
        first_child = tree_first;
      }

module _ (bound : ℕ) (lent : Tables) (given : List Float) (s : State) (t : Tables) (run : Run bound lent given s t) (done : s.asked ≡ 0) where
  pub finished_sound : Sound (tree_after s t)
  finished_sound = sound s t (run_traced run) done

  -- no leaf is finer than the finest grid
  pub leaves_within : (k : ℕ) → In k (tree_after s t).leaves → level k ≤ finest bound
  leaves_within k i = (tree_cell s t (run_traced run) done k ((tree_akin s t (run_traced run) done).leaf_nodes k i)).1

  pub finest_within : finest bound ≤ deepest
  finest_within = finest_deep bound (run_traced run).bounded
