-- What a run keeps, from its start on. Assumes nothing.
use Prim.Native.Nat.{ℕ, suc, ◌+◌, ◌-◌, ◌*◌, ◌≤◌, ◌<◌}
use mathlib.Core.Path.{◌≡◌, refl, sym, ◌∙◌, ap, ap₂, subst}
use mathlib.Core.Bool.{Bool, true, false, cond}
use mathlib.Core.List.{List, [], ◌∷◌, ◌++◌, reverse, reverse-cons}
use native.Mathlib.Omega.{arith}
use native.Mathlib.Numerals.{add-one}
use native.Mathlib.Decide.{dec_lt}
use lib.Dec.{ltb}
use lib.ListN.{length, take, set, length-set}
use lib.Seq.{take-suc-set, length-take-le}
use lib.Ieee.{Float}
use borrow.Author.Tests.{eq-eqb, ne_eqb, lt-ltb, le-ltb, ltb-false}
use Rattle.std.specs.Prelude.{Result, Ok, Err}
use Rattle.refusals.specs.declared.Refusal.{Refusal}
use Rattle.build.specs.declared.Answer.{Answer}
use Rattle.morton.specs.Level.{deepest, limit, level, Cell}
use Rattle.morton.specs.Split.{splits}
use Rattle.morton.proofs.Levels.{eight_pos}
use Rattle.build.specs.declared.Lengths.{Lengths}
use Rattle.build.specs.declared.Request.{Request}
use Rattle.build.specs.declared.State.{State}
use Rattle.build.specs.declared.Answer.TheVariants.{Ask}
use Rattle.build.specs.Build.{allowed, Tables, lengths_of, node_room, finest, items, item_at, full_of, refusal_of, split_of, queue_of, first_of, stored_of, leaves_of, moved_of, start_of, start_at}
use Rattle.build.proofs.Ring.{length_children}
use Rattle.build.proofs.Laws.{passed, full_leaf, full_ring, ready}
use Rattle.tree.specs.Tree.{AllFinite}
use Rattle.geometry.specs.Grid.{Cells}
use Rattle.demands.specs.Run.{Run, node_keys, leaf_keys, items_from, waiting, open_cells}
use Rattle.demands.specs.Run.Run.{started, asked, finished}
use Rattle.demands.proofs.Growth.{Grown, firsts_of, firsts_next}
use Rattle.demands.proofs.Growth.Grown.{root, kept, divided}
use Rattle.demands.proofs.Cover.{cells_right, grown_covers}
use Rattle.demands.proofs.Rule.{finest_deep}
use Rattle.demands.proofs.Finite.{finite_none, finite_more}
use Rattle.demands.proofs.Items.{items_stored}
use Rattle.demands.proofs.Call.{next_of, state_after, Took, answer_took, answered}

-- The cells at hand have grown from the root.
abbrev pub GrownIn : ℕ → List Float → State → Tables → Type 0
GrownIn bound given s t = Grown bound given (node_keys s t) (leaf_keys s t) (open_cells s t)

-- State and tables after the distances `given`.
pub record Traced (bound : ℕ) (lent : Tables) (given : List Float) (s : State) (t : Tables) : Type 0 where
  -- as at the start
  pub bound_same : s.bound ≡ bound
  pub bounded : bound ≤ limit
  pub lengths_same : s.lengths ≡ lengths_of lent
  pub tables_same : s.lengths ≡ lengths_of t
  -- a node for each distance, and each is finite
  pub nodes : s.nodes ≡ length given
  pub distances : take s.nodes t.distances ≡ reverse given
  pub known : AllFinite given
  -- and the place of its first child
  pub firsts : take s.nodes t.firsts ≡ firsts_of bound 1 (node_keys s t) (reverse given)
  -- room
  pub node_room_lem : s.nodes ≤ node_room s.lengths
  pub leaf_room : s.leaves ≤ s.lengths.leaves
  pub queue_room : 7 * s.nodes - 8 * s.leaves ≤ s.lengths.queue
  -- the cells
  pub grown : GrownIn bound given s t

-- ---- the open cells

cell_not_0 : {L k : ℕ} → Cell L k → k ≡ 0 → ⊥
cell_not_0 {L} {k} c e = let l = c.low in let p = eight_pos L in omega arith

module _ (s : State) (t : Tables) where
  pub open_none : s.asked ≡ 0 → open_cells s t ≡ []
  unfolding open_cells
  open_none e = rw (eq-eqb s.asked 0 e) refl

  pub open_asked : (s.asked ≡ 0 → ⊥) → open_cells s t ≡ s.asked ∷ waiting s t
  unfolding open_cells
  open_asked n = rw (ne_eqb s.asked 0 n) refl

-- item n is taken if any waits, and is a cell
open_moved : (D m : ℕ) (s : State) (t : Tables) → m ≤ s.nodes + 1 → Cells D (items_from t.queue s.nodes (items (s.nodes + 1) m - s.nodes))
    → open_cells (moved_of s m (next_of s m t.queue)) t ≡ items_from t.queue s.nodes (items (s.nodes + 1) m - s.nodes)
unfolding next_of moved_of items_from
open_moved D m s t h = go (dec_lt s.nodes (items (s.nodes + 1) m))
  where
    go : Dec (s.nodes < items (s.nodes + 1) m) → Cells D (items_from t.queue s.nodes (items (s.nodes + 1) m - s.nodes))
        → open_cells (moved_of s m (next_of s m t.queue)) t ≡ items_from t.queue s.nodes (items (s.nodes + 1) m - s.nodes)
    go (yes l) =
        let e : items (s.nodes + 1) m - s.nodes ≡ suc (7 * (s.nodes + 1) - 8 * m) = omega arith in
        rw (e, lt-ltb s.nodes (items (s.nodes + 1) m) l)
        (λ c. open_asked (moved_of s m (item_at t.queue s.nodes)) t (cell_not_0 c.0.0))
    go (no l) =
        let e : items (s.nodes + 1) m - s.nodes ≡ 0 = omega arith in
        rw (e, le-ltb s.nodes (items (s.nodes + 1) m) (omega arith)) (λ c. open_none (moved_of s m 0) t refl)

-- ---- an accepted call

take_set : {A : Type 0} (l : List A) (i : ℕ) (a : A) → i < length l → take (i + 1) (set l i a) ≡ take i l ++ (a ∷ [])
take_set l i a h = ap (λ (j : ℕ). take j (set l i a)) (add-one i) ∙ take-suc-set l i a h

lengths_stored : (s : State) (split : Bool) (d : Float) (t : Tables) → lengths_of t ≡ lengths_of (stored_of s split d t)
unfolding lengths_of stored_of queue_of
lengths_stored s true d t = simp (length-set, length_children)
lengths_stored s false d t = simp length-set

module _ (bound : ℕ) (deep : finest bound ≤ deepest) (given : List Float) (s : State) (d : Float) (t : Tables) (g : GrownIn bound given s t) where
  -- the asked cell first
  grown_asked : (s.asked ≡ 0 → ⊥) → Grown bound given (node_keys s t) (leaf_keys s t) (s.asked ∷ waiting s t)
  grown_asked n = rw (open_asked s t n) at g

  -- the asked cell goes to the nodes, item n is taken
  grown_stored : (split : Bool) (leaves : List ℕ) → refusal_of s split d t ≡ allowed → leaves_of s split ≤ s.nodes + 1 → take (leaves_of s split) (stored_of s split d t).leaves ≡ leaves
      → Grown bound (d ∷ given) (node_keys s t ++ (s.asked ∷ [])) leaves (items_from (queue_of s split t) s.nodes (items (s.nodes + 1) (leaves_of s split) - s.nodes))
      → GrownIn bound (d ∷ given) (state_after s split t) (stored_of s split d t)
  unfolding stored_of moved_of
  grown_stored split leaves z few e n =
      rw (
        take_set t.keys s.nodes s.asked (ready s split d t z).key_room,
        e,
        open_moved (finest bound) (leaves_of s split) s (stored_of s split d t) few (cells_right (finest bound) leaves _ (grown_covers deep n).cells),
      ) n

  grown_step : (split : Bool) → refusal_of s split d t ≡ allowed → splits (level s.asked) bound d ≡ split
      → GrownIn bound (d ∷ given) (state_after s split t) (stored_of s split d t)
  unfolding refusal_of leaves_of stored_of queue_of lengths_of
  grown_step true z rule =
      let p = passed _ _ d _ _ _ _ z in
      let k = 7 * s.nodes - 8 * s.leaves in
      let room : k + 8 ≤ length t.queue = omega (arith, full_ring s p.full, p.state.lengths.queue) in
      let at : items s.nodes s.leaves ≡ s.nodes + k = omega (arith, p.state.waiting) in
      let more : items (s.nodes + 1) s.leaves - s.nodes ≡ k + 8 = omega (arith, p.state.waiting) in
      grown_stored true (leaf_keys s t) z (omega (arith, p.state.waiting)) refl
      (rw (at, more, items_stored t.queue s.asked s.nodes k room) (divided rule (grown_asked p.asks)))
  grown_step false z rule =
      let p = passed _ _ d _ _ _ _ z in
      let same : items (s.nodes + 1) (s.leaves + 1) - s.nodes ≡ 7 * s.nodes - 8 * s.leaves = omega (arith, p.state.waiting) in
      grown_stored false (leaf_keys s t ++ (s.asked ∷ [])) z (omega (arith, p.state.waiting))
      (take_set t.leaves s.leaves s.asked ((ready s false d t z).leaf_room refl))
      (rw same (kept rule (grown_asked p.asks)))

module _ {bound : ℕ} {lent : Tables} {given : List Float} (s : State) (t : Tables) (h : Traced bound lent given s t) where
  pub nodes_count : length (node_keys s t) ≡ s.nodes
  unfolding lengths_of node_room
  nodes_count =
      let r : s.nodes ≤ node_room (lengths_of t) = subst (λ (z : Lengths). s.nodes ≤ node_room z) h.tables_same h.node_room_lem in
      length-take-le s.nodes t.keys (omega arith)

  pub leaves_count : length (leaf_keys s t) ≡ s.leaves
  unfolding lengths_of
  leaves_count = length-take-le s.leaves t.leaves (subst (λ (z : Lengths). s.leaves ≤ z.leaves) h.tables_same h.leaf_room)

module _ {bound : ℕ} {lent : Tables} {given : List Float} (s : State) (t : Tables) (d : Float) (h : Traced bound lent given s t) where
  -- the place that is stored: item j becomes the node at place j + 1
  first_stored : first_of s (split_of s d) ≡ cond (splits (level s.asked) bound d) (8 * (length (node_keys s t) - length (leaf_keys s t)) + 1) 0
  unfolding first_of split_of
  first_stored =
      ap (λ (b : ℕ). cond (splits (level s.asked) b d) (items s.nodes s.leaves + 1) 0) h.bound_same
      ∙ ap₂ (λ (n m : ℕ). cond (splits (level s.asked) bound d) (items n m + 1) 0) (sym (nodes_count s t h)) (sym (leaves_count s t h))

  leaf_room_after : (split : Bool) → full_of s split ≡ allowed → leaves_of s split ≤ s.lengths.leaves
  unfolding leaves_of
  leaf_room_after true f = h.leaf_room
  leaf_room_after false f = let l = h.leaf_room in let n = full_leaf s f in omega arith

  queue_room_after : (split : Bool) → full_of s split ≡ allowed → 8 * s.leaves ≤ 7 * s.nodes → 7 * (s.nodes + 1) - 8 * leaves_of s split ≤ s.lengths.queue
  unfolding leaves_of
  queue_room_after true f w = omega (arith, full_ring s f)
  queue_room_after false f w = omega (arith, h.queue_room)

  moved_traced : refusal_of s (split_of s d) d t ≡ allowed → Traced bound lent (d ∷ given) (state_after s (split_of s d) t) (stored_of s (split_of s d) d t)
  unfolding moved_of refusal_of split_of stored_of
  moved_traced z =
      let p = passed _ _ d _ _ _ _ z in
      record {
        bound_same = h.bound_same;
        bounded = h.bounded;
        lengths_same = h.lengths_same;
        tables_same = h.tables_same ∙ lengths_stored s (split_of s d) d t;
        nodes = omega (arith, h.nodes);
        distances =
            take_set t.distances s.nodes d (ready s (split_of s d) d t z).distance_room
            ∙ ap (λ (xs : List Float). xs ++ (d ∷ [])) h.distances
            ∙ sym (reverse-cons d given);
        known = finite_more d given p.known h.known;
        firsts =
            take_set t.firsts s.nodes (first_of s (split_of s d)) (ready s (split_of s d) d t z).first_room
            ∙ ap₂ (λ (xs : List ℕ) (x : ℕ). xs ++ (x ∷ [])) h.firsts first_stored
            ∙ sym (firsts_next s.asked d h.grown)
            ∙ ap (λ (ks : List ℕ). firsts_of bound 1 ks (reverse (d ∷ given))) (sym (take_set t.keys s.nodes s.asked (ready s (split_of s d) d t z).key_room));
        node_room_lem = rw h.tables_same (omega (arith, p.nodes));
        leaf_room = leaf_room_after (split_of s d) p.full;
        queue_room = queue_room_after (split_of s d) p.full p.state.waiting;
        grown =
            grown_step bound (finest_deep bound h.bounded) given s d t h.grown (split_of s d) z
            (ap (λ (b : ℕ). splits (level s.asked) b d) (sym h.bound_same));
      }

  step_traced : {s' : State} {t' : Tables} → Took s (split_of s d) d t s' t' → Traced bound lent (d ∷ given) s' t'
  step_traced k = rw (← k.state, ← k.tables) (moved_traced k.free)

start_traced : (bound : ℕ) (lent : Tables) (r : Request) (s : State) → start_of bound lent ≡ Ok (Ask r s) → Traced bound lent [] s lent
unfolding start_of start_at open_cells items_from firsts_of
start_traced bound lent r s e =
    let v = start_ask (ltb limit bound) _ _ _ _ _ e in
    rw (← v.1)
    record {
      bound_same = refl;
      bounded = ltb-false limit bound v.0;
      lengths_same = refl;
      tables_same = refl;
      nodes = refl;
      distances = refl;
      known = finite_none;
      firsts = refl;
      node_room_lem = omega arith;
      leaf_room = omega arith;
      queue_room = omega arith;
      grown = root;
    }
  where
    start_ask : (b : Bool) (r r' : Request) (s s' : State) (k : Refusal) → cond {A = Result Answer Refusal} b (Err k) (Ok (Ask r s)) ≡ Ok (Ask r' s') → (b ≡ false) × (s ≡ s')
    start_ask true r r' s s' k e = let z : ◌≡◌ {A = ℕ} 0 1 = cc in absurd (omega arith)
    start_ask false r r' s s' k e = (refl, cc)

pub run_traced : {bound : ℕ} {lent : Tables} {given : List Float} {s : State} {t : Tables} → Run bound lent given s t → Traced bound lent given s t
run_traced (started e) = start_traced _ _ _ _ e
run_traced (asked d run e) = step_traced _ _ d (run_traced run) (answer_took _ _ _ d _ e (answered _))
run_traced (finished d run e) = step_traced _ _ d (run_traced run) (answer_took _ _ _ d _ e (answered _))
