-- Which lengths are enough for a build and which never are: specs/Rooms.antt, proved. Assumes nothing.
use Prim.Native.Nat.{ℕ, ◌+◌, ◌-◌, ◌*◌, ◌/◌, ◌≤◌, ◌<◌}
use mathlib.Core.Path.{◌≡◌, refl, sym, ◌∙◌, ap}
use mathlib.Core.Bool.{Bool, true, false, cond, not, true≢false}
use mathlib.Core.List.{List, [], ◌∷◌, ◌++◌, reverse}
use native.Mathlib.Omega.{arith}
use native.Mathlib.Decide.{ℕ_discrete, dec_lt}
use lib.Dec.{eqb, ltb}
use lib.ListN.{length, get_or, take, get_or-append, length-reverse}
use lib.Seq.{get_or-append_seam}
use lib.Ieee.{Float}
use lib.Ieee.Scale.{finite}
use borrow.Author.Tests.{eqb-false, ne_eqb, le-ltb}
use Rattle.std.specs.Prelude.{Result, Err, ⊤}
use Rattle.refusals.specs.declared.Refusal.{Refusal}
use Rattle.refusals.specs.declared.Refusal.TheVariants.{QueueFull, LeavesFull, NothingAsked, NotFinite, NodesFull}
use Rattle.refusals.proofs.Numbers.{number_apart}
use Rattle.morton.specs.Level.{level}
use Rattle.morton.specs.Split.{splits}
use Rattle.morton.proofs.Levels.{cell_level}
use Rattle.morton.proofs.Distance.{shallow}
use Rattle.build.specs.declared.Lengths.{Lengths}
use Rattle.build.specs.declared.State.{State}
use Rattle.build.specs.Build.{allowed, Tables, lengths_of, node_room, full_of, refusal_of, refusal_at, fits, split_of, leaves_of, moved_of}
use Rattle.build.proofs.Laws.{passed, full_ring}
use Rattle.tree.specs.Tree.{AllFinite}
use Rattle.tree.proofs.Lists.{in_at}
use Rattle.geometry.proofs.Shape.{root_level}
use Rattle.demands.specs.Run.{Run, node_keys, leaf_keys, waiting, open_cells, children, children_of}
use Rattle.demands.specs.Run.Run.{started, asked, finished}
use Rattle.demands.specs.Reading.{tree_after}
use Rattle.demands.specs.Rooms.{RoomFor, nodes_with, EnoughRoom, EnoughLeaves, Finishes, ShortQueue}
use Rattle.demands.proofs.Growth.{length_children, grown_all, firsts_of, grown_one}
use Rattle.demands.proofs.Call.{Took, answer_took, answered, refused_why, run_start, run_on}
use Rattle.demands.proofs.Trace.{Traced, run_traced, open_none, open_asked, nodes_count, leaves_count}
use Rattle.demands.proofs.Fits.{not_so, open_count, count_done, count_busy, fits_traced, refusal_none}
use Rattle.demands.proofs.Soundness.{in_children}
use Rattle.demands.proofs.Finite.{finite_head, finite_reverse}

-- ---- room that is enough

module _ {bound : ℕ} {lent : Tables} {given : List Float} (s : State) (t : Tables) (h : Traced bound lent given s t) where
  room_same : node_room (lengths_of t) ≡ node_room (lengths_of lent)
  room_same = ap node_room (sym h.tables_same ∙ h.lengths_same)

  leaves_same : s.lengths.leaves ≡ length lent.leaves
  unfolding lengths_of
  leaves_same = ap (λ (z : Lengths). z.leaves) h.lengths_same

  queue_same : s.lengths.queue ≡ length lent.queue
  unfolding lengths_of
  queue_same = ap (λ (z : Lengths). z.queue) h.lengths_same

  module _ (n : ℕ) (room : RoomFor n lent) (asks : s.asked ≡ 0 → ⊥) where
    not_full : (split : Bool) → 1 + 8 * (s.nodes - s.leaves + cond {A = ℕ} split 1 0) ≤ n → full_of s split ≡ allowed
    unfolding full_of
    not_full true l = rw (le-ltb s.lengths.queue (7 * s.nodes - 8 * s.leaves + 8) (omega (arith, queue_same, room.queue, count_busy s t h asks))) refl
    not_full false l = rw (ne_eqb s.leaves s.lengths.leaves (λ e. omega (arith, leaves_same, room.leaves, count_busy s t h asks))) refl

    pub room_free : (d : Float) → finite d ≡ true → nodes_with s d ≤ n → refusal_of s (split_of s d) d t ≡ allowed
    room_free d f l =
        refusal_none s (split_of s d) d t (fits_traced s t h) asks f
        (λ e. omega (arith, room.nodes, room_same, count_busy s t h asks))
        (not_full (split_of s d) l)

pub enough_room : EnoughRoom
enough_room n bound lent given s t room run asks d f k e = go (dec_lt n (nodes_with s d))
  where
    go : Dec (n < nodes_with s d) → n < nodes_with s d
    go (yes l) = l
    go (no l) =
        absurd (let z : ◌≡◌ {A = Result ⊤ Refusal} allowed (Err k) = sym (room_free s t (run_traced run) n room asks d f (omega arith)) ∙ refused_why s d t k e in let y : ◌≡◌ {A = ℕ} 0 1 = cc in omega arith)

-- ---- 7 where the leaves have room for a full tree

seven_by : (a f b split q l : Bool) → (a ≡ false → b ≡ false → l ≡ false)
    → ◌≡◌ {A = Result ⊤ Refusal}
    (cond a (Err NothingAsked) (cond f (Err NotFinite) (cond b (Err NodesFull) (cond split (cond q (Err QueueFull) allowed) (cond l (Err LeavesFull) allowed))))) (Err LeavesFull) → ⊥
seven_by true f b split q l h = not_so (Err NothingAsked) LeavesFull (λ n. omega arith)
seven_by false true b split q l h = not_so (Err NotFinite) LeavesFull (λ n. omega arith)
seven_by false false true split q l h = not_so (Err NodesFull) LeavesFull (λ n. omega arith)
seven_by false false false true true l h = not_so (Err QueueFull) LeavesFull (λ n. omega arith)
seven_by false false false true false l h = not_so allowed LeavesFull (λ n. omega arith)
seven_by false false false false q true h = λ e. true≢false (h refl refl)
seven_by false false false false q false h = not_so allowed LeavesFull (λ n. omega arith)

pub enough_leaves : EnoughLeaves
unfolding fits refusal_of refusal_at full_of
enough_leaves bound lent given s t room run d k e n =
    let h = run_traced run in
    let c : refusal_of s (split_of s d) d t ≡ Err LeavesFull = refused_why s d t k e ∙ ap Err (number_apart k LeavesFull n) in
    seven_by (eqb s.asked 0) (not (finite d)) (eqb s.nodes (node_room (lengths_of t))) (split_of s d)
    (ltb s.lengths.queue (7 * s.nodes - 8 * s.leaves + 8)) (eqb s.leaves s.lengths.leaves)
    (λ a b.
    let asks = eqb-false s.asked 0 a in
    ne_eqb s.leaves s.lengths.leaves
    (λ i.
    omega (
      arith,
      eqb-false s.nodes (node_room (lengths_of t)) b,
      room_same s t h,
      h.node_room_lem,
      ap node_room h.tables_same,
      leaves_same s t h,
      room.leaves,
      count_busy s t h asks,
    )))
    (rw (fits_traced s t h) at c)

-- ---- the same distances on other tables

module _ {bound : ℕ} {lent lent' : Tables} {given : List Float} {s s' : State} {t t' : Tables} (h : Traced bound lent given s t) (h' : Traced bound lent' given s' t') where
  same_leaves : leaf_keys s t ≡ leaf_keys s' t'
  same_leaves = (grown_one h.grown h'.grown).1

  same_count : s.leaves ≡ s'.leaves
  same_count = sym (leaves_count s t h) ∙ ap length same_leaves ∙ leaves_count s' t' h'

  same_open : open_cells s t ≡ open_cells s' t'
  same_open = (grown_one h.grown h'.grown).2

  same_done : s.asked ≡ 0 → s'.asked ≡ 0
  same_done e = go (ℕ_discrete s'.asked 0)
    where
      go : Dec (s'.asked ≡ 0) → s'.asked ≡ 0
      go (yes z) = z
      go (no z) = absurd (omega (arith, ap length (sym (open_none s t e) ∙ same_open ∙ open_asked s' t' z)))

  same_asked : (s.asked ≡ 0 → ⊥) → (s'.asked ≡ 0 → ⊥) → s.asked ≡ s'.asked
  same_asked a b = let e : s.asked ∷ waiting s t ≡ s'.asked ∷ waiting s' t' = sym (open_asked s t a) ∙ same_open ∙ open_asked s' t' b in cc

  same_tree : tree_after s t ≡ tree_after s' t'
  same_tree =
      let keys : node_keys s t ≡ node_keys s' t' = (grown_one h.grown h'.grown).0 in
      let distances : take s.nodes t.distances ≡ take s'.nodes t'.distances = h.distances ∙ sym h'.distances in
      let firsts : take s.nodes t.firsts ≡ take s'.nodes t'.firsts =
      h.firsts ∙ ap (λ (ks : List ℕ). firsts_of bound 1 ks (reverse given)) keys ∙ sym h'.firsts in
      λ i. record { keys = keys i; distances = distances i; firsts = firsts i; leaves = same_leaves i }

-- the root and the children of the splits so far
abbrev cells_of : State → ℕ
cells_of s = 1 + 8 * (s.nodes - s.leaves)

-- they are the nodes of a finished tree
done_cells : (n m : ℕ) → 7 * n + 1 ≡ 8 * m → 1 + 8 * (n - m) ≡ n
done_cells n m e = let few : m ≤ n = omega arith in omega arith

-- an accepted distance brings the children of its split
took_cells : (s s' : State) (d : Float) (t t' : Tables) → Took s (split_of s d) d t s' t' → s.leaves ≤ s.nodes → cells_of s' ≡ nodes_with s d
unfolding moved_of leaves_of
took_cells s s' d t t' k few = ap cells_of (sym k.state) ∙ go (split_of s d)
  where
    go : (split : Bool) → 1 + 8 * (s.nodes + 1 - cond split s.leaves (s.leaves + 1)) ≡ 1 + 8 * (s.nodes - s.leaves + cond {A = ℕ} split 1 0)
    go true = omega arith
    go false = omega arith

-- a cell was asked for
took_asks : (s s' : State) (d : Float) (t t' : Tables) → Took s (split_of s d) d t s' t' → s.asked ≡ 0 → ⊥
unfolding refusal_of
took_asks s s' d t t' k = (passed _ _ d _ _ _ _ k.free).asks

-- and the distance is finite
took_known : (s s' : State) (d : Float) (t t' : Tables) → Took s (split_of s d) d t s' t' → finite d ≡ true
unfolding refusal_of
took_known s s' d t t' k = (passed _ _ d _ _ _ _ k.free).known

module _ (bound : ℕ) (large lent : Tables) (n : ℕ) (room : RoomFor n lent) where
  abbrev Reached : List Float → Type 0
  Reached given = (s : State) × (t : Tables) × Run bound lent given s t

  reach_on : {given : List Float} (d : Float) (s s' : State) (t t' : Tables) → Run bound large given s t → Took s (split_of s d) d t s' t'
      → cells_of s' ≤ n → (cells_of s ≤ n → Reached given) → Reached (d ∷ given)
  unfolding split_of
  reach_on d s s' t t' run k l before =
      let h = run_traced run in
      let asks = took_asks s s' d t t' k in
      let e = took_cells s s' d t t' k (omega (arith, count_busy s t h asks)) in
      let (s₁, t₁, run₁) = before (omega arith) in
      let h₁ = run_traced run₁ in
      let asks₁ : s₁.asked ≡ 0 → ⊥ = λ z. asks (same_done h₁ h z) in
      let same : nodes_with s₁ d ≡ nodes_with s d = rw (h₁.nodes, same_count h₁ h, same_asked h₁ h asks₁ asks, h₁.bound_same, ← h.nodes, ← h.bound_same) refl in
      run_on s₁ t₁ d run₁ (room_free s₁ t₁ h₁ n room asks₁ d (took_known s s' d t t' k) (omega (arith, same)))

  reach : {given : List Float} {s : State} {t : Tables} → Run bound large given s t → cells_of s ≤ n → Reached given
  reach (started e) l = let r = run_start bound lent (run_traced (started e)).bounded in (r.0, lent, r.1)
  reach (asked d run e) l = reach_on d _ _ _ _ run (answer_took _ _ _ d _ e (answered _)) l (λ m. reach run m)
  reach (finished d run e) l = reach_on d _ _ _ _ run (answer_took _ _ _ d _ e (answered _)) l (λ m. reach run m)

pub finishes : Finishes
finishes bound large lent given s t run done room =
    let h = run_traced run in
    let (s', t', run') = reach bound large lent _ room run (omega (arith, done_cells s.nodes s.leaves (count_done s t h done))) in
    (s', t', run', same_done h (run_traced run') done, same_tree (run_traced run') h)

-- ---- a queue shorter than 64

-- the first nine cells are the root and its children
low_next : (bound next : ℕ) (ks more : List ℕ) (ds : List Float) → AllFinite ds → length ks ≡ length ds → length ks ≤ 8 → ks ++ (next ∷ more) ≡ 1 ∷ children_of bound ks ds → level next < 2
unfolding children_of
low_next bound next [] more ds all e l f = let o : next ≡ 1 = cc in omega (arith, ap level o, root_level)
low_next bound next (k ∷ ks) more [] all e l f = absurd (omega arith)
low_next bound next (k ∷ ks) more (d ∷ ds) all e l f =
    let o : k ≡ 1 = cc in
    let rest : ks ++ (next ∷ more) ≡ cond (splits (level k) bound d) (children k ++ children_of bound ks ds) (children_of bound ks ds) = cc in
    let divides : true ≡ splits 0 bound d = sym (finite_head d ds all) ∙ shallow 0 bound d (omega arith) in
    go (rw (o, root_level, ← divides) at rest)
  where
    go : ks ++ (next ∷ more) ≡ children 1 ++ children_of bound ks ds → level next < 2
    go c =
        let here : length ks < length (children 1) = omega (arith, length_children 1 0 8) in
        let at : next ≡ get_or (children 1) (length ks) 0 =
        sym (get_or-append_seam ks next more 0) ∙ ap (λ (xs : List ℕ). get_or xs (length ks) 0) c ∙ get_or-append (children 1) (children_of bound ks ds) 0 (length ks) here in
        let among : get_or (children 1) (length ks) 0 / 8 ≡ 1 = in_children 1 8 0 (omega arith) (in_at (children 1) (length ks) here) in
        omega (arith, cell_level 1 next (omega arith) (record { low = omega arith; high = omega arith }))

-- They are split: so where the ninth distance is refused, there is no leaf yet.
abbrev Few : State → Type 0
Few s = (s.leaves ≡ 0) × (s.nodes ≤ 8)

module _ {bound : ℕ} (lent : Tables) (short : length lent.queue < 64) where
  few_on : {given : List Float} (d : Float) (s s' : State) (t t' : Tables) → Run bound lent given s t → Took s (split_of s d) d t s' t' → Few s → Few s'
  unfolding refusal_of moved_of leaves_of split_of
  few_on {given} d s s' t t' run k (none, few) =
      let h = run_traced run in
      let p = passed _ _ d _ _ _ _ k.free in
      let low : level s.asked < 2 =
      low_next bound s.asked (node_keys s t) (waiting s t) (reverse given) (finite_reverse given h.known) (nodes_count s t h ∙ h.nodes ∙ sym (length-reverse given)) (omega (arith, nodes_count s t h))
      (ap (λ (xs : List ℕ). node_keys s t ++ xs) (sym (open_asked s t p.asks)) ∙ grown_all h.grown) in
      let split : split_of s d ≡ true = sym (shallow (level s.asked) s.bound d low) ∙ p.known in
      let ring = full_ring s (rw split at p).full in
      rw (← k.state, split) (none, omega (arith, ring, queue_same s t h))

  few_run : {given : List Float} {s : State} {t : Tables} → Run bound lent given s t → Few s
  few_run {given} {s} {t} (started e) = let h = run_traced (started e) in (omega (arith, h.nodes, open_count s t h), omega (arith, h.nodes))
  few_run (asked d run e) = few_on d _ _ _ _ run (answer_took _ _ _ d _ e (answered _)) (few_run run)
  few_run (finished d run e) = few_on d _ _ _ _ run (answer_took _ _ _ d _ e (answered _)) (few_run run)

pub short_queue : ShortQueue
short_queue bound lent given s t short run done = omega (arith, few_run lent (omega arith) run, count_done s t (run_traced run) done)
