-- The counts and the cells of a run's states, and that the states fit their tables: 10 is never given. Assumes nothing.
use Prim.Native.Nat.{ℕ, zero, suc, ◌+◌, ◌-◌, ◌*◌, ◌≤◌}
use mathlib.Core.Path.{◌≡◌, refl, sym, ◌∙◌, ap, subst}
use mathlib.Core.Bool.{Bool, true, false, cond, ◌||◌, not}
use mathlib.Core.List.{List, ◌∷◌, ◌++◌}
use native.Mathlib.Omega.{arith}
use native.Mathlib.Decide.{ℕ_discrete}
use lib.Dec.{eqb, leb, ltb}
use lib.ListN.{length}
use lib.Ieee.{Float}
use lib.Ieee.Scale.{finite}
use borrow.Author.Tests.{eq-eqb, ne_eqb, le-leb, lt-leb}
use Rattle.std.specs.Prelude.{Result, Err, ⊤}
use Rattle.refusals.specs.declared.Refusal.{Refusal}
use Rattle.refusals.specs.declared.Refusal.TheVariants.{QueueFull, LeavesFull, NothingAsked, NotFinite, NodesFull, NotFitting}
use Rattle.refusals.specs.Refusals.{number}
use Rattle.refusals.proofs.Numbers.{number_apart}
use Rattle.morton.specs.Level.{limit, level, Cell}
use Rattle.build.specs.declared.State.{State}
use Rattle.build.specs.Build.{number_of, allowed, Tables, Outcome, lengths_of, node_room, finest, item_at, cell_to, same_lengths, counts_fit, idle_fits, busy_fits, fits_at, fits, full_of, refusal_at, refusal_of, split_of, distance_of}
use Rattle.build.proofs.Laws.{to_cell, refused}
use Rattle.geometry.specs.Grid.{Cells, Covers}
use Rattle.demands.specs.Run.{leaf_keys, items_from, waiting, open_cells}
use Rattle.demands.proofs.Growth.{grown_count}
use Rattle.demands.proofs.Cover.{cells_right, grown_covers}
use Rattle.demands.proofs.Rule.{finest_deep}
use Rattle.demands.proofs.Items.{length_items}
use Rattle.demands.proofs.Call.{refused_why}
use Rattle.demands.proofs.Trace.{Traced, open_none, open_asked, nodes_count, leaves_count}

module _ {bound : ℕ} {lent : Tables} {given : List Float} (s : State) (t : Tables) (h : Traced bound lent given s t) where
  -- ---- counts

  pub open_count : length (open_cells s t) + 8 * s.leaves ≡ 7 * s.nodes + 1
  open_count = omega (arith, grown_count h.grown, nodes_count s t h, leaves_count s t h)

  pub count_done : s.asked ≡ 0 → 7 * s.nodes + 1 ≡ 8 * s.leaves
  count_done e = omega (arith, open_count, ap length (open_none s t e))

  pub count_busy : (s.asked ≡ 0 → ⊥) → 8 * s.leaves ≤ 7 * s.nodes
  count_busy n = omega (arith, open_count, ap length (open_asked s t n), length_items t.queue s.nodes (7 * s.nodes - 8 * s.leaves))

  -- ---- cells

  pub covers : Covers (finest bound) (leaf_keys s t ++ open_cells s t)
  covers = grown_covers (finest_deep bound h.bounded) h.grown

  cells_asked : (s.asked ≡ 0 → ⊥) → Cells (finest bound) (s.asked ∷ waiting s t)
  cells_asked n = subst (Cells (finest bound)) (open_asked s t n) (cells_right (finest bound) (leaf_keys s t) (open_cells s t) covers.cells)

  cell_fits : (k : ℕ) → Cell (level k) k × level k ≤ finest bound → cell_to (finest bound) k ≡ true
  cell_fits k (c, l) = to_cell (finest bound) (level k) k (omega (arith, finest_deep bound h.bounded)) c l

  -- ---- the tests

  same_fit : same_lengths s.lengths (lengths_of t) ≡ true
  unfolding same_lengths
  same_fit = let e : (n : ℕ) → eqb n n ≡ true = λ n. eq-eqb n n refl in
      rw (← h.tables_same, e s.lengths.keys, e s.lengths.distances, e s.lengths.firsts, e s.lengths.leaves, e s.lengths.queue) refl

  counts_fit_lem : counts_fit s (lengths_of t) (node_room (lengths_of t)) ≡ true
  unfolding counts_fit
  counts_fit_lem =
      rw (
        ← h.tables_same,
        le-leb s.bound limit (omega (arith, h.bound_same, h.bounded)),
        le-leb s.leaves s.nodes (omega (arith, open_count)),
        le-leb s.nodes (node_room s.lengths) h.node_room_lem,
        le-leb s.leaves s.lengths.leaves h.leaf_room,
      ) refl

  idle_fits_lem : s.asked ≡ 0 → idle_fits s ≡ true
  unfolding idle_fits
  idle_fits_lem e = rw (eq-eqb s.asked 0 e, eq-eqb (7 * s.nodes + 1) (8 * s.leaves) (count_done e)) refl

  idle_not : (s.asked ≡ 0 → ⊥) → idle_fits s ≡ false
  unfolding idle_fits
  idle_not n = rw (ne_eqb s.asked 0 n) refl

  next_fits : (k : ℕ) → 7 * s.nodes - 8 * s.leaves ≡ k → Cells (finest bound) (items_from t.queue s.nodes k)
      → (leb (7 * s.nodes) (8 * s.leaves) || cell_to (finest bound) (item_at t.queue s.nodes)) ≡ true
  unfolding items_from
  next_fits zero e c = rw (le-leb (7 * s.nodes) (8 * s.leaves) (omega arith)) refl
  next_fits (suc k) e c = rw (lt-leb (7 * s.nodes) (8 * s.leaves) (omega arith)) (cell_fits (item_at t.queue s.nodes) c.0)

  busy_fits_lem : (s.asked ≡ 0 → ⊥) → busy_fits s (item_at t.queue s.nodes) (finest bound) ≡ true
  unfolding busy_fits
  busy_fits_lem n =
      rw (
        cell_fits s.asked (cells_asked n).0,
        le-leb (8 * s.leaves) (7 * s.nodes) (count_busy n),
        le-leb (7 * s.nodes - 8 * s.leaves) s.lengths.queue h.queue_room,
      ) (next_fits (7 * s.nodes - 8 * s.leaves) refl (cells_asked n).1)

  pub fits_traced : fits s t ≡ true
  unfolding fits fits_at
  fits_traced = rw (same_fit, counts_fit_lem, ap finest h.bound_same) (go (ℕ_discrete s.asked 0))
    where
      go : Dec (s.asked ≡ 0) → (idle_fits s || busy_fits s (item_at t.queue s.nodes) (finest bound)) ≡ true
      go (yes e) = rw (idle_fits_lem e) refl
      go (no n) = rw (idle_not n) (busy_fits_lem n)

-- ---- a call on a state that fits

no_more : (b : Bool) (k : Refusal) (n : ℕ) → number k ≤ n → number_of (cond b (Err k) allowed) ≤ n
no_more true k n h = h
no_more false k n h = omega arith

pub full_most : (s : State) (split : Bool) → number_of (full_of s split) ≤ 8
unfolding full_of
full_most s true = no_more (ltb s.lengths.queue (7 * s.nodes - 8 * s.leaves + 8)) QueueFull 8 (omega arith)
full_most s false = no_more (eqb s.leaves s.lengths.leaves) LeavesFull 8 (omega arith)

-- what has another number is another refusal
pub not_so : (b : Result ⊤ Refusal) (k : Refusal) → (number_of b ≡ number k → ⊥) → b ≡ Err k → ⊥
not_so b k n e = n (ap number_of e)

refusal_not_10 : (s : State) (split : Bool) (d : Float) (t : Tables) → fits s t ≡ true → refusal_of s split d t ≡ Err NotFitting → ⊥
unfolding fits refusal_of refusal_at
refusal_not_10 s split d t e = rw e (go (eqb s.asked 0) (finite d) (eqb s.nodes (node_room (lengths_of t))))
  where
    go : (b f c : Bool) → cond {A = Result ⊤ Refusal} b (Err NothingAsked) (cond (not f) (Err NotFinite) (cond c (Err NodesFull) (full_of s split))) ≡ Err NotFitting → ⊥
    go true f c = not_so (Err NothingAsked) NotFitting (λ n. omega arith)
    go false false c = not_so (Err NotFinite) NotFitting (λ n. omega arith)
    go false true true = not_so (Err NodesFull) NotFitting (λ n. omega arith)
    go false true false = not_so (full_of s split) NotFitting (λ n. omega (arith, full_most s split))

pub refusal_none : (s : State) (split : Bool) (d : Float) (t : Tables) → fits s t ≡ true → (s.asked ≡ 0 → ⊥) → finite d ≡ true → (s.nodes ≡ node_room (lengths_of t) → ⊥)
    → full_of s split ≡ allowed → refusal_of s split d t ≡ allowed
unfolding fits refusal_of refusal_at
refusal_none s split d t e n k r f = rw (e, ne_eqb s.asked 0 n, k, ne_eqb s.nodes (node_room (lengths_of t)) r) f

pub never_10 : (s : State) (d : Float) (t : Tables) (k : Refusal) → fits s t ≡ true → (distance_of s d t).answer ≡ Err k → number k ≡ 10 → ⊥
never_10 s d t k e r n = refusal_not_10 s (split_of s d) d t e (refused_why s d t k r ∙ ap Err (number_apart k NotFitting n))

-- ---- 16, exactly where the distance isn't finite

pub refusal_broken : (s : State) (split : Bool) (d : Float) (t : Tables) → fits s t ≡ true → (s.asked ≡ 0 → ⊥) → finite d ≡ false → refusal_of s split d t ≡ Err NotFinite
unfolding fits refusal_of refusal_at
refusal_broken s split d t e n f = rw (e, ne_eqb s.asked 0 n, f) refl

pub broken_refused : (s : State) (d : Float) (t : Tables) → fits s t ≡ true → (s.asked ≡ 0 → ⊥) → finite d ≡ false
    → ((distance_of s d t).answer ≡ Err NotFinite) × (number NotFinite ≡ 16)
unfolding distance_of
broken_refused s d t e n f =
    (ap (λ (o : Outcome). o.answer) (sym (refused s (split_of s d) d t NotFinite (refusal_broken s (split_of s d) d t e n f))), refl)

pub refusal_16 : (s : State) (split : Bool) (d : Float) (t : Tables) → refusal_of s split d t ≡ Err NotFinite → finite d ≡ false
unfolding refusal_of refusal_at
refusal_16 s split d t = go (fits_at s _ _ _ _) (eqb s.asked 0) (finite d) (eqb s.nodes (node_room (lengths_of t)))
  where
    go : (a b f c : Bool)
        → cond {A = Result ⊤ Refusal} (not a) (Err NotFitting) (cond b (Err NothingAsked) (cond (not f) (Err NotFinite) (cond c (Err NodesFull) (full_of s split)))) ≡ Err NotFinite → f ≡ false
    go false b f c e = absurd (not_so (Err NotFitting) NotFinite (λ n. omega arith) e)
    go true true f c e = absurd (not_so (Err NothingAsked) NotFinite (λ n. omega arith) e)
    go true false false c e = refl
    go true false true true e = absurd (not_so (Err NodesFull) NotFinite (λ n. omega arith) e)
    go true false true false e = absurd (not_so (full_of s split) NotFinite (λ n. omega (arith, full_most s split)) e)

pub only_broken : (s : State) (d : Float) (t : Tables) (k : Refusal) → (distance_of s d t).answer ≡ Err k → number k ≡ 16 → finite d ≡ false
only_broken s d t k e n = refusal_16 s (split_of s d) d t (refused_why s d t k e ∙ ap Err (number_apart k NotFinite n))
