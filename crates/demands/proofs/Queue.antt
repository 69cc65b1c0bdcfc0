-- A build of bound 2 or less is finished by any 73 finite distances, with a queue of 64: there are 64 cells of level 2 to cover. Assumes nothing.
use Prim.Native.Nat.{ℕ, ◌+◌, ◌-◌, ◌*◌, ◌≤◌, ◌<◌}
use mathlib.Core.Path.{◌≡◌, refl, sym, ◌∙◌, ap, subst}
use mathlib.Core.Bool.{Bool, true, false}
use mathlib.Core.List.{List, [], ◌∷◌, ◌++◌}
use native.Mathlib.Omega.{arith}
use native.Mathlib.Decide.{ℕ_discrete}
use lib.ListN.{length, length-append}
use lib.Ieee.{Float}
use lib.Ieee.Scale.{finite}
use borrow.Author.Tests.{ne_eqb, le-ltb}
use Rattle.morton.specs.Level.{level}
use Rattle.morton.proofs.Levels.{eight_pos, eight_mono}
use Rattle.build.specs.declared.State.{State}
use Rattle.build.specs.Build.{allowed, Tables, lengths_of, node_room, full_of, refusal_of, split_of}
use Rattle.tree.specs.Tree.{AllFinite}
use Rattle.geometry.specs.Grid.{volume, volumes, Covers}
use Rattle.demands.specs.Run.{Run, leaf_keys, waiting, open_cells}
use Rattle.demands.proofs.Growth.{Grown}
use Rattle.demands.proofs.Growth.Grown.{root, kept, divided}
use Rattle.demands.proofs.Cover.{volumes_append}
use Rattle.demands.proofs.Rule.{split_level, whole_level, finest_least}
use Rattle.demands.proofs.Finite.{finite_head, finite_tail}
use Rattle.demands.proofs.Items.{length_items}
use Rattle.demands.proofs.Call.{run_start, run_on}
use Rattle.demands.proofs.Trace.{Traced, run_traced, open_none, open_asked, leaves_count}
use Rattle.demands.proofs.Fits.{covers, open_count, count_done, fits_traced, refusal_none}

-- ---- volumes where the finest level is 2

-- a leaf is one of them
volume_whole : (k : ℕ) → 2 ≤ level k → volume 2 k ≡ 1
unfolding volume
volume_whole k h = let e : 2 - level k ≡ 0 = omega arith in rw e refl

volumes_leaves : {bound : ℕ} {given : List Float} {nodes leaves pending : List ℕ} → Grown bound given nodes leaves pending → AllFinite given
    → volumes 2 leaves ≡ length leaves
volumes_leaves root all = refl
volumes_leaves {bound} (kept {k} {d} {given} {nodes} {leaves} h g) all =
    omega (arith, volumes_leaves g (finite_tail d given all), volume_whole k (whole_level (level k) bound d (finite_head d given all) h), volumes_append 2 leaves (k ∷ []), length-append leaves (k ∷ []))
volumes_leaves (divided {d = d} {given = given} h g) all = volumes_leaves g (finite_tail d given all)

volumes_least : (D : ℕ) (ks : List ℕ) → length ks ≤ volumes D ks
unfolding volume
volumes_least D [] = omega arith
volumes_least D (k ∷ ks) = omega (arith, volumes_least D ks, eight_pos (D - level k))

-- a cell that is split holds eight or more
volume_split : (k : ℕ) → level k < 2 → 8 ≤ volume 2 k
unfolding volume
volume_split k h = eight_mono {i = 1} {j = 2 - level k} (omega arith)

-- ---- a run of bound 0 to 2, of at most 73 distances

module _ {bound : ℕ} {lent : Tables} {given : List Float} (s : State) (t : Tables) (low : bound ≤ 2) (h : Traced bound lent given s t) where
  volumes_total : s.leaves + volumes 2 (open_cells s t) ≡ 64
  volumes_total =
      let c : Covers 2 (leaf_keys s t ++ open_cells s t) = subst (λ (D : ℕ). Covers D (leaf_keys s t ++ open_cells s t)) (finest_least bound low) (covers s t h) in
      omega (arith, leaves_count s t h, volumes_leaves h.grown h.known, volumes_append 2 (leaf_keys s t) (open_cells s t), c.full)

  busy_before : length given < 73 → s.asked ≡ 0 → ⊥
  busy_before l e = omega (arith, h.nodes, volumes_total, count_done s t h e, ap (volumes 2) (open_none s t e))

  pub done_after : length given ≡ 73 → s.asked ≡ 0
  done_after l = go (ℕ_discrete s.asked 0)
    where
      go : Dec (s.asked ≡ 0) → s.asked ≡ 0
      go (yes e) = e
      go (no n) = absurd (omega (arith, h.nodes, volumes_total, open_count s t h, ap length (open_asked s t n), volumes_least 2 (open_cells s t)))

  -- so that the queue has room for those that wait, and for eight more at a split
  module _ (n : s.asked ≡ 0 → ⊥) where
    volumes_open : s.leaves + volume 2 s.asked + (7 * s.nodes - 8 * s.leaves) ≤ 64
    volumes_open =
        omega (
          arith,
          volumes_total,
          ap (volumes 2) (open_asked s t n),
          volumes_least 2 (waiting s t),
          length_items t.queue s.nodes (7 * s.nodes - 8 * s.leaves),
        )

    never_full : (split : Bool) → (split ≡ true → level s.asked < 2) → 64 ≤ s.lengths.leaves → 64 ≤ s.lengths.queue → full_of s split ≡ allowed
    unfolding full_of volume
    never_full true a l q = rw (le-ltb s.lengths.queue (7 * s.nodes - 8 * s.leaves + 8) (omega (arith, volumes_open, volume_split s.asked (a refl)))) refl
    never_full false a l q = rw (ne_eqb s.leaves s.lengths.leaves (omega (arith, volumes_open, eight_pos (2 - level s.asked)))) refl

-- ---- the run of a list of distances

module _ (bound : ℕ) (lent : Tables) (low : bound ≤ 2) (room : 73 ≤ node_room (lengths_of lent)) (leaves : 64 ≤ length lent.leaves) (queue : 64 ≤ length lent.queue) where
  accepts : {given : List Float} (s : State) (t : Tables) (d : Float) → finite d ≡ true → length given < 73 → Traced bound lent given s t → refusal_of s (split_of s d) d t ≡ allowed
  unfolding split_of lengths_of
  accepts s t d k l h =
      let n = busy_before s t low h l in
      refusal_none s (split_of s d) d t (fits_traced s t h) n k
      (λ e. omega (arith, h.nodes, ap node_room (sym h.tables_same ∙ h.lengths_same)))
      (never_full s t low h n (split_of s d)
      (λ e. omega (arith, split_level (level s.asked) s.bound d e, finest_least s.bound (omega (arith, h.bound_same))))
      (rw h.lengths_same leaves) (rw h.lengths_same queue))

  pub run_of : (given : List Float) → AllFinite given → length given ≤ 73 → (s : State) × (t : Tables) × Run bound lent given s t
  run_of [] all l = let r = run_start bound lent (omega arith) in (r.0, lent, r.1)
  run_of (d ∷ given) all l =
      let r = run_of given (finite_tail d given all) (omega arith) in
      run_on r.0 r.1 d r.2 (accepts r.0 r.1 d (finite_head d given all) (omega arith) (run_traced r.2))
