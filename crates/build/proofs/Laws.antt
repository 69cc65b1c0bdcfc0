-- What a state that fits knows, and what an accepted call stands on. Assumes nothing.
use Prim.Native.Nat.{ℕ, ◌+◌, ◌-◌, ◌*◌, ◌^◌, ◌≤◌, ◌<◌}
use mathlib.Core.Path.{◌≡◌, refl, sym, ap, ◌∙◌, subst}
use mathlib.Core.Bool.{Bool, true, false, cond, ◌||◌, ◌&&◌, not}
use mathlib.Core.Logic.{◌⊎◌, inl, inr}
use native.Mathlib.Nat.{zero-mul}
use native.Mathlib.Decide.{dec_lt}
use native.Mathlib.Omega.{arith}
use lib.Dec.{eqb, leb, ltb}
use borrow.Author.Tests.{not-false, eqb-true, eqb-false, leb-true, ltb-false, le-leb, lt-leb, lt-ltb, le-ltb, ne_eqb}
use lib.IntN.{ℤ}
use lib.Ieee.{Float, fin, up, down}
use lib.Ieee.Scale.{finite}
use Rattle.morton.specs.Level.{Cell, deepest, limit, level, is_cell}
use Rattle.morton.specs.Split.{at_most, near, splits}
use Rattle.morton.proofs.Levels.{level_le, and_true, is_cell_lem, cell_is, cell_level, cell_lt}
use Rattle.std.specs.Prelude.{⊤, Result, Ok, Err}
use Rattle.refusals.specs.declared.Refusal.{Refusal}
use Rattle.refusals.specs.declared.Refusal.TheVariants.{NotFitting}
use Rattle.build.specs.declared.Answer.{Answer}
use mathlib.Core.List.{List}
use Rattle.build.specs.declared.Tables as lent
use Rattle.build.specs.declared.Lengths.{Lengths}
use Rattle.build.specs.declared.State.{State}
use Rattle.build.specs.Build.{Tables, tables_of, tables_in, Ready, Outcome, outcome, lengths_of, node_room, finest, cell_to, leaves_of}
use Rattle.build.specs.Build.{same_lengths, counts_fit, idle_fits, busy_fits, fits_at, allowed, full_of, refusal_at, refusal_of, split_of, stored_of, advance_of, decide_of, accept_of, distance_of}

-- ---- cell keys of bounded level

pub cell_to_lem : (top k : ℕ) → cell_to top k ≡ true → Cell (level k) k × level k ≤ top
unfolding cell_to
cell_to_lem top k h = let p = and_true (is_cell k) _ h in (is_cell_lem k p.0, leb-true _ _ p.1)

pub to_cell : (top L k : ℕ) → L ≤ deepest → Cell L k → L ≤ top → cell_to top k ≡ true
unfolding cell_to
to_cell top L k d c h = let e = cell_level L k d c in rw (cell_is L k d c) (le-leb (level k) top (omega arith))

pub cell_short : (top k : ℕ) → top ≤ limit → cell_to top k ≡ true → k < 2 ^ 61
cell_short top k l h = let p = cell_to_lem top k h in let q = cell_lt (level k) limit k p.0 (omega arith) in omega arith

-- ---- the split rule, from what the test of `morton` promises

pub split_is : (r : Bool) (L key bound : ℕ) (d : Float) → L ≡ level key → r ≡ (leb L deepest && splits L bound d) → r ≡ splits (level key) bound d
split_is r L key bound d e h = h ∙ rw (e, le-leb (level key) deepest (level_le key)) refl

-- ---- the finest grid, by the split rule: the distance 0 splits exactly the cells above it

zero_near : (L : ℕ) (e : ℤ) → near L 0 e ≡ true
unfolding at_most
zero_near L e = below (up e) (2 ^ (L + 1) * 2 ^ 23) (1 * 14529495 * down e)
  where
    below : (x y z : ℕ) → leb (0 * x * y) z ≡ true
    below x y z = le-leb (0 * x * y) z (omega (arith, ap (λ (u : ℕ). u * y) (zero-mul x), zero-mul y))

above_grid : (L bound : ℕ) → (L < 2) ⊎ (L < bound) → L < finest bound
unfolding finest
above_grid L bound (inl h) = omega arith
above_grid L bound (inr h) = omega arith

on_grid : (L bound : ℕ) → 2 ≤ L → bound ≤ L → finest bound ≤ L
unfolding finest
on_grid L bound h g = omega arith

pub zero_splits : (L bound : ℕ) (e : ℤ) → splits L bound (fin false 0 e) ≡ ltb L (finest bound)
unfolding splits
zero_splits L bound e = go (dec_lt L 2) (dec_lt L bound)
  where
    go : Dec (L < 2) → Dec (L < bound) → splits L bound (fin false 0 e) ≡ ltb L (finest bound)
    go (yes p) q = rw (lt-ltb L 2 p, lt-ltb L (finest bound) (above_grid L bound (inl p))) refl
    go (no p) (yes q) = rw (le-ltb L 2 (omega arith), lt-ltb L bound q, zero_near L e, lt-ltb L (finest bound) (above_grid L bound (inr q))) refl
    go (no p) (no q) =
        rw (le-ltb L 2 (omega arith), le-ltb L bound (omega arith), le-ltb L (finest bound) (on_grid L bound (omega arith) (omega arith))) refl

-- ---- what the tests of a state say

pub record Counts (s : State) (z : Lengths) (r : ℕ) : Type 0 where
  pub bounded : s.bound ≤ limit
  pub few : s.leaves ≤ s.nodes
  pub room : s.nodes ≤ r
  pub leaf_room : s.leaves ≤ z.leaves

pub counts : (s : State) (z : Lengths) (room : ℕ) → counts_fit s z room ≡ true → Counts s z room
unfolding counts_fit
counts s z room h =
    let h2 = and_true (leb s.bound limit) _ h in
    let h3 = and_true (leb s.leaves s.nodes) _ h2.1 in
    let h4 = and_true (leb s.nodes room) _ h3.1 in
    record {
      bounded = leb-true _ _ h2.0;
      few = leb-true _ _ h3.0;
      room = leb-true _ _ h4.0;
      leaf_room = leb-true _ _ h4.1;
    }

pub counts_small : (s : State) (z : Lengths) (room : ℕ) → room ≤ 4096 → counts_fit s z room ≡ true → (s.nodes ≤ 4096) × (s.leaves ≤ 4096)
counts_small s z room l h = let k = counts s z room h in omega (arith, k.few, k.room)

pub record Same (a b : Lengths) : Type 0 where
  pub keys : a.keys ≡ b.keys
  pub distances : a.distances ≡ b.distances
  pub firsts : a.firsts ≡ b.firsts
  pub leaves : a.leaves ≡ b.leaves
  pub queue : a.queue ≡ b.queue

pub same : (a b : Lengths) → same_lengths a b ≡ true → Same a b
unfolding same_lengths
same a b h =
    let h2 = and_true (eqb a.keys b.keys) _ h in
    let h3 = and_true (eqb a.distances b.distances) _ h2.1 in
    let h4 = and_true (eqb a.firsts b.firsts) _ h3.1 in
    let h5 = and_true (eqb a.leaves b.leaves) _ h4.1 in
    record {
      keys = eqb-true _ _ h2.0;
      distances = eqb-true _ _ h3.0;
      firsts = eqb-true _ _ h4.0;
      leaves = eqb-true _ _ h5.0;
      queue = eqb-true _ _ h5.1;
    }

-- a state that fits, and in which a cell is asked
pub record Asked (s : State) (z : Lengths) (f room top : ℕ) : Type 0 where
  pub lengths : Same s.lengths z
  pub counted : Counts s z room
  pub cell : cell_to top s.asked ≡ true
  pub waiting : 8 * s.leaves ≤ 7 * s.nodes
  pub ring : 7 * s.nodes - 8 * s.leaves ≤ s.lengths.queue
  pub next : 8 * s.leaves < 7 * s.nodes → cell_to top f ≡ true

idle_or : (s : State) (b : Bool) → (s.asked ≡ 0 → ⊥) → (idle_fits s || b) ≡ true → b ≡ true
unfolding idle_fits
idle_or s b n h = rw (ne_eqb _ _ n) at h

le_or : (a b : ℕ) (t : Bool) → (leb a b || t) ≡ true → b < a → t ≡ true
le_or a b t h l = rw (lt-leb a b l) at h

pub asked : (s : State) (z : Lengths) (next room top : ℕ) → (s.asked ≡ 0 → ⊥) → fits_at s z next room top ≡ true → Asked s z next room top
unfolding fits_at busy_fits
asked s z next room top n h =
    let h2 = and_true (same_lengths s.lengths z) _ h in
    let h3 = and_true (counts_fit s z room) _ h2.1 in
    let h4 = and_true (cell_to top s.asked) _ (idle_or s _ n h3.1) in
    let h5 = and_true (leb (8 * s.leaves) (7 * s.nodes)) _ h4.1 in
    let h6 = and_true (leb (7 * s.nodes - 8 * s.leaves) s.lengths.queue) _ h5.1 in
    record {
      lengths = same _ _ h2.0;
      counted = counts s z room h3.0;
      cell = h4.0;
      waiting = leb-true _ _ h5.0;
      ring = leb-true _ _ h6.0;
      next = le_or _ _ _ h6.1;
    }

-- ---- a call that isn't refused

pub allows_not : (e : Refusal) → ◌≡◌ {A = Result ⊤ Refusal} (Err e) allowed → ⊥
allows_not e h = let z : ◌≡◌ {A = ℕ} 0 1 = cc in absurd (omega arith)

pub cond_allowed : (b : Bool) (e : Refusal) (y : Result ⊤ Refusal) → cond b (Err e) y ≡ allowed → (b ≡ false) × (y ≡ allowed)
cond_allowed true e y h = absurd (allows_not e h)
cond_allowed false e y h = (refl, h)

pub record Passed (s : State) (split : Bool) (d : Float) (z : Lengths) (next room top : ℕ) : Type 0 where
  pub asks : s.asked ≡ 0 → ⊥
  pub state : Asked s z next room top
  pub known : finite d ≡ true
  pub nodes : s.nodes < room
  pub full : full_of s split ≡ allowed

pub passed : (s : State) (split : Bool) (d : Float) (z : Lengths) (next room top : ℕ) → refusal_at s z next split d room top ≡ allowed → Passed s split d z next room top
unfolding refusal_at
passed s split d z next room top h =
    let h1 = cond_allowed (not (fits_at s z next room top)) _ _ h in
    let h2 = cond_allowed (eqb s.asked 0) _ _ h1.1 in
    let h3 = cond_allowed (not (finite d)) _ _ h2.1 in
    let h4 = cond_allowed (eqb s.nodes room) _ _ h3.1 in
    let n = eqb-false _ _ h2.0 in
    let k = asked s z next room top n (not-false (fits_at s z next room top) h1.0) in
    let r = eqb-false s.nodes room h4.0 in
    record { asks = n; state = k; known = not-false (finite d) h3.0; nodes = let l = k.counted.room in omega arith; full = h4.1 }

pub full_leaf : (s : State) → full_of s false ≡ allowed → s.leaves ≡ s.lengths.leaves → ⊥
unfolding full_of
full_leaf s h = eqb-false _ _ (cond_allowed (eqb s.leaves s.lengths.leaves) _ _ h).0

pub full_ring : (s : State) → full_of s true ≡ allowed → 7 * s.nodes - 8 * s.leaves + 8 ≤ s.lengths.queue
unfolding full_of
full_ring s h = ltb-false _ _ (cond_allowed (ltb s.lengths.queue (7 * s.nodes - 8 * s.leaves + 8)) _ _ h).0

-- ---- the whole call

pub ready_leaves : (s : State) (split : Bool) (t : Tables) (m : ℕ) → Ready s split t → m ≡ leaves_of s split → (s.nodes < 4096) × (m ≤ s.nodes + 1)
unfolding leaves_of
ready_leaves s true t m r e = (r.small, omega (arith, r.few))
ready_leaves s false t m r e = (r.small, omega (arith, r.few))

pub accept_is : (s : State) (split : Bool) (d : Float) (t : Tables) (m : ℕ) (a : Answer) (t' : Tables) → m ≡ leaves_of s split → t' ≡ stored_of s split d t
    → a ≡ advance_of s m t'.queue → outcome (Ok a) t' ≡ accept_of s split d t
unfolding accept_of stored_of
accept_is s split d t m a t' l e f = rw (f, l, e)

and_false : (a : Bool) → (a && false) ≡ false
and_false true = refl
and_false false = refl

pub refused : (s : State) (split : Bool) (d : Float) (t : Tables) (e : Refusal) → refusal_of s split d t ≡ Err e → outcome (Err e) t ≡ decide_of s split d t
unfolding decide_of
refused s split d t e h = rw h refl

pub deep_refused : (s : State) (split : Bool) (d : Float) (t : Tables) → limit < s.bound → outcome (Err NotFitting) t ≡ decide_of s split d t
unfolding refusal_of refusal_at fits_at counts_fit
deep_refused s split d t h = refused s split d t NotFitting (rw (lt-leb s.bound limit h, and_false) refl)

pub accepted : (s : State) (split : Bool) (d : Float) (t : Tables) → refusal_of s split d t ≡ allowed → accept_of s split d t ≡ decide_of s split d t
unfolding decide_of
accepted s split d t h = rw h refl

finest_small : (bound : ℕ) → bound ≤ limit → finest bound ≤ limit
unfolding finest
finest_small bound h = omega arith

pub ready : (s : State) (split : Bool) (d : Float) (t : Tables) → refusal_of s split d t ≡ allowed → Ready s split t
unfolding refusal_of lengths_of node_room
ready s split d t h =
    let p = passed s split d _ _ _ _ h in
    let k = p.state.counted in
    let e = p.state.lengths in
    let f = finest_small s.bound k.bounded in
    record {
      key_room = omega (arith, p.nodes);
      distance_room = omega (arith, p.nodes);
      first_room = omega (arith, p.nodes);
      small = omega (arith, p.nodes);
      few = k.few;
      key = cell_short (finest s.bound) s.asked f p.state.cell;
      leaf_room = λ n. let l = full_leaf s (subst (λ (b : Bool). full_of s b ≡ allowed) n p.full) in omega (arith, k.leaf_room, e.leaves);
      ring_room = λ n. let l = full_ring s (subst (λ (b : Bool). full_of s b ≡ allowed) n p.full) in omega (arith, e.queue);
    }

-- ---- a call, by what the test found

module _ (s : State) (t : Tables) (d : Float) {r : Result ⊤ Refusal} (h : r ≡ refusal_of s (split_of s d) d t) where
  pub call_refused : (e : Refusal) → r ≡ Err e → outcome (Err e) t ≡ distance_of s d t
  unfolding distance_of
  call_refused e f = refused s (split_of s d) d t e (sym h ∙ f)

  pub call_ready : (split : Bool) → split ≡ split_of s d → r ≡ allowed → Ready s split t
  call_ready split f z = rw f (ready s (split_of s d) d t (sym h ∙ z))

  pub call_accepted : (split : Bool) → split ≡ split_of s d → r ≡ allowed → (o : Outcome) → o ≡ accept_of s split d t → o ≡ distance_of s d t
  unfolding distance_of
  call_accepted split f z o a = rw f at a ∙ accepted s (split_of s d) d t (sym h ∙ z)

-- ---- for callers: the slices hold what the tables hold that they were lent as

pub handed_back : {keys : List ℕ} {distances : List Float} {firsts leaves queue : List ℕ} (t : lent.Tables) (a : Result Answer Refusal) (o : Outcome)
    → keys ≡ t.keys.now → distances ≡ t.distances.now → firsts ≡ t.firsts.now → leaves ≡ t.leaves.now → queue ≡ t.queue.now
    → outcome a (tables_in t) ≡ o → outcome a (tables_of keys distances firsts leaves queue) ≡ o
handed_back t a o k d f l q e = rw (k, d, f, l, q) e
