-- What holds of every state that fits its tables, of one that no build made too: what is asked next is a cell key, no finer than the finest grid. Assumes nothing.
use Prim.Native.Nat.{ℕ, suc, ◌+◌, ◌-◌, ◌*◌, ◌%◌, ◌≤◌, ◌<◌}
use mathlib.Core.Path.{◌≡◌, refl, sym, ap, ◌∙◌}
use mathlib.Core.Bool.{Bool, true, false, cond, ◌||◌}
use mathlib.Core.List.{List}
use native.Mathlib.Omega.{arith}
use native.Mathlib.Decide.{dec_lt}
use lib.Dec.{eqb, ltb}
use lib.Ieee.{Float}
use lib.ListN.{length, get_or}
use borrow.Author.Tests.{eqb-true, ltb-true}
use Rattle.std.specs.Prelude.{Ok}
use Rattle.morton.specs.Level.{level}
use Rattle.morton.proofs.Cells.{child_cell}
use Rattle.morton.proofs.Levels.{eight_pos, and_true}
use Rattle.build.specs.declared.Lengths.{Lengths}
use Rattle.build.specs.declared.Request.{Request}
use Rattle.build.specs.declared.State.{State}
use Rattle.build.specs.declared.Answer.TheVariants.{Ask}
use Rattle.build.specs.Build.{allowed, Tables, outcome, lengths_of, node_room, finest, items, item_at, cell_to, same_lengths, counts_fit, idle_fits, busy_fits, fits_at, fits, refusal_of, split_of, children_to, queue_of, leaves_of, moved_of, distance_of}
use Rattle.build.proofs.Laws.{cell_to_lem, to_cell, counts, same, asked, passed, full_ring}
use Rattle.build.proofs.Ring.{apart, length_children, children_other, children_at}
use Rattle.demands.proofs.Rule.{split_level, finest_deep}
use Rattle.demands.proofs.Call.{next_of, answer_took, answered}

-- ---- an item of the ring after the children of a cell are stored: one before them, and the first of them

before_children : (q : List ℕ) (k item n : ℕ) → n < item → item + 8 ≤ n + length q → item_at (children_to 8 q k item) n ≡ item_at q n
unfolding item_at
before_children q k item n l h =
    ap (λ (x : ℕ). get_or (children_to 8 q k item) (n % x) 0) (length_children 8 q k item)
    ∙ children_other 8 q k item (n % length q) (λ w b. apart (length q) n (item + w) (omega arith) (omega arith))

first_child : (q : List ℕ) (k item n : ℕ) → n ≡ item + 0 → 8 ≤ length q → item_at (children_to 8 q k item) n ≡ 8 * k + 0
unfolding item_at
first_child q k item n e h =
    ap (λ (x : ℕ). get_or (children_to 8 q k item) (n % x) 0) (length_children 8 q k item)
    ∙ ap (λ (x : ℕ). get_or (children_to 8 q k item) (x % length q) 0) e
    ∙ children_at 8 q k item 0 (omega arith) h

-- ---- the item that is asked next

item_cell : (s : State) (t : Tables) (split : Bool) (d : Float) → (split ≡ true → level s.asked < finest s.bound) → refusal_of s split d t ≡ allowed
    → s.nodes < items (s.nodes + 1) (leaves_of s split) → cell_to (finest s.bound) (item_at (queue_of s split t) s.nodes) ≡ true
unfolding refusal_of leaves_of queue_of lengths_of
item_cell s t false d above z l =
    let p = passed _ _ d _ _ _ _ z in
    p.state.next (omega (arith, p.state.counted.few))
item_cell s t true d above z l =
    let p = passed _ _ d _ _ _ _ z in
    let few = p.state.counted.few in
    let room = full_ring s p.full in
    let same = p.state.lengths.queue in
    let c = cell_to_lem (finest s.bound) s.asked p.state.cell in
    let deep = finest_deep s.bound p.state.counted.bounded in
    go few room same p.state.waiting p.state.next (dec_lt (8 * s.leaves) (7 * s.nodes))
    (to_cell (finest s.bound) (suc (level s.asked)) (8 * s.asked + 0) (omega (arith, above refl)) (child_cell (level s.asked) s.asked 0 c.0 (omega arith)) (omega (arith, above refl)))
  where
    go : s.leaves ≤ s.nodes → 7 * s.nodes - 8 * s.leaves + 8 ≤ s.lengths.queue → s.lengths.queue ≡ length t.queue → 8 * s.leaves ≤ 7 * s.nodes
        → (8 * s.leaves < 7 * s.nodes → cell_to (finest s.bound) (item_at t.queue s.nodes) ≡ true) → Dec (8 * s.leaves < 7 * s.nodes)
        → cell_to (finest s.bound) (8 * s.asked + 0) ≡ true
        → cell_to (finest s.bound) (item_at (children_to 8 t.queue s.asked (8 * (s.nodes - s.leaves))) s.nodes) ≡ true
    go few room same waiting next (yes h) child =
        ap (cell_to (finest s.bound)) (before_children t.queue s.asked (8 * (s.nodes - s.leaves)) s.nodes (omega arith) (omega arith)) ∙ next h
    go few room same waiting next (no h) child =
        ap (cell_to (finest s.bound)) (first_child t.queue s.asked (8 * (s.nodes - s.leaves)) s.nodes (omega arith) (omega arith)) ∙ child

split_above : (s : State) (d : Float) → split_of s d ≡ true → level s.asked < finest s.bound
unfolding split_of
split_above s d = split_level (level s.asked) s.bound d

pub next_cell : (s s' : State) (d : Float) (t t' : Tables) (r : Request) → distance_of s d t ≡ outcome (Ok (Ask r s')) t' → (s'.asked ≡ 0 → ⊥)
    → cell_to (finest s.bound) s'.asked ≡ true
unfolding next_of moved_of
next_cell s s' d t t' r e n =
    let k = answer_took s t t' d (Ok (Ask r s')) e (answered (Ask r s')) in
    let at : next_of s (leaves_of s (split_of s d)) (queue_of s (split_of s d) t) ≡ s'.asked = ap (λ (x : State). x.asked) k.state in
    go (ltb s.nodes (items (s.nodes + 1) (leaves_of s (split_of s d)))) refl at (item_cell s t (split_of s d) d (split_above s d) k.free)
  where
    go : (b : Bool) → ltb s.nodes (items (s.nodes + 1) (leaves_of s (split_of s d))) ≡ b → cond b (item_at (queue_of s (split_of s d) t) s.nodes) 0 ≡ s'.asked
        → (s.nodes < items (s.nodes + 1) (leaves_of s (split_of s d)) → cell_to (finest s.bound) (item_at (queue_of s (split_of s d) t) s.nodes) ≡ true)
        → cell_to (finest s.bound) s'.asked ≡ true
    go true l at c = ap (cell_to (finest s.bound)) (sym at) ∙ c (ltb-true _ _ l)
    go false l at c = absurd (n (sym at))

-- ---- and what the conditions are for

-- the tables are those of the start
pub lengths_kept : (s : State) (t : Tables) → fits s t ≡ true → s.lengths ≡ lengths_of t
unfolding fits fits_at
lengths_kept s t h = let e = same _ _ (and_true (same_lengths s.lengths (lengths_of t)) _ h).0 in each s.lengths (lengths_of t) e.keys e.distances e.firsts e.leaves e.queue
  where
    each : (a b : Lengths) → a.keys ≡ b.keys → a.distances ≡ b.distances → a.firsts ≡ b.firsts → a.leaves ≡ b.leaves → a.queue ≡ b.queue → a ≡ b
    each a b e f g h k = λ i. record { keys = e i; distances = f i; firsts = g i; leaves = h i; queue = k i }

-- no two items that wait share a place
pub waiting_apart : (s : State) (t : Tables) → fits s t ≡ true → (s.asked ≡ 0 → ⊥) → (i j : ℕ) → i < j → j < 7 * s.nodes - 8 * s.leaves
    → (s.nodes + i) % length t.queue ≡ (s.nodes + j) % length t.queue → ⊥
unfolding fits lengths_of
waiting_apart s t h n i j l g =
    let k = asked _ _ _ _ _ n h in
    apart (length t.queue) (s.nodes + i) (s.nodes + j) (omega arith) (omega (arith, k.ring, k.lengths.queue))

-- where nothing is asked, each node but the root was an item, and each item is a node
idle_taken : (s : State) → s.leaves ≤ s.nodes → idle_fits s ≡ true → s.nodes ≡ items s.nodes s.leaves + 1
unfolding idle_fits
idle_taken s few h = omega (arith, eqb-true (7 * s.nodes + 1) (8 * s.leaves) (and_true (eqb s.asked 0) _ h).1)

idle_busy : (s : State) (next top : ℕ) → s.asked ≡ 0 → busy_fits s next top ≡ true → ⊥
unfolding busy_fits
idle_busy s next top z h =
    let k = cell_to_lem top s.asked (and_true (cell_to top s.asked) _ h).0 in omega (arith, k.0.low, eight_pos (level s.asked))

pub all_taken : (s : State) (t : Tables) → fits s t ≡ true → s.asked ≡ 0 → s.nodes ≡ items s.nodes s.leaves + 1
unfolding fits fits_at
all_taken s t h z =
    let h2 = and_true (same_lengths s.lengths (lengths_of t)) _ h in
    let h3 = and_true (counts_fit s (lengths_of t) (node_room (lengths_of t))) _ h2.1 in
    either (idle_fits s) (busy_fits s (item_at t.queue s.nodes) (finest s.bound)) h3.1
    (idle_taken s (counts s _ _ h3.0).few) (λ b. absurd (idle_busy s _ _ z b))
  where
    either : {P : Type 0} (a b : Bool) → (a || b) ≡ true → (a ≡ true → P) → (b ≡ true → P) → P
    either true b e f g = f refl
    either false b e f g = g e
