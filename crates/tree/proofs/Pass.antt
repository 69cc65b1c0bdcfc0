-- The one pass over a tree's nodes that `sound` makes: what it has shown at each turn, why each of its refusals is right, and why what it accepts is
-- sound. Assumes nothing.
use Prim.Native.Nat.{ℕ, zero, suc, ◌+◌, ◌*◌, ◌-◌, ◌/◌, ◌%◌, ◌^◌, ◌≤◌, ◌<◌}
use mathlib.Core.Path.{◌≡◌, refl, sym, ap, subst, subst₃, ◌∙◌}
use mathlib.Core.Bool.{Bool, true, false}
use mathlib.Core.List.{List}
use mathlib.Core.Logic.{◌⊎◌, inl, inr, ⊎_elim}
use native.Mathlib.Omega.{arith}
use lib.Ieee.{Float, nan}
use lib.Ieee.Scale.{finite}
use lib.ListN.{length, get_or}
use Rattle.morton.specs.Level.{limit, Cell, level, parent_of}
use Rattle.morton.proofs.Levels.{eight_pos, eight_mono, cell_level, cell_lt}
use Rattle.morton.proofs.Cells.{child_cell}
use Rattle.tree.specs.Tree.{Tree, tree_of, StandsAt, In, Ascending, AllChildren, NoChild, FirstChild, AllFinite, Sound, Decides, EightAt}
use Rattle.tree.proofs.Lists.{order, in_at, in_cast, ascending_place}

-- ---- answers

pub said : (b : Bool) (P : Type 0) → b ≡ true → Decides b P → P
said b P e h = subst (λ (x : Bool). Decides x P) e h

pub denied : (b : Bool) (P : Type 0) → b ≡ false → Decides b P → P → ⊥
denied b P e h = subst (λ (x : Bool). Decides x P) e h

-- ---- lists

-- ascending up to place n
abbrev pub Up : List ℕ → ℕ → Type 0
Up ks n = (a b : ℕ) → a < b → b < n → get_or ks a 0 < get_or ks b 0

module _ (ks : List ℕ) {n : ℕ} (up : Up ks n) where
  pub up≤ : (a b : ℕ) → a ≤ b → b < n → get_or ks a 0 ≤ get_or ks b 0
  up≤ a b h l =
      ⊎_elim
      (λ lt. let u = up a b lt l in omega arith)
      (λ ge. let e : a ≡ b = omega arith in omega (arith, ap (λ (x : ℕ). get_or ks x 0) e))
      (order a b)

  pub up_back : (a b : ℕ) → a < n → get_or ks a 0 < get_or ks b 0 → a < b
  up_back a b l h = ⊎_elim (λ lt. lt) (λ ge. let u = up≤ b a ge l in absurd (omega arith)) (order a b)

-- keys in a row
pub run_at : (ks : List ℕ) → Ascending ks → (x p n : ℕ) → StandsAt ks p x → ((i : ℕ) → i < n → In (x + i) ks) → (i : ℕ) → i < n → StandsAt ks (p + i) (x + i)
run_at ks up x p n s m zero h =
    let z : p + 0 ≡ p = omega arith in
    record { inside = omega (arith, s.inside); here = ap (λ (j : ℕ). get_or ks j 0) z ∙ s.here ∙ omega arith }
run_at ks up x p n s m (suc i) h =
    let b = run_at ks up x p n s m i (omega arith) in
    let q = m (suc i) h in
    let l : p + i < q.place = up_back ks up (p + i) q.place b.inside (omega (arith, b.here, q.here)) in
    let r : p + suc i ≤ q.place = omega arith in
    record {
      inside = omega (arith, q.inside);
      here = omega (arith, up≤ ks up (p + suc i) q.place r q.inside, q.here, b.here, up (p + i) (p + suc i) (omega arith) (omega (arith, q.inside)));
    }

-- k stands before place n
pub record Before (k : ℕ) (ks : List ℕ) (n : ℕ) : Type 0 where
  pub place : ℕ
  pub inside : place < n
  pub here : get_or ks place 0 ≡ k

widen : {ks : List ℕ} {n m k : ℕ} → Before k ks n → n ≤ m → Before k ks m
widen b h = record { place = b.place; inside = omega (arith, b.inside); here = b.here }

before_in : {ks : List ℕ} {k n : ℕ} → n ≤ length ks → Before k ks n → In k ks
before_in h b = record { place = b.place; inside = omega (arith, b.inside); here = b.here }

-- ---- keys of a tree

abbrev pub TreeCell : ℕ → Type 0
TreeCell k = Cell (level k) k × (level k ≤ limit)

pub cell_pos : {k : ℕ} → TreeCell k → 1 ≤ k
cell_pos {k} q = omega (arith, eight_pos (level k), q.0.low)

pub cell_below : {k : ℕ} → TreeCell k → k < 2 * 8 ^ limit
cell_below {k} q = cell_lt (level k) limit k q.0 q.1

-- eight times a key of a tree fits 64 bits
pub cell_fits : {k : ℕ} → TreeCell k → 8 * k < 2 ^ 64
cell_fits q = omega (arith, cell_below q)

pub root_cell : TreeCell 1
root_cell =
    let c : Cell 0 1 = record { low = omega arith; high = omega arith } in
    let e : level 1 ≡ 0 = cell_level 0 1 (omega arith) c in
    (subst (λ (l : ℕ). Cell l 1) (sym e) c, omega arith)

-- the children of a key that is below 8^limit
cell_child : {k : ℕ} → TreeCell k → k < 8 ^ limit → (w : ℕ) → w < 8 → TreeCell (8 * k + w)
cell_child {k} q h w l =
    let up : level k < limit =
    ⊎_elim (λ lt. lt) (λ ge. absurd (omega (arith, eight_mono ge, q.0.low))) (order (level k) limit) in
    let c : Cell (suc (level k)) (8 * k + w) = child_cell (level k) k w q.0 (omega arith) in
    let e : level (8 * k + w) ≡ suc (level k) = cell_level (suc (level k)) (8 * k + w) (omega arith) c in
    (subst (λ (n : ℕ). Cell n (8 * k + w)) (sym e) c, omega arith)

-- no cell key but the root is below 8, so its parent is an eighth of it
pub eighth : {k : ℕ} → TreeCell k → (k ≡ 1 → ⊥) → parent_of k ≡ k / 8
eighth {k} q n = go (level k) refl
  where
    go : (l : ℕ) → level k ≡ l → parent_of k ≡ k / 8
    go zero e = absurd (n (omega (arith, (subst (λ (x : ℕ). Cell x k) e q.0).low, (subst (λ (x : ℕ). Cell x k) e q.0).high)))
    go (suc l) e = omega (arith, eight_pos l, (subst (λ (x : ℕ). Cell x k) e q.0).low)

module _ (t : Tree) (S : Sound t) where
  -- the parent of a key that isn't the first, and all eight of its children
  pub parent_up : (x : ℕ) → In x t.keys → (x ≡ 1 → ⊥) → In (x / 8) t.keys
  parent_up x m n = in_cast (sym (eighth (S.cells x m) n)) (S.parents x m n)

  pub siblings : (x : ℕ) → In x t.keys → (x ≡ 1 → ⊥) → AllChildren (x / 8) t.keys
  siblings x m n =
      ⊎_elim (λ a. a) (λ none. absurd (none (x % 8) (omega arith) (in_cast (omega arith) m))) (S.children (x / 8) (parent_up x m n))

  -- of the key at a later place
  pub later : (j : ℕ) → 0 < j → j < length t.keys → get_or t.keys j 0 ≡ 1 → ⊥
  later j p h e = omega (arith, S.ascending 0 j p h, S.first.here)

  pub parent_at : (j : ℕ) → 0 < j → j < length t.keys → In (get_or t.keys j 0 / 8) t.keys
  parent_at j p h = parent_up (get_or t.keys j 0) (in_at t.keys j h) (later j p h)

  pub beside : (j : ℕ) → 0 < j → j < length t.keys → AllChildren (get_or t.keys j 0 / 8) t.keys
  beside j p h = siblings (get_or t.keys j 0) (in_at t.keys j h) (later j p h)

-- ---- the pass

-- What the pass has shown when node i is next, the next child is expected at c and the next leaf at m.
pub record Walked (ks ls fs : List ℕ) (i c m : ℕ) : Type 0 where
  pub some : 1 ≤ c
  pub behind : i ≤ c
  pub inside : c ≤ length ks
  pub leaves_inside : m ≤ length ls
  pub count : c + 8 * m ≡ 8 * i + 1
  pub first : get_or ks 0 0 ≡ 1
  pub up : Up ks c
  pub cells : (j : ℕ) → j < c → TreeCell (get_or ks j 0)
  pub parent : (j : ℕ) → 0 < j → j < c → Before (get_or ks j 0 / 8) ks i
  pub done : (p : ℕ) → p < i → Before (get_or ks p 0) ls m ⊎ ((w : ℕ) → w < 8 → Before (8 * get_or ks p 0 + w) ks c)
  pub leaf : (q : ℕ) → q < m → Before (get_or ls q 0) ks i
  pub leaf_up : Up ls m
  pub apart : (q j : ℕ) → q < m → 0 < j → j < c → get_or ls q 0 ≡ get_or ks j 0 / 8 → ⊥
  pub told : (p : ℕ) → p < i → (get_or fs p 0 < c × (get_or ks (get_or fs p 0) 0 ≡ 8 * get_or ks p 0)) ⊎ (Before (get_or ks p 0) ls m × (get_or fs p 0 ≡ 0))

-- A sound tree is never refused.
module _ {ks ls fs : List ℕ} {d : List Float} {i c m : ℕ} (W : Walked ks ls fs i c m) (S : Sound (tree_of ks d fs ls)) where
  -- the parent of the key at c is not yet passed
  next : c < length ks → (q : In (get_or ks c 0 / 8) ks) → i ≤ q.place
  next h q = ⊎_elim
      (λ lt. absurd (⊎_elim
      (λ l. (S.leaves_childless (get_or ks q.place 0) (before_in W.leaves_inside l)).1 (get_or ks c 0 % 8) (omega arith)
      (record { place = c; inside = h; here = omega (arith, q.here) }))
      (λ a.
      let b = a (get_or ks c 0 % 8) (omega arith) in
      omega (arith, S.ascending b.place c b.inside h, b.here, q.here))
      (W.done q.place lt)))
      (λ le. le)
      (order q.place i)

  -- the key of the next leaf is not yet passed
  next_leaf : m < length ls → (p : In (get_or ls m 0) ks) → i ≤ p.place
  next_leaf h p = ⊎_elim
      (λ lt. absurd (⊎_elim
      (λ l. omega (arith, S.leaves_ascending l.place m l.inside h, l.here, p.here))
      (λ a.
      let b = a 0 (omega arith) in
      (S.leaves_childless (get_or ls m 0) (record { place = m; inside = h; here = refl })).1 0 (omega arith)
      (record { place = b.place; inside = omega (arith, b.inside, W.inside); here = omega (arith, b.here, p.here) }))
      (W.done p.place lt)))
      (λ le. le)
      (order p.place i)

  -- a first child stands at c
  child_next : i < c → In (8 * get_or ks i 0 + 0) ks → StandsAt ks c (8 * get_or ks i 0)
  child_next l p =
      let c≤p : c ≤ p.place = ⊎_elim
      (λ lt. absurd (⊎_elim
      (λ pos.
      let q = W.parent p.place pos lt in
      omega (arith, W.up q.place i q.inside l, q.here, p.here))
      (λ z.
      let e : p.place ≡ 0 = omega arith in
      omega (arith, ap (λ (x : ℕ). get_or ks x 0) e, W.first, p.here))
      (order 0 p.place)))
      (λ le. le)
      (order p.place c) in
      let h : c < length ks = omega (arith, p.inside) in
      let q = parent_at (tree_of ks d fs ls) S c (omega (arith, W.some)) h in
      let f = next h q in
      record { inside = h; here = omega (arith, up≤ ks S.ascending c p.place c≤p p.inside, p.here, up≤ ks S.ascending i q.place f q.inside, q.here) }

  pub all_eight : i < c → StandsAt ks c (8 * get_or ks i 0) → EightAt ks c (8 * get_or ks i 0)
  all_eight l s =
      let all : AllChildren (get_or ks i 0) ks = ⊎_elim (λ a. a)
      (λ none. absurd (none 0 (omega arith) (record { place = c; inside = s.inside; here = omega (arith, s.here) })))
      (S.children _ (in_at ks i (omega (arith, W.inside)))) in
      let r = run_at ks S.ascending (8 * get_or ks i 0) c 8 s all in
      record { room = omega (arith, (r 7 (omega arith)).inside); run = λ v h. (r v h).here }

  pub not_too_deep : StandsAt ks c (8 * get_or ks i 0) → 8 ^ limit ≤ get_or ks i 0 → ⊥
  not_too_deep s h = omega (arith, cell_below (S.cells _ (in_at ks c s.inside)), s.here)

  pub leaf_next : i < c → (StandsAt ks c (8 * get_or ks i 0) → ⊥) → StandsAt ls m (get_or ks i 0)
  leaf_next l not =
      let here_i : i < length ks = omega (arith, W.inside) in
      let none : NoChild (get_or ks i 0) ks = ⊎_elim (λ all. absurd (not (child_next l (all 0 (omega arith))))) (λ n. n) (S.children _ (in_at ks i here_i)) in
      let q = S.childless_leaves (get_or ks i 0) (record { place = i; inside = here_i; here = refl }) none in
      let m≤q : m ≤ q.place = ⊎_elim
      (λ lt.
      let p = W.leaf q.place lt in
      absurd (omega (arith, W.up p.place i p.inside l, p.here, q.here)))
      (λ le. le)
      (order q.place m) in
      let h : m < length ls = omega (arith, q.inside) in
      let p = (S.leaves_childless (get_or ls m 0) (record { place = m; inside = h; here = refl })).0 in
      let f = next_leaf h p in
      record { inside = h; here = omega (arith, up≤ ls S.leaves_ascending m q.place m≤q q.inside, q.here, up≤ ks S.ascending i p.place f p.inside, p.here) }

  pub no_more_keys : c ≤ i → c < length ks → ⊥
  no_more_keys e h =
      let q = parent_at (tree_of ks d fs ls) S c (omega (arith, W.some)) h in
      let f = next h q in
      let g : c ≤ q.place = omega arith in
      omega (arith, up≤ ks S.ascending c q.place g q.inside, q.here, cell_pos (S.cells _ (in_at ks c h)))

  pub no_more_leaves : length ks ≤ i → m < length ls → ⊥
  no_more_leaves e h =
      let p = (S.leaves_childless (get_or ls m 0) (record { place = m; inside = h; here = refl })).0 in
      omega (arith, next_leaf h p, p.inside)

module _ {ks ls fs : List ℕ} {d : List Float} {i c m : ℕ} (W : Walked ks ls fs i c m) (S : Sound (tree_of ks d fs ls)) (l : i < c) where
  -- the place of a split node's first child is c, that of a leaf's is 0
  pub first_here : StandsAt ks c (8 * get_or ks i 0) → get_or fs i 0 ≡ c
  first_here s = ⊎_elim
      (λ t. ascending_place ks S.ascending (get_or fs i 0) c t.inside s.inside (omega (arith, t.here, s.here)))
      (λ n. absurd (n.0 0 (omega arith) (record { place = c; inside = s.inside; here = omega (arith, s.here) })))
      (S.first_child i (omega (arith, W.inside)))

  pub first_none : (StandsAt ks c (8 * get_or ks i 0) → ⊥) → get_or fs i 0 ≡ 0
  first_none not = ⊎_elim
      (λ t. absurd (not (child_next W S l (record { place = get_or fs i 0; inside = t.inside; here = omega (arith, t.here) }))))
      (λ n. n.1)
      (S.first_child i (omega (arith, W.inside)))

-- The pass begins, goes on over a split node or a leaf, and ends.
pub start : (ks ls fs : List ℕ) → StandsAt ks 0 1 → Walked ks ls fs 0 1 0
start ks ls fs s = record {
  some = omega arith;
  behind = omega arith;
  inside = s.inside;
  leaves_inside = omega arith;
  count = omega arith;
  first = s.here;
  up = λ a b l k. absurd (omega arith);
  cells = λ j l. let z : 0 ≡ j = omega arith in
      subst (λ (x : ℕ). TreeCell (get_or ks x 0)) z (subst TreeCell (sym s.here) root_cell);
  parent = λ j p l. absurd (omega arith);
  done = λ p l. absurd (omega arith);
  leaf = λ q l. absurd (omega arith);
  leaf_up = λ a b l k. absurd (omega arith);
  apart = λ q j l. absurd (omega arith);
  told = λ p l. absurd (omega arith);
}

module _ {ks ls fs : List ℕ} {i c m : ℕ} (W : Walked ks ls fs i c m) (l : i < c) where
  -- every key before c is below the children of the key at i
  low : (a : ℕ) → a < c → get_or ks a 0 < 8 * get_or ks i 0
  low a h = ⊎_elim
      (λ pos. let q = W.parent a pos h in omega (arith, W.up q.place i q.inside l, q.here))
      (λ z. let e : a ≡ 0 = omega arith in
      omega (arith, ap (λ (x : ℕ). get_or ks x 0) e, W.first, cell_pos (W.cells i l)))
      (order 0 a)

  module _ (top : get_or ks i 0 < 8 ^ limit) (E : EightAt ks c (8 * get_or ks i 0)) where
    -- a key from c on is a child of the key at i
    child : (j : ℕ) → c ≤ j → j < c + 8 → get_or ks j 0 ≡ 8 * get_or ks i 0 + (j - c)
    child j g h = let e : c + (j - c) ≡ j = omega arith in omega (arith, E.run (j - c) (omega arith), ap (λ (x : ℕ). get_or ks x 0) e)

    pub after_split : get_or fs i 0 ≡ c → Walked ks ls fs (i + 1) (c + 8) m
    after_split right = record {
      some = omega arith;
      behind = omega arith;
      inside = E.room;
      leaves_inside = W.leaves_inside;
      count = omega (arith, W.count);
      first = W.first;
      up = λ a b g h. ⊎_elim
          (λ bc. W.up a b g bc)
          (λ cb. ⊎_elim
          (λ ac. omega (arith, low a ac, child b cb h))
          (λ ca. omega (arith, child a ca (omega arith), child b cb h))
          (order a c))
          (order b c);
      cells = λ j h. ⊎_elim
          (λ jc. W.cells j jc)
          (λ cj. subst (λ (x : ℕ). TreeCell x) (sym (child j cj h)) (cell_child (W.cells i l) top (j - c) (omega arith)))
          (order j c);
      parent = λ j p h. ⊎_elim
          (λ jc. widen (W.parent j p jc) (omega arith))
          (λ cj. record { place = i; inside = omega arith; here = omega (arith, child j cj h) })
          (order j c);
      done = λ p h. ⊎_elim
          (λ pi. ⊎_elim (λ b. inl b) (λ a. inr (λ w g. widen (a w g) (omega arith))) (W.done p pi))
          (λ ip. let e : i ≡ p = omega arith in
          inr (λ w g. record { place = c + w; inside = omega arith; here = omega (arith, E.run w g, ap (λ (x : ℕ). get_or ks x 0) e) }))
          (order p i);
      leaf = λ q h. widen (W.leaf q h) (omega arith);
      leaf_up = W.leaf_up;
      apart = λ q j h p g e. ⊎_elim
          (λ jc. W.apart q j h p jc e)
          (λ cj. let b = W.leaf q h in omega (arith, child j cj g, b.here, W.up b.place i b.inside l))
          (order j c);
      told = λ p h. ⊎_elim
          (λ pi. ⊎_elim (λ a. inl (omega (arith, a.0), a.1)) (λ b. inr b) (W.told p pi))
          (λ ip. let e : i ≡ p = omega arith in
          subst (λ (j : ℕ). (get_or fs j 0 < c + 8 × (get_or ks (get_or fs j 0) 0 ≡ 8 * get_or ks j 0)) ⊎ (Before (get_or ks j 0) ls m × (get_or fs j 0 ≡ 0))) e
          (inl (omega (arith, right), ap (λ (x : ℕ). get_or ks x 0) right ∙ omega (arith, child c (omega arith) (omega arith)))))
          (order p i);
    }

  pub after_leaf : StandsAt ls m (get_or ks i 0) → get_or fs i 0 ≡ 0 → Walked ks ls fs (i + 1) c (m + 1)
  after_leaf s none = record {
    some = W.some;
    behind = omega arith;
    inside = W.inside;
    leaves_inside = omega (arith, s.inside);
    count = omega (arith, W.count);
    first = W.first;
    up = W.up;
    cells = W.cells;
    parent = λ j p h. widen (W.parent j p h) (omega arith);
    done = λ p h. ⊎_elim
        (λ pi. ⊎_elim (λ b. inl (widen b (omega arith))) (λ a. inr a) (W.done p pi))
        (λ ip. let e : i ≡ p = omega arith in
        inl (record { place = m; inside = omega arith; here = omega (arith, s.here, ap (λ (x : ℕ). get_or ks x 0) e) }))
        (order p i);
    leaf = λ q h. ⊎_elim
        (λ qm. widen (W.leaf q qm) (omega arith))
        (λ mq. let e : m ≡ q = omega arith in
        record { place = i; inside = omega arith; here = omega (arith, s.here, ap (λ (x : ℕ). get_or ls x 0) e) })
        (order q m);
    leaf_up = λ a b g h. ⊎_elim
        (λ bm. W.leaf_up a b g bm)
        (λ mb. let e : m ≡ b = omega arith in
        let p = W.leaf a (omega arith) in
        omega (arith, s.here, ap (λ (x : ℕ). get_or ls x 0) e, p.here, W.up p.place i p.inside l))
        (order b m);
    apart = λ q j h p g e. ⊎_elim
        (λ qm. W.apart q j qm p g e)
        (λ mq. let f : m ≡ q = omega arith in
        let b = W.parent j p g in
        omega (arith, s.here, ap (λ (x : ℕ). get_or ls x 0) f, b.here, W.up b.place i b.inside l))
        (order q m);
    told = λ p h. ⊎_elim
        (λ pi. ⊎_elim (λ a. inl a) (λ b. inr (widen b.0 (omega arith), b.1)) (W.told p pi))
        (λ ip. let e : i ≡ p = omega arith in
        subst (λ (j : ℕ). (get_or fs j 0 < c × (get_or ks (get_or fs j 0) 0 ≡ 8 * get_or ks j 0)) ⊎ (Before (get_or ks j 0) ls (m + 1) × (get_or fs j 0 ≡ 0))) e
        (inr (record { place = m; inside = omega arith; here = s.here }, none)))
        (order p i);
  }

-- what the pass has shown once every node and leaf is passed is that the tree is sound
module _ {ks ls fs : List ℕ} (W : Walked ks ls fs (length ks) (length ks) (length ls)) where
  -- what is there has been passed
  cell_of : (k : ℕ) → In k ks → TreeCell k
  cell_of k b = subst TreeCell b.here (W.cells b.place b.inside)

  parent_of_lem : (k : ℕ) → In k ks → (k ≡ 1 → ⊥) → In (parent_of k) ks
  parent_of_lem k b n =
      let pos : 0 < b.place = ⊎_elim (λ h. h)
      (λ z. let e : b.place ≡ 0 = omega arith in absurd (n (sym b.here ∙ ap (λ (x : ℕ). get_or ks x 0) e ∙ W.first)))
      (order 0 b.place) in
      subst (λ (x : ℕ). In x ks) (sym (eighth (cell_of k b) n))
      (subst (λ (x : ℕ). In (x / 8) ks) b.here (before_in (omega arith) (W.parent b.place pos b.inside)))

  childless : (k : ℕ) → In k ks → In k ls → NoChild k ks
  childless k a q w g b = ⊎_elim
      (λ pos. W.apart q.place b.place q.inside pos b.inside (omega (arith, q.here, b.here)))
      (λ z. let e : b.place ≡ 0 = omega arith in
      omega (arith, b.here, W.first, ap (λ (x : ℕ). get_or ks x 0) e, cell_pos (cell_of k a)))
      (order 0 b.place)

  leaf_in : (k : ℕ) → In k ls → In k ks
  leaf_in k q = subst (λ (x : ℕ). In x ks) q.here (before_in (omega arith) (W.leaf q.place q.inside))

  leaf_or_all : (k : ℕ) → In k ks → In k ls ⊎ AllChildren k ks
  leaf_or_all k b = subst (λ (x : ℕ). In x ls ⊎ AllChildren x ks) b.here
      (⊎_elim (λ q. inl (before_in (omega arith) q)) (λ a. inr (λ w g. before_in (omega arith) (a w g))) (W.done b.place b.inside))

  right_place : (i : ℕ) → i < length ks → FirstChild ks (get_or ks i 0) (get_or fs i 0)
  right_place i h = ⊎_elim
      (λ a. inl (record { inside = a.0; here = a.1 }))
      (λ b. inr (childless (get_or ks i 0) (in_at ks i h) (before_in (omega arith) b.0), b.1))
      (W.told i h)

  all_passed : {d : List Float} → length ks ≡ length d → AllFinite d → length ks ≡ length fs → Sound (tree_of ks d fs ls)
  all_passed e f g = record {
    as_many = e;
    all_finite = f;
    ascending = W.up;
    first = record { inside = W.some; here = W.first };
    cells = cell_of;
    parents = parent_of_lem;
    children = λ k b. ⊎_elim (λ q. inr (childless k b q)) (λ a. inl a) (leaf_or_all k b);
    leaves_ascending = W.leaf_up;
    leaves_childless = λ k q. (leaf_in k q, childless k (leaf_in k q) q);
    childless_leaves = λ k b none. ⊎_elim (λ q. q) (λ a. absurd (none 0 (omega arith) (a 0 (omega arith)))) (leaf_or_all k b);
    as_many_firsts = g;
    first_child = right_place;
  }

-- ---- distances

-- the first i distances are finite
abbrev FiniteTo : List Float → ℕ → Type 0
FiniteTo ds i = (j : ℕ) → j < i → finite (get_or ds j nan) ≡ true

finite_more : (ds : List Float) (i : ℕ) → FiniteTo ds i → finite (get_or ds i nan) ≡ true → FiniteTo ds (i + 1)
finite_more ds i f e j h = ⊎_elim (λ lt. f j lt) (λ ge. let q : i ≡ j = omega arith in subst (λ (x : ℕ). finite (get_or ds x nan) ≡ true) q e) (order j i)

-- ---- all that the pass has shown

pub record Seen (ks ls fs : List ℕ) (ds : List Float) (i c m : ℕ) : Type 0 where
  pub walked : Walked ks ls fs i c m
  pub finite_so_far : FiniteTo ds i

pub seen_none : (ks ls fs : List ℕ) (ds : List Float) → StandsAt ks 0 1 → Seen ks ls fs ds 0 1 0
seen_none ks ls fs ds s = record { walked = start ks ls fs s; finite_so_far = λ j h. absurd (omega arith) }

pub seen_more : {ks ls fs : List ℕ} {ds : List Float} {i c m c' m' : ℕ} → Seen ks ls fs ds i c m → finite (get_or ds i nan) ≡ true → Walked ks ls fs (i + 1) c' m' → Seen ks ls fs ds (i + 1) c' m'
seen_more {ks} {ls} {fs} {ds} {i} S e W = record { walked = W; finite_so_far = finite_more ds i S.finite_so_far e }

pub accepted : {ks ls fs : List ℕ} {ds : List Float} {i c m : ℕ} → Seen ks ls fs ds i c m → c ≤ i → c ≡ length ks → m ≡ length ls → length ks ≡ length ds → length ks ≡ length fs → Sound (tree_of ks ds fs ls)
accepted {ks} {ls} {fs} {ds} {i} {c} {m} S h e f g o =
    let k : i ≡ length ks = omega (arith, S.walked.behind) in
    all_passed (subst₃ (λ (x y z : ℕ). Walked ks ls fs x y z) k e f S.walked) g (λ j l. S.finite_so_far j (omega arith)) o
