-- The way down from the root: step by step on any tables, and where it leads in a sound tree. Assumes nothing.
use Prim.Native.Nat.{ℕ, zero, suc, ◌+◌, ◌*◌, ◌-◌, ◌/◌, ◌%◌, ◌^◌, ◌≤◌, ◌<◌}
use mathlib.Core.Path.{◌≡◌, refl, sym, ap, ap₂, subst}
use mathlib.Core.Bool.{Bool, true, false, ◌&&◌}
use mathlib.Core.Logic.{◌⊎◌, inl, inr, ⊎_elim}
use mathlib.Core.List.{List}
use native.Mathlib.Nat.{pow-suc}
use native.Mathlib.Omega.{arith}
use lib.Dec.{eqb, ltb}
use lib.ListN.{length, get_or}
use borrow.Author.Tests.{lt-ltb, le-ltb, ltb-true, eq-eqb, ne_eqb, eqb-true}
use Rattle.morton.specs.Level.{if₀, Cell}
use Rattle.morton.proofs.Levels.{and_true, eight_pos}
use Rattle.tree.specs.Tree.{Tree, StandsAt, In, FirstChild, Sound, Decides}
use Rattle.tree.specs.Down.{Nodes, nodes_of, first_at, leads, steps, reach, is_split, over, place_over, level_over}
use Rattle.tree.proofs.Lists.{order, in_at, in_cast, in_stands, stands_in}
use Rattle.tree.proofs.Pass.{denied, up≤, up_back, run_at, parent_up, siblings, later, beside}

-- ---- leading

module _ (ks : List ℕ) (first child : ℕ) where
  pub leads_yes : first % 8 ≡ 1 → first + 7 < length ks → get_or ks first 0 ≡ child → leads ks first child ≡ true
  unfolding leads
  leads_yes p h e = ap₂ ◌&&◌ (eq-eqb (first % 8) 1 p) (ap₂ ◌&&◌ (lt-ltb (first + 7) (length ks) h) (eq-eqb (get_or ks first 0) child e))

  pub leads_none : (first % 8 ≡ 1 → ⊥) → leads ks first child ≡ false
  unfolding leads
  leads_none e = ap (λ (r : Bool). r && (ltb (first + 7) (length ks) && eqb (get_or ks first 0) child)) (ne_eqb (first % 8) 1 e)

  pub leads_past : first % 8 ≡ 1 → length ks ≤ first + 7 → leads ks first child ≡ false
  unfolding leads
  leads_past p h =
      ap₂ ◌&&◌ (eq-eqb (first % 8) 1 p) (ap (λ (r : Bool). r && eqb (get_or ks first 0) child) (le-ltb (first + 7) (length ks) h))

  pub leads_key : first % 8 ≡ 1 → first + 7 < length ks → leads ks first child ≡ eqb (get_or ks first 0) child
  unfolding leads
  leads_key p h =
      ap₂ ◌&&◌ (eq-eqb (first % 8) 1 p) (ap (λ (r : Bool). r && eqb (get_or ks first 0) child) (lt-ltb (first + 7) (length ks) h))

  pub leads_in : leads ks first child ≡ true → (first % 8 ≡ 1) × (first + 7 < length ks) × (get_or ks first 0 ≡ child)
  unfolding leads
  leads_in e =
      let a = and_true (eqb (first % 8) 1) _ e in
      let b = and_true (ltb (first + 7) (length ks)) _ a.1 in
      (eqb-true (first % 8) 1 a.0, ltb-true (first + 7) (length ks) b.0, eqb-true (get_or ks first 0) child b.1)

-- ---- the way down, on any tables

-- what holds of a number that is chosen
chosen : (P : ℕ → Type 0) (r : Bool) {a b : ℕ} → (r ≡ true → P a) → (r ≡ false → P b) → P (if₀ r a b)
chosen P true f g = f refl
chosen P false f g = g refl

module _ (n : Nodes) where
  pub split_steps : (l x : ℕ) → is_split n l x ≡ true → steps n (reach n l x) x ≡ true
  unfolding is_split
  split_steps zero x e = e
  split_steps (suc l) x e = (and_true (is_split n l (x / 8)) _ e).1

  pub split_up : (l x : ℕ) → is_split n (suc l) x ≡ true → is_split n l (x / 8) ≡ true
  unfolding is_split
  split_up l x e = (and_true (is_split n l (x / 8)) _ e).0

  -- a child of a split node
  pub split_below : (l x : ℕ) → is_split n l (x / 8) ≡ true → is_split n (suc l) x ≡ steps n (reach n (suc l) x) x
  unfolding is_split
  split_below l x e = ap (λ (r : Bool). r && steps n (reach n (suc l) x) x) e

  pub reach_down : (l x : ℕ) → reach n (suc l) x ≡ first_at n (reach n l (x / 8)) + x % 8
  unfolding reach
  reach_down l x = refl

  -- by whether the cell above is split
  module _ (l x : ℕ) {r : Bool} (e : is_split n l (x / 8) ≡ r) where
    pub over_next : over n (suc l) x ≡ if₀ r x (over n l (x / 8))
    unfolding over
    over_next = ap (λ (r : Bool). if₀ r x (over n l (x / 8))) e

    pub place_next : place_over n (suc l) x ≡ if₀ r (reach n (suc l) x) (place_over n l (x / 8))
    unfolding place_over
    place_next = ap (λ (r : Bool). if₀ r (reach n (suc l) x) (place_over n l (x / 8))) e

    pub level_next : level_over n (suc l) x ≡ if₀ r (suc l) (level_over n l (x / 8))
    unfolding level_over
    level_next = ap (λ (r : Bool). if₀ r (suc l) (level_over n l (x / 8))) e

  pub level_most : (l x : ℕ) → level_over n l x ≤ l
  unfolding level_over
  level_most zero x = omega arith
  level_most (suc l) x = chosen (λ m. m ≤ suc l) (is_split n l (x / 8)) (λ e. omega arith) (λ e. omega (arith, level_most l (x / 8)))

  -- a split node is the node over itself
  pub over_split : (l x : ℕ) → is_split n l x ≡ true → over n l x ≡ x
  unfolding over
  over_split zero x e = refl
  over_split (suc l) x e = over_next l x (split_up l x e)

  pub place_split : (l x : ℕ) → is_split n l x ≡ true → place_over n l x ≡ reach n l x
  unfolding place_over reach
  place_split zero x e = refl
  place_split (suc l) x e = place_next l x (split_up l x e)

  pub over_le : (l x : ℕ) → over n l x ≤ x
  unfolding over
  over_le zero x = omega arith
  over_le (suc l) x = chosen (λ m. m ≤ x) (is_split n l (x / 8)) (λ e. omega arith) (λ e. omega (arith, over_le l (x / 8)))

  pub over_pos : (l x : ℕ) → Cell l x → 0 < over n l x
  unfolding over
  over_pos zero x c = omega (arith, c.low)
  over_pos (suc l) x c =
      let up : Cell l (x / 8) = record { low = omega (arith, c.low, pow-suc 8 l); high = omega (arith, c.high, pow-suc 8 l) } in
      chosen (λ m. 0 < m) (is_split n l (x / 8)) (λ e. omega (arith, c.low, eight_pos (suc l))) (λ e. over_pos l (x / 8) up)

  -- a node of the cell's own level is that cell
  pub over_same : (l x : ℕ) → Cell l x → 8 ^ l ≤ over n l x → over n l x ≡ x
  unfolding over
  over_same zero x c = λ h. refl
  over_same (suc l) x c =
      chosen (λ m. 8 ^ suc l ≤ m → m ≡ x) (is_split n l (x / 8)) (λ e h. refl)
      (λ e h. absurd (omega (arith, over_le l (x / 8), c.high, pow-suc 8 l, eight_pos l)))

  -- where it is the root, its place is the root's
  pub root_place : (l x : ℕ) → Cell l x → over n l x < 8 → place_over n l x ≡ 0
  unfolding place_over
  root_place zero x c h = refl
  root_place (suc l) x c h =
      let up : Cell l (x / 8) = record { low = omega (arith, c.low, pow-suc 8 l); high = omega (arith, c.high, pow-suc 8 l) } in
      chosen (λ p. p ≡ 0) (is_split n l (x / 8)) (λ e. absurd (omega (arith, over_next l x e, c.low, pow-suc 8 l, eight_pos l)))
      (λ e. root_place l (x / 8) up (omega (arith, over_next l x e)))

  -- where a step leads to
  pub steps_in : (p k : ℕ) → steps n p k ≡ true → (first_at n p % 8 ≡ 1) × (first_at n p + 7 < length n.keys) × (get_or n.keys (first_at n p) 0 ≡ 8 * k)
  unfolding steps
  steps_in p k e = leads_in n.keys (first_at n p) (8 * k) e

  -- where it isn't the root, its place lies inside, and not where the root's is
  pub over_place : (l x : ℕ) → Cell l x → 8 ≤ over n l x → (0 < place_over n l x) × (place_over n l x < length n.keys)
  unfolding over place_over
  over_place zero x c h = absurd (omega (arith, c.high))
  over_place (suc l) x c h =
      let up : Cell l (x / 8) = record { low = omega (arith, c.low, pow-suc 8 l); high = omega (arith, c.high, pow-suc 8 l) } in
      chosen (λ p. (0 < p) × (p < length n.keys)) (is_split n l (x / 8))
      (λ e. let s = steps_in (reach n l (x / 8)) (x / 8) (split_steps l (x / 8) e) in (omega (arith, reach_down l x, s.0), omega (arith, reach_down l x, s.1)))
      (λ e. over_place l (x / 8) up (omega (arith, over_next l x e)))

  -- every place that is handed out lies inside, or is the root's
  pub place_inside : (l x : ℕ) → (place_over n l x ≡ 0) ⊎ (place_over n l x < length n.keys)
  unfolding place_over
  place_inside zero x = inl refl
  place_inside (suc l) x =
      chosen (λ p. (p ≡ 0) ⊎ (p < length n.keys)) (is_split n l (x / 8))
      (λ e. inr (omega (arith, reach_down l x, (steps_in (reach n l (x / 8)) (x / 8) (split_steps l (x / 8) e)).1))) (λ e. place_inside l (x / 8))

  pub place_le : (l x : ℕ) → place_over n l x ≤ length n.keys
  place_le l x = ⊎_elim (λ z. omega arith) (λ h. omega arith) (place_inside l x)

  -- and it is that of a first child, or of one of the eight from there on
  pub place_near : ((i : ℕ) → get_or n.firsts i 0 < 2 ^ 16) → (l x : ℕ) → place_over n l x < 2 ^ 16 + 7
  unfolding place_over first_at
  place_near k zero x = omega arith
  place_near k (suc l) x =
      chosen (λ p. p < 2 ^ 16 + 7) (is_split n l (x / 8)) (λ e. omega (arith, reach_down l x, k (reach n l (x / 8)))) (λ e. place_near k l (x / 8))

-- ---- in a sound tree

module _ (t : Tree) (S : Sound t) where
  abbrev nodes : Nodes
  nodes = nodes_of t.keys t.firsts

  -- from place 1 on cells stand by eights
  pub by_eights : (p : ℕ) → suc p < length t.keys → get_or t.keys (suc p) 0 % 8 ≡ p % 8
  by_eights zero h =
      let q = beside t S 1 (omega arith) h 0 (omega arith) in
      ⊎_elim
      (λ low. let z : q.place ≡ 0 = omega arith in absurd (omega (arith, q.here, S.first.here, ap (λ (j : ℕ). get_or t.keys j 0) z)))
      (λ up. omega (arith, q.here, up≤ t.keys S.ascending 1 q.place up q.inside))
      (order q.place 1)
  by_eights (suc p) h =
      ⊎_elim
      (λ more.
      let q = beside t S (suc p) (omega arith) (omega arith) (get_or t.keys (suc p) 0 % 8 + 1) (omega arith) in
      let l : suc p < q.place = up_back t.keys S.ascending (suc p) q.place (omega arith) (omega (arith, q.here)) in
      let r : suc (suc p) ≤ q.place = omega arith in
      omega (arith, by_eights p (omega arith), q.here, S.ascending (suc p) (suc (suc p)) (omega arith) h, up≤ t.keys S.ascending (suc (suc p)) q.place r q.inside))
      (λ last.
      let q = beside t S (suc (suc p)) (omega arith) h 0 (omega arith) in
      ⊎_elim
      (λ low. let l : q.place ≤ suc p = omega arith in
      omega (arith, by_eights p (omega arith), q.here, S.ascending (suc p) (suc (suc p)) (omega arith) h, up≤ t.keys S.ascending q.place (suc p) l (omega arith)))
      (λ up. omega (arith, by_eights p (omega arith), q.here, up≤ t.keys S.ascending (suc (suc p)) q.place up q.inside))
      (order q.place (suc (suc p))))
      (order (get_or t.keys (suc p) 0 % 8) 7)

  -- so a first child stands at place 1, 9, 17 or so on
  pub first_place : (p k : ℕ) → StandsAt t.keys p (8 * k) → p % 8 ≡ 1
  first_place zero k s = absurd (omega (arith, s.here, S.first.here))
  first_place (suc p) k s = omega (arith, s.here, by_eights p s.inside)

  -- where the children of a split node stand
  pub child_at : (p k : ℕ) → StandsAt t.keys p k → In (8 * k) t.keys → (w : ℕ) → w < 8 → StandsAt t.keys (get_or t.firsts p 0 + w) (8 * k + w)
  child_at p k s m =
      ⊎_elim
      (λ f. run_at t.keys S.ascending (8 * k) (get_or t.firsts p 0) 8 f
      (⊎_elim (λ a. a) (λ none. absurd (none 0 (omega arith) (in_cast (omega arith) m))) (S.children k (stands_in s))))
      (λ none. absurd (none.0 0 (omega arith) (in_cast (omega arith) m)))
      (subst (λ (x : ℕ). FirstChild t.keys x (get_or t.firsts p 0)) s.here (S.first_child p s.inside))

  -- a step counts exactly if there are children
  pub steps_decides : (p k : ℕ) → StandsAt t.keys p k → Decides (steps nodes p k) (In (8 * k) t.keys)
  unfolding steps first_at
  steps_decides p k s =
      ⊎_elim
      (λ f.
      let m : In (8 * k) t.keys = stands_in f in
      let r = child_at p k s m 7 (omega arith) in
      let pos : get_or t.firsts p 0 % 8 ≡ 1 = first_place (get_or t.firsts p 0) k f in
      subst (λ (b : Bool). Decides b (In (8 * k) t.keys)) (sym (leads_yes t.keys (get_or t.firsts p 0) (8 * k) pos r.inside f.here)) m)
      (λ none.
      subst (λ (b : Bool). Decides b (In (8 * k) t.keys)) (sym (leads_none t.keys (get_or t.firsts p 0) (8 * k) (λ e. omega (arith, none.1))))
      (λ m. none.0 0 (omega arith) (in_cast (omega arith) m)))
      (subst (λ (x : ℕ). FirstChild t.keys x (get_or t.firsts p 0)) s.here (S.first_child p s.inside))

  -- a node that is there stands where the way down leads, and is split exactly if it has children
  pub record Reached (l x : ℕ) : Type 0 where
    pub stands : StandsAt t.keys (reach nodes l x) x
    pub split : Decides (is_split nodes l x) (In (8 * x) t.keys)

  -- a cell that is there and not the root is a child of a split node
  pub parent_in : (x : ℕ) → In x t.keys → (x ≡ 1 → ⊥) → In (x / 8) t.keys × In (8 * (x / 8)) t.keys
  parent_in x m n = (parent_up t S x m n, in_cast (omega arith) (siblings t S x m n 0 (omega arith)))

  pub reached : (l x : ℕ) → Cell l x → In x t.keys → Reached l x
  unfolding reach is_split first_at
  reached zero x c m =
      let e : 1 ≡ x = omega (arith, c.low, c.high) in
      let s : StandsAt t.keys 0 x = subst (StandsAt t.keys 0) e S.first in
      record { stands = s; split = steps_decides 0 x s }
  reached (suc l) x c m = go (reached l (x / 8) up above.0) (is_split nodes l (x / 8)) refl
    where
      up : Cell l (x / 8)
      up = record { low = omega (arith, c.low, pow-suc 8 l); high = omega (arith, c.high, pow-suc 8 l) }

      above : In (x / 8) t.keys × In (8 * (x / 8)) t.keys
      above = parent_in x m (λ e. omega (arith, c.low, pow-suc 8 l, eight_pos l))

      go : Reached l (x / 8) → (b : Bool) → is_split nodes l (x / 8) ≡ b → Reached (suc l) x
      go r true e =
          let w : 8 * (x / 8) + x % 8 ≡ x = omega arith in
          let s : StandsAt t.keys (reach nodes (suc l) x) x = subst (StandsAt t.keys (reach nodes (suc l) x)) w (child_at (reach nodes l (x / 8)) (x / 8) r.stands above.1 (x % 8) (omega arith)) in
          record { stands = s; split = subst (λ (b : Bool). Decides b (In (8 * x) t.keys)) (sym (split_below nodes l x e)) (steps_decides (reach nodes (suc l) x) x s) }
      go r false e = absurd (denied (is_split nodes l (x / 8)) _ e r.split above.1)

  -- the last eight are the children of a node
  last_eight : 1 < length t.keys → (p : ℕ) × (p < length t.firsts) × (get_or t.firsts p 0 % 8 ≡ 1) × (get_or t.firsts p 0 + 8 ≡ length t.keys)
  last_eight h =
      let e : ℕ = length t.keys - 1 in
      let x : ℕ = get_or t.keys e 0 in
      let up = parent_in x (in_at t.keys e (omega arith)) (later t S e (omega arith) (omega arith)) in
      let c = child_at up.0.place (x / 8) (in_stands up.0) up.1 in
      let a = c 0 (omega arith) in
      let b = c 7 (omega arith) in
      let f : ℕ = get_or t.firsts up.0.place 0 in
      let first : (f + 0) % 8 ≡ 1 = first_place (f + 0) (x / 8) (record { inside = a.inside; here = omega (arith, a.here) }) in
      let last : e ≤ f + 7 = ⊎_elim (λ l. absurd (omega (arith, S.ascending (f + 7) e l (omega arith), b.here))) (λ l. l) (order (f + 7) e) in
      (up.0.place, omega (arith, up.0.inside, S.as_many_firsts), omega arith, omega (arith, b.inside))

  -- one node and eights
  pub sound_eights : length t.keys % 8 ≡ 1
  sound_eights = ⊎_elim (λ h. omega (arith, last_eight h)) (λ h. omega (arith, S.first.inside)) (order 1 (length t.keys))

  -- no more nodes than entries of 16 bits can point to
  pub sound_few : ((i : ℕ) → i < length t.firsts → get_or t.firsts i 0 < 2 ^ 16) → length t.keys ≤ 65537
  sound_few u =
      ⊎_elim (λ h. let q = last_eight h in omega (arith, q.2, u q.0 q.1)) (λ h. omega arith) (order 1 (length t.keys))
