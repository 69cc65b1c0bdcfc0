-- How many vertices a list has, settled by the leaves: they are the different numbers that the leaves' corners give. Assumes nothing.
use Prim.Native.Nat.{ℕ, zero, suc, ◌≤◌, ◌<◌}
use mathlib.Core.Path.{◌≡◌, refl, sym, ◌∙◌, ap, subst}
use mathlib.Core.Bool.{Bool, true, false, cond, ◌||◌, false≢true}
use mathlib.Core.Logic.{◌⊎◌, inl, inr, ⊎_elim}
use mathlib.Core.List.{List, [], ◌∷◌}
use native.Mathlib.Omega.{arith}
use native.Mathlib.Decide.{dec_lt, ℕ_discrete}
use lib.Dec.{eqb, ltb}
use lib.ListN.{length}
use borrow.Author.Tests.{ltb-true, ltb-false, eqb-true, eqb-false}
use Rattle.tree.specs.Tree.{In}
use Rattle.tree.proofs.Lists.{in_cast, in_none, in_head, in_tail, in_cases, in_left, in_right, in_append, has, has_true, has_false, Asc, asc_at, ascending_unique}
use Rattle.geometry.specs.Listing.{given, Listed}
use Rattle.counting.specs.Vertices.{corners_to, corners_of, among, different, vertex_count}

-- ---- the different numbers of a list, in order

-- Put into an ascending list at its place.
abbrev placed : ℕ → List ℕ → List ℕ
placed v [] = v ∷ []
placed v (u ∷ us) = cond (ltb v u) (v ∷ u ∷ us) (u ∷ placed v us)

placed_length : (v : ℕ) (us : List ℕ) → length (placed v us) ≡ suc (length us)
placed_length v [] = refl
placed_length v (u ∷ us) = go (ltb v u) (placed_length v us)
  where
    go : (b : Bool) → length (placed v us) ≡ suc (length us) → length (cond b (v ∷ u ∷ us) (u ∷ placed v us)) ≡ suc (suc (length us))
    go true e = refl
    go false e = ap suc e

placed_in : (x v : ℕ) (us : List ℕ) → In x (placed v us) → (x ≡ v) ⊎ In x us
placed_in x v [] m = in_cases m
placed_in x v (u ∷ us) m = go (ltb v u) (placed_in x v us) m
  where
    go : (b : Bool) → (In x (placed v us) → (x ≡ v) ⊎ In x us) → In x (cond b (v ∷ u ∷ us) (u ∷ placed v us)) → (x ≡ v) ⊎ In x (u ∷ us)
    go true r m = in_cases m
    go false r m = ⊎_elim (λ e. inr (in_head e)) (λ i. ⊎_elim (λ e. inl e) (λ j. inr (in_tail j)) (r i)) (in_cases m)

in_placed : (x v : ℕ) (us : List ℕ) → (x ≡ v) ⊎ In x us → In x (placed v us)
in_placed x v [] m = ⊎_elim (λ e. in_head e) (λ i. absurd (in_none i)) m
in_placed x v (u ∷ us) m = go (ltb v u) (in_placed x v us)
  where
    go : (b : Bool) → ((x ≡ v) ⊎ In x us → In x (placed v us)) → In x (cond b (v ∷ u ∷ us) (u ∷ placed v us))
    go true r = ⊎_elim (λ e. in_head e) (λ i. in_tail i) m
    go false r = ⊎_elim (λ e. in_tail (r (inl e))) (λ i. ⊎_elim (λ e. in_head e) (λ j. in_tail (r (inr j))) (in_cases i)) m

placed_asc : (b v : ℕ) (us : List ℕ) → b ≤ v → (In v us → ⊥) → Asc b us → Asc b (placed v us)
placed_asc b v [] h n a = (h, tt)
placed_asc b v (u ∷ us) h n a = go (ltb v u) refl (placed_asc (suc u) v us)
  where
    go : (c : Bool) → ltb v u ≡ c → (suc u ≤ v → (In v us → ⊥) → Asc (suc u) us → Asc (suc u) (placed v us)) → Asc b (cond c (v ∷ u ∷ us) (u ∷ placed v us))
    go true e r = (h, (ltb-true v u e, a.1))
    go false e r = (a.0, r (above (λ q. n (in_head q))) (λ i. n (in_tail i)) a.1)
      where
        above : (v ≡ u → ⊥) → suc u ≤ v
        above q = elim (dec_lt u v) [ yes l ↦ l | no l ↦ absurd (q (omega (arith, ltb-false v u e))) ]

abbrev in_order : List ℕ → List ℕ
in_order [] = []
in_order (v ∷ vs) = cond (eqb v 0 || among v vs) (in_order vs) (placed v (in_order vs))

order_length : (vs : List ℕ) → length (in_order vs) ≡ different vs
unfolding different
order_length [] = refl
order_length (v ∷ vs) = go (eqb v 0 || among v vs) (order_length vs)
  where
    go : (b : Bool) → length (in_order vs) ≡ different vs → length (cond b (in_order vs) (placed v (in_order vs))) ≡ cond b (different vs) (suc (different vs))
    go true e = e
    go false e = placed_length v (in_order vs) ∙ ap suc e

-- ---- its members

among_has : (v : ℕ) (us : List ℕ) → among v us ≡ has us v
unfolding among
among_has v [] = refl
among_has v (u ∷ us) = ap (λ (b : Bool). eqb u v || b) (among_has v us)

-- What is passed over is 0, or stands further on as well.
passed_over : (v : ℕ) (vs : List ℕ) → (eqb v 0 || among v vs) ≡ true → (v ≡ 0) ⊎ In v vs
passed_over v vs e = go (eqb v 0) refl e
  where
    go : (b : Bool) → eqb v 0 ≡ b → (b || among v vs) ≡ true → (v ≡ 0) ⊎ In v vs
    go true q e = inl (eqb-true v 0 q)
    go false q e = inr (has_true v vs (sym (among_has v vs) ∙ e))

taken : (v : ℕ) (vs : List ℕ) → (eqb v 0 || among v vs) ≡ false → (0 < v) × (In v vs → ⊥)
taken v vs e = go (eqb v 0) refl e
  where
    pos : (v ≡ 0 → ⊥) → 0 < v
    pos n = elim (dec_lt 0 v) [ yes l ↦ l | no l ↦ absurd (n (omega arith)) ]

    go : (b : Bool) → eqb v 0 ≡ b → (b || among v vs) ≡ false → (0 < v) × (In v vs → ⊥)
    go true q e = absurd (false≢true (sym e))
    go false q e = (pos (eqb-false v 0 q), has_false v vs (sym (among_has v vs) ∙ e))

order_in : (x : ℕ) (vs : List ℕ) → In x (in_order vs) → In x vs × (0 < x)
order_in x [] m = absurd (in_none m)
order_in x (v ∷ vs) m = go (eqb v 0 || among v vs) refl (order_in x vs) m
  where
    go : (b : Bool) → (eqb v 0 || among v vs) ≡ b → (In x (in_order vs) → In x vs × (0 < x))
        → In x (cond b (in_order vs) (placed v (in_order vs))) → In x (v ∷ vs) × (0 < x)
    go true q r m = (in_tail (r m).0, (r m).1)
    go false q r m =
        ⊎_elim (λ e. (in_head e, omega (arith, (taken v vs q).0, e))) (λ i. (in_tail (r i).0, (r i).1)) (placed_in x v (in_order vs) m)

in_order_lem : (x : ℕ) (vs : List ℕ) → In x vs → 0 < x → In x (in_order vs)
in_order_lem x [] m h = absurd (in_none m)
in_order_lem x (v ∷ vs) m h = go (eqb v 0 || among v vs) refl (λ i. in_order_lem x vs i h)
  where
    go : (b : Bool) → (eqb v 0 || among v vs) ≡ b → (In x vs → In x (in_order vs)) → In x (cond b (in_order vs) (placed v (in_order vs)))
    go true q r =
        ⊎_elim (λ e. ⊎_elim (λ z. absurd (omega (arith, e, z, h))) (λ i. r (in_cast e i)) (passed_over v vs q)) (λ i. r i) (in_cases m)
    go false q r = in_placed x v (in_order vs) (⊎_elim (λ e. inl e) (λ i. inr (r i)) (in_cases m))

order_asc : (vs : List ℕ) → Asc 0 (in_order vs)
order_asc [] = tt
order_asc (v ∷ vs) = go (eqb v 0 || among v vs) refl (order_asc vs)
  where
    go : (b : Bool) → (eqb v 0 || among v vs) ≡ b → Asc 0 (in_order vs) → Asc 0 (cond b (in_order vs) (placed v (in_order vs)))
    go true q a = a
    go false q a = placed_asc 0 v (in_order vs) (omega arith) (λ i. (taken v vs q).1 (order_in v vs i).0) a

-- ---- the corners of leaves

corner_in : (n k w : ℕ) → w < n → In (given k w) (corners_to n k)
unfolding corners_to
corner_in zero k w h = absurd (omega arith)
corner_in (suc n) k w h =
    elim (ℕ_discrete w n) [
      | yes e ↦ in_head (ap (given k) e)
      | no e ↦ in_tail (corner_in n k w (below e))
    ]
  where
    below : (w ≡ n → ⊥) → w < n
    below e = elim (dec_lt w n) [ yes l ↦ l | no l ↦ absurd (e (omega arith)) ]

-- x is given by a corner of a leaf.
record Given (leaves : List ℕ) (x : ℕ) : Type 0 where
  leaf : ℕ
  corner : ℕ
  is_leaf : In leaf leaves
  is_corner : corner < 8
  gives : given leaf corner ≡ x

in_corner : (n k x : ℕ) → In x (corners_to n k) → (w : ℕ) × (w < n) × (given k w ≡ x)
unfolding corners_to
in_corner zero k x m = absurd (in_none m)
in_corner (suc n) k x m =
    ⊎_elim (λ e. (n, omega arith, sym e)) (λ i. let r = in_corner n k x i in (r.0, omega (arith, r.1), r.2)) (in_cases m)

corners_in : (leaves : List ℕ) (k w : ℕ) → In k leaves → w < 8 → In (given k w) (corners_of leaves)
unfolding corners_of
corners_in [] k w m h = absurd (in_none m)
corners_in (l ∷ leaves) k w m h =
    ⊎_elim (λ e. in_left (corners_to 8 l) (corners_of leaves) (subst (λ (c : ℕ). In (given k w) (corners_to 8 c)) e (corner_in 8 k w h)))
    (λ i. in_right (corners_to 8 l) (corners_of leaves) (corners_in leaves k w i h)) (in_cases m)

in_corners : (leaves : List ℕ) (x : ℕ) → In x (corners_of leaves) → Given leaves x
unfolding corners_of
in_corners [] x m = absurd (in_none m)
in_corners (l ∷ leaves) x m =
    ⊎_elim
    (λ i. let r = in_corner 8 l x i in record { leaf = l; corner = r.0; is_leaf = in_head refl; is_corner = r.1; gives = r.2 })
    (λ i. let r = in_corners leaves x i in
    record { leaf = r.leaf; corner = r.corner; is_leaf = in_tail r.is_leaf; is_corner = r.is_corner; gives = r.gives })
    (in_append (corners_to 8 l) (corners_of leaves) m)

-- ---- every list of a tree's vertices has so many

module _ (leaves vs ls : List ℕ) (s : Listed leaves vs ls) where
  listed_given : (x : ℕ) → In x vs → In x (in_order (corners_of leaves))
  listed_given x m =
      let q = s.from m.place m.inside in
      let g = q.1 in
      in_order_lem x (corners_of leaves)
      (in_cast (sym (g.gives ∙ m.here)) (corners_in leaves g.leaf g.corner g.is_leaf g.is_corner))
      (omega (arith, q.0, m.here))

  given_listed : (x : ℕ) → In x (in_order (corners_of leaves)) → In x vs
  given_listed x m =
      let p = order_in x (corners_of leaves) m in
      let g = in_corners leaves x p.0 in
      in_cast (sym g.gives) (s.whole g.leaf g.corner g.is_leaf g.is_corner (omega (arith, g.gives, p.1)))

pub listed_count : (leaves vs ls : List ℕ) → Listed leaves vs ls → length vs ≡ vertex_count leaves
unfolding vertex_count
listed_count leaves vs ls s =
    ap length (ascending_unique vs (in_order (corners_of leaves)) s.ascending (asc_at 0 (in_order (corners_of leaves)) (order_asc (corners_of leaves))) (listed_given leaves vs ls s) (given_listed leaves vs ls s))
    ∙ order_length (corners_of leaves)
