-- How the cells of a build grow, without states and tables. Assumes nothing.
use Prim.Native.Nat.{ℕ, zero, suc, ◌+◌, ◌-◌, ◌*◌, ◌<◌}
use mathlib.Core.Path.{◌≡◌, refl, sym, ◌∙◌, ap, ap₂, subst}
use mathlib.Core.Bool.{Bool, true, false, cond, not, true≢false, false≢true}
use mathlib.Core.Logic.{⊎_elim}
use mathlib.Core.List.{List, [], ◌∷◌, ◌++◌, append_assoc, append-nil, reverse, reverse-cons}
use native.Mathlib.Omega.{arith}
use lib.ListN.{length, get_or, length-append, length-reverse}
use lib.Seq.{get_or-append_seam}
use lib.Ieee.{Float, nan}
use Rattle.morton.specs.Level.{level}
use Rattle.morton.specs.Split.{splits}
use Rattle.tree.specs.Tree.{StandsAt, In, Ascending, Decides}
use Rattle.tree.proofs.Lists.{in_none, in_head, in_tail, in_cases, ascending_place}
use Rattle.demands.specs.Run.{children_from, children, whole_of, children_of}

-- Nodes, leaves and open cells after the distances `given`, the last one first; the next cell to be decided is the first open one. It becomes a node: by
-- the split rule it is left whole and is a leaf too, or it gives its eight children to the end of the open cells.
pub data Grown (bound : ℕ) : List Float → List ℕ → List ℕ → List ℕ → Type 0 where
  root : Grown bound [] [] [] (1 ∷ [])
  kept : {k : ℕ} {d : Float} {given : List Float} {nodes leaves pending : List ℕ}
      → splits (level k) bound d ≡ false → Grown bound given nodes leaves (k ∷ pending)
      → Grown bound (d ∷ given) (nodes ++ (k ∷ [])) (leaves ++ (k ∷ [])) pending
  divided : {k : ℕ} {d : Float} {given : List Float} {nodes leaves pending : List ℕ}
      → splits (level k) bound d ≡ true → Grown bound given nodes leaves (k ∷ pending)
      → Grown bound (d ∷ given) (nodes ++ (k ∷ [])) leaves (pending ++ children k)

-- ---- counts

pub length_children : (k w n : ℕ) → length (children_from k w n) ≡ n
unfolding children_from
length_children k w zero = refl
length_children k w (suc n) = omega (arith, length_children k (suc w) n)

-- all but the root are children, eight of each node that is no leaf
pub grown_count : {bound : ℕ} {given : List Float} {nodes leaves pending : List ℕ} → Grown bound given nodes leaves pending
    → length pending + 8 * length leaves ≡ 7 * length nodes + 1
grown_count root = refl
grown_count (kept {k} {d} {given} {nodes} {leaves} _ g) = omega (arith, grown_count g, length-append nodes (k ∷ []), length-append leaves (k ∷ []))
grown_count (divided {k} {d} {given} {nodes} {leaves} {pending} _ g) =
    omega (arith, grown_count g, length-append nodes (k ∷ []), length-append pending (children k), length_children k 0 8)

pub grown_nodes : {bound : ℕ} {given : List Float} {nodes leaves pending : List ℕ} → Grown bound given nodes leaves pending → length nodes ≡ length given
grown_nodes root = refl
grown_nodes (kept {k} {d} {given} {nodes} _ g) = omega (arith, grown_nodes g, length-append nodes (k ∷ []))
grown_nodes (divided {k} {d} {given} {nodes} _ g) = omega (arith, grown_nodes g, length-append nodes (k ∷ []))

-- ---- the leaves and all cells, by the rule

-- one more cell and its distance
module _ (bound k : ℕ) (d : Float) where
  whole_more : (ks : List ℕ) (ds : List Float) → length ks ≡ length ds
      → whole_of bound (ks ++ (k ∷ [])) (ds ++ (d ∷ [])) ≡ whole_of bound ks ds ++ cond (splits (level k) bound d) [] (k ∷ [])
  unfolding whole_of
  whole_more [] [] e = refl
  whole_more [] (x ∷ ds) e = absurd (omega arith)
  whole_more (j ∷ ks) [] e = absurd (omega arith)
  whole_more (j ∷ ks) (x ∷ ds) e = go (splits (level j) bound x) _ _ _ (whole_more ks ds (omega arith))
    where
      go : (b : Bool) (xs ys zs : List ℕ) → xs ≡ ys ++ zs → cond b xs (j ∷ xs) ≡ cond b ys (j ∷ ys) ++ zs
      go true xs ys zs h = h
      go false xs ys zs h = ap (λ (xs : List ℕ). j ∷ xs) h

  children_more : (ks : List ℕ) (ds : List Float) → length ks ≡ length ds
      → children_of bound (ks ++ (k ∷ [])) (ds ++ (d ∷ [])) ≡ children_of bound ks ds ++ cond (splits (level k) bound d) (children k) []
  unfolding children_of
  children_more [] [] e = ap (λ (xs : List ℕ). cond (splits (level k) bound d) xs []) (append-nil (children k))
  children_more [] (x ∷ ds) e = absurd (omega arith)
  children_more (j ∷ ks) [] e = absurd (omega arith)
  children_more (j ∷ ks) (x ∷ ds) e = go (splits (level j) bound x) _ _ _ (children_more ks ds (omega arith))
    where
      go : (b : Bool) (xs ys zs : List ℕ) → xs ≡ ys ++ zs → cond b (children j ++ xs) xs ≡ cond b (children j ++ ys) ys ++ zs
      go true xs ys zs h = ap (λ (xs : List ℕ). children j ++ xs) h ∙ sym (append_assoc (children j) ys zs)
      go false xs ys zs h = h

-- the same where the distances are listed the last one first
module _ (bound k : ℕ) (d : Float) (given : List Float) (nodes : List ℕ) (e : length nodes ≡ length given) where
  lengths_same : length nodes ≡ length (reverse given)
  lengths_same = e ∙ sym (length-reverse given)

  whole_next : whole_of bound (nodes ++ (k ∷ [])) (reverse (d ∷ given)) ≡ whole_of bound nodes (reverse given) ++ cond (splits (level k) bound d) [] (k ∷ [])
  whole_next = ap (whole_of bound (nodes ++ (k ∷ []))) (reverse-cons d given) ∙ whole_more bound k d nodes (reverse given) lengths_same

  children_next : children_of bound (nodes ++ (k ∷ [])) (reverse (d ∷ given)) ≡ children_of bound nodes (reverse given) ++ cond (splits (level k) bound d) (children k) []
  children_next = ap (children_of bound (nodes ++ (k ∷ []))) (reverse-cons d given) ∙ children_more bound k d nodes (reverse given) lengths_same

pub grown_leaves : {bound : ℕ} {given : List Float} {nodes leaves pending : List ℕ} → Grown bound given nodes leaves pending
    → leaves ≡ whole_of bound nodes (reverse given)
unfolding whole_of
grown_leaves root = refl
grown_leaves {bound} (kept {k} {d} {given} {nodes} {leaves} e g) =
    ap₂ (λ (xs : List ℕ) (b : Bool). xs ++ cond b [] (k ∷ [])) (grown_leaves g) (sym e) ∙ sym (whole_next bound k d given nodes (grown_nodes g))
grown_leaves {bound} (divided {k} {d} {given} {nodes} {leaves} e g) =
    sym (append-nil leaves)
    ∙ ap₂ (λ (xs : List ℕ) (b : Bool). xs ++ cond b [] (k ∷ [])) (grown_leaves g) (sym e)
    ∙ sym (whole_next bound k d given nodes (grown_nodes g))

pub grown_all : {bound : ℕ} {given : List Float} {nodes leaves pending : List ℕ} → Grown bound given nodes leaves pending
    → nodes ++ pending ≡ 1 ∷ children_of bound nodes (reverse given)
unfolding children_of
grown_all root = refl
grown_all {bound} (kept {k} {d} {given} {nodes} {leaves} {pending} e g) =
    append_assoc nodes (k ∷ []) pending
    ∙ grown_all g
    ∙ ap (λ (xs : List ℕ). 1 ∷ xs) (sym (append-nil (children_of bound nodes (reverse given))))
    ∙ ap (λ (b : Bool). 1 ∷ (children_of bound nodes (reverse given) ++ cond b (children k) [])) (sym e)
    ∙ ap (λ (xs : List ℕ). 1 ∷ xs) (sym (children_next bound k d given nodes (grown_nodes g)))
grown_all {bound} (divided {k} {d} {given} {nodes} {leaves} {pending} e g) =
    let turned : (nodes ++ (k ∷ [])) ++ (pending ++ children k) ≡ (nodes ++ (k ∷ pending)) ++ children k = simp append_assoc in
    turned
    ∙ ap (λ (xs : List ℕ). xs ++ children k) (grown_all g)
    ∙ ap (λ (b : Bool). 1 ∷ (children_of bound nodes (reverse given) ++ cond b (children k) [])) (sym e)
    ∙ ap (λ (xs : List ℕ). 1 ∷ xs) (sym (children_next bound k d given nodes (grown_nodes g)))

-- ---- one of the cells

-- one that is left whole is there, with its distance
pub whole_into : (bound : ℕ) (ks : List ℕ) (ds : List Float) → length ks ≡ length ds → (i : ℕ) → i < length ks → splits (level (get_or ks i 0)) bound (get_or ds i nan) ≡ false
    → In (get_or ks i 0) (whole_of bound ks ds)
unfolding whole_of
whole_into bound [] ds e i l f = absurd (omega arith)
whole_into bound (k ∷ ks) [] e i l f = absurd (omega arith)
whole_into bound (k ∷ ks) (d ∷ ds) e zero l f = rw f (in_head refl)
whole_into bound (k ∷ ks) (d ∷ ds) e (suc i) l f = go (splits (level k) bound d) (whole_into bound ks ds (omega arith) i (omega arith) f)
  where
    go : (b : Bool) → In (get_or ks i 0) (whole_of bound ks ds) → In (get_or ks i 0) (cond b (whole_of bound ks ds) (k ∷ whole_of bound ks ds))
    go true m = m
    go false m = in_tail m

-- and what is there was left whole
record WholeAt (bound k : ℕ) (ks : List ℕ) (ds : List Float) : Type 0 where
  place : ℕ
  inside : place < length ks
  here : get_or ks place 0 ≡ k
  whole : splits (level (get_or ks place 0)) bound (get_or ds place nan) ≡ false

whole_from : (bound k : ℕ) (ks : List ℕ) (ds : List Float) → In k (whole_of bound ks ds) → WholeAt bound k ks ds
unfolding whole_of
whole_from bound k [] ds m = absurd (in_none m)
whole_from bound k (j ∷ ks) [] m = absurd (in_none m)
whole_from bound k (j ∷ ks) (d ∷ ds) m = go (splits (level j) bound d) refl m (λ n. whole_from bound k ks ds n)
  where
    later : WholeAt bound k ks ds → WholeAt bound k (j ∷ ks) (d ∷ ds)
    later w = record { place = suc w.place; inside = omega (arith, w.inside); here = w.here; whole = w.whole }

    go : (b : Bool) → splits (level j) bound d ≡ b → In k (cond b (whole_of bound ks ds) (j ∷ whole_of bound ks ds)) → (In k (whole_of bound ks ds) → WholeAt bound k ks ds)
        → WholeAt bound k (j ∷ ks) (d ∷ ds)
    go true e m h = later (h m)
    go false e m h = ⊎_elim (λ f. record { place = 0; inside = omega arith; here = sym f; whole = e }) (λ n. later (h n)) (in_cases m)

pub whole_exactly : (bound : ℕ) (ks : List ℕ) (ds : List Float) → Ascending ks → length ks ≡ length ds → (i : ℕ) → i < length ks
    → Decides (not (splits (level (get_or ks i 0)) bound (get_or ds i nan))) (In (get_or ks i 0) (whole_of bound ks ds))
whole_exactly bound ks ds up e i l = go (splits (level (get_or ks i 0)) bound (get_or ds i nan)) refl
  where
    go : (b : Bool) → splits (level (get_or ks i 0)) bound (get_or ds i nan) ≡ b → Decides (not b) (In (get_or ks i 0) (whole_of bound ks ds))
    go false f = whole_into bound ks ds e i l f
    go true f = λ m.
        let w = whole_from bound (get_or ks i 0) ks ds m in
        let same : w.place ≡ i = ascending_place ks up w.place i w.inside l w.here in
        true≢false (sym f ∙ ap (λ (j : ℕ). splits (level (get_or ks j 0)) bound (get_or ds j nan)) (sym same) ∙ w.whole)

-- ---- first children

-- The place of the first child of each cell that is split, where all their children stand from a place on; 0 for one that is left whole.
unfoldable pub firsts_of : ℕ → ℕ → List ℕ → List Float → List ℕ
firsts_of bound place [] ds = []
firsts_of bound place (k ∷ ks) [] = []
firsts_of bound place (k ∷ ks) (d ∷ ds) = cond (splits (level k) bound d) (place ∷ firsts_of bound (place + 8) ks ds) (0 ∷ firsts_of bound place ks ds)

-- one more cell and its distance
module _ (bound k : ℕ) (d : Float) where
  -- its place is behind the children so far
  first_after : ℕ → List ℕ → List Float → ℕ
  first_after place ks ds = cond (splits (level k) bound d) (place + length (children_of bound ks ds)) 0

  firsts_more : (place : ℕ) (ks : List ℕ) (ds : List Float) → length ks ≡ length ds
      → firsts_of bound place (ks ++ (k ∷ [])) (ds ++ (d ∷ [])) ≡ firsts_of bound place ks ds ++ (first_after place ks ds ∷ [])
  unfolding firsts_of children_of first_after
  firsts_more place [] [] e = go (splits (level k) bound d)
    where
      go : (b : Bool) → cond b (place ∷ []) (0 ∷ []) ≡ cond b (place + 0) 0 ∷ []
      go true = ap (λ (n : ℕ). n ∷ []) (omega arith)
      go false = refl
  firsts_more place [] (x ∷ ds) e = absurd (omega arith)
  firsts_more place (j ∷ ks) [] e = absurd (omega arith)
  firsts_more place (j ∷ ks) (x ∷ ds) e = go (splits (level j) bound x) (λ p. firsts_more p ks ds (omega arith))
    where
      go : (b : Bool)
          → ((p : ℕ) → firsts_of bound p (ks ++ (k ∷ [])) (ds ++ (d ∷ [])) ≡ firsts_of bound p ks ds ++ (cond (splits (level k) bound d) (p + length (children_of bound ks ds)) 0 ∷ []))
          → cond b (place ∷ firsts_of bound (place + 8) (ks ++ (k ∷ [])) (ds ++ (d ∷ []))) (0 ∷ firsts_of bound place (ks ++ (k ∷ [])) (ds ++ (d ∷ [])))
          ≡ cond b (place ∷ firsts_of bound (place + 8) ks ds) (0 ∷ firsts_of bound place ks ds)
          ++ (cond (splits (level k) bound d) (place + length (cond b (children j ++ children_of bound ks ds) (children_of bound ks ds))) 0 ∷ [])
      go true h =
          let n : place + 8 + length (children_of bound ks ds) ≡ place + length (children j ++ children_of bound ks ds) =
          omega (arith, length-append (children j) (children_of bound ks ds), length_children j 0 8) in
          ap (λ (xs : List ℕ). place ∷ xs) (h (place + 8))
          ∙ ap (λ (n : ℕ). (place ∷ firsts_of bound (place + 8) ks ds) ++ (cond (splits (level k) bound d) n 0 ∷ [])) n
      go false h = ap (λ (xs : List ℕ). 0 ∷ xs) (h place)

child_first : (k : ℕ) (before after : List ℕ) → get_or (before ++ (children k ++ after)) (length before) 0 ≡ 8 * k
unfolding children_from
child_first k before after = get_or-append_seam before (8 * k + 0) (children_from k 1 7 ++ after) 0 ∙ omega arith

-- at the place of a split cell its first child stands
pub first_stands : (bound : ℕ) (before ks : List ℕ) (ds : List Float) → length ks ≡ length ds → (i place : ℕ) → i < length ks → length before ≡ place
    → splits (level (get_or ks i 0)) bound (get_or ds i nan) ≡ true
    → StandsAt (before ++ children_of bound ks ds) (get_or (firsts_of bound place ks ds) i 0) (8 * get_or ks i 0)
unfolding firsts_of children_of
first_stands bound before [] ds e i place l b f = absurd (omega arith)
first_stands bound before (k ∷ ks) [] e i place l b f = absurd (omega arith)
first_stands bound before (k ∷ ks) (d ∷ ds) e zero place l b f =
    rw f record {
      inside = omega (arith, length-append before (children k ++ children_of bound ks ds), length-append (children k) (children_of bound ks ds), length_children k 0 8);
      here =
          ap (λ (n : ℕ). get_or (before ++ (children k ++ children_of bound ks ds)) n 0) (sym b) ∙ child_first k before (children_of bound ks ds);
    }
first_stands bound before (k ∷ ks) (d ∷ ds) e (suc i) place l b f =
    go (splits (level k) bound d) (λ xs n m. first_stands bound xs ks ds (omega arith) i n (omega arith) m f)
  where
    go : (r : Bool)
        → ((xs : List ℕ) (n : ℕ) → length xs ≡ n → StandsAt (xs ++ children_of bound ks ds) (get_or (firsts_of bound n ks ds) i 0) (8 * get_or ks i 0))
        → StandsAt (before ++ cond r (children k ++ children_of bound ks ds) (children_of bound ks ds))
        (get_or (cond r (place ∷ firsts_of bound (place + 8) ks ds) (0 ∷ firsts_of bound place ks ds)) (suc i) 0) (8 * get_or ks i 0)
    go true h =
        subst (λ (xs : List ℕ). StandsAt xs (get_or (firsts_of bound (place + 8) ks ds) i 0) (8 * get_or ks i 0)) (append_assoc before (children k) (children_of bound ks ds))
        (h (before ++ children k) (place + 8) (omega (arith, length-append before (children k), length_children k 0 8)))
    go false h = h before place b

-- and that of one that is left whole is 0
pub first_none : (bound : ℕ) (ks : List ℕ) (ds : List Float) (i place : ℕ) → splits (level (get_or ks i 0)) bound (get_or ds i nan) ≡ false → get_or (firsts_of bound place ks ds) i 0 ≡ 0
unfolding firsts_of
first_none bound [] ds i place f = refl
first_none bound (k ∷ ks) [] i place f = refl
first_none bound (k ∷ ks) (d ∷ ds) zero place f = rw f refl
first_none bound (k ∷ ks) (d ∷ ds) (suc i) place f = go (splits (level k) bound d) (λ n. first_none bound ks ds i n f)
  where
    go : (r : Bool) → ((n : ℕ) → get_or (firsts_of bound n ks ds) i 0 ≡ 0)
        → get_or (cond r (place ∷ firsts_of bound (place + 8) ks ds) (0 ∷ firsts_of bound place ks ds)) (suc i) 0 ≡ 0
    go true h = h (place + 8)
    go false h = h place

-- the children so far, eight of each node that is no leaf
children_count : {bound : ℕ} {given : List Float} {nodes leaves pending : List ℕ} → Grown bound given nodes leaves pending
    → length (children_of bound nodes (reverse given)) ≡ 8 * (length nodes - length leaves)
children_count {bound} {given} {nodes} {leaves} {pending} g = omega (arith, grown_count g, length-append nodes pending, ap length (grown_all g))

pub firsts_next : {bound : ℕ} {given : List Float} {nodes leaves pending : List ℕ} (k : ℕ) (d : Float) → Grown bound given nodes leaves pending
    → firsts_of bound 1 (nodes ++ (k ∷ [])) (reverse (d ∷ given))
    ≡ firsts_of bound 1 nodes (reverse given) ++ (cond (splits (level k) bound d) (8 * (length nodes - length leaves) + 1) 0 ∷ [])
unfolding first_after
firsts_next {bound} {given} {nodes} {leaves} k d g =
    let n : 1 + length (children_of bound nodes (reverse given)) ≡ 8 * (length nodes - length leaves) + 1 = omega (arith, children_count g) in
    ap (firsts_of bound 1 (nodes ++ (k ∷ []))) (reverse-cons d given)
    ∙ firsts_more bound k d 1 nodes (reverse given) (grown_nodes g ∙ sym (length-reverse given))
    ∙ ap (λ (n : ℕ). firsts_of bound 1 nodes (reverse given) ++ (cond (splits (level k) bound d) n 0 ∷ [])) n

-- ---- one growth for the same distances

pub grown_one : {bound : ℕ} {given : List Float} {nodes leaves pending nodes' leaves' pending' : List ℕ}
    → Grown bound given nodes leaves pending → Grown bound given nodes' leaves' pending' → (nodes ≡ nodes') × (leaves ≡ leaves') × (pending ≡ pending')
grown_one root root = (refl, refl, refl)
grown_one (kept {k = j} _ g) (kept {k = k} _ g') =
    let (n, m, p) = grown_one g g' in
    let e : j ≡ k = cc in
    (ap₂ (λ (xs : List ℕ) (i : ℕ). xs ++ (i ∷ [])) n e, ap₂ (λ (xs : List ℕ) (i : ℕ). xs ++ (i ∷ [])) m e, cc)
grown_one {bound} (kept {k = j} {d = d} y g) (divided {k = k} z g') =
    let (n, m, p) = grown_one g g' in
    let e : j ≡ k = cc in
    absurd (false≢true (sym y ∙ ap (λ (i : ℕ). splits (level i) bound d) e ∙ z))
grown_one {bound} (divided {k = j} {d = d} y g) (kept {k = k} z g') =
    let (n, m, p) = grown_one g g' in
    let e : j ≡ k = cc in
    absurd (false≢true (sym z ∙ ap (λ (i : ℕ). splits (level i) bound d) (sym e) ∙ y))
grown_one (divided {k = j} {pending = ps} _ g) (divided {k = k} {pending = qs} _ g') =
    let (n, m, p) = grown_one g g' in
    let e : j ≡ k = cc in
    let r : ps ≡ qs = cc in
    (ap₂ (λ (xs : List ℕ) (i : ℕ). xs ++ (i ∷ [])) n e, m, ap₂ (λ (xs : List ℕ) (i : ℕ). xs ++ children i) r e)
