-- The eight entries of a dual cell, filled one after another, and that in a sound tree they are its dual cell. Assumes nothing.
use Prim.Native.Nat.{ℕ, zero, suc, ◌+◌, ◌-◌, ◌*◌, ◌/◌, ◌^◌, ◌≤◌, ◌<◌}
use mathlib.Core.Path.{◌≡◌, refl, sym, ◌∙◌, ap, subst, subst₂}
use mathlib.Core.Bool.{true, true≢false}
use mathlib.Core.Logic.{◌⊎◌, inl, inr, ⊎_elim}
use mathlib.Core.List.{List}
use native.Mathlib.Omega.{arith}
use native.Mathlib.Decide.{dec_lt}
use lib.Arith.{lt_of_le-ne}
use borrow.Author.Tests.{le-leb, lt-leb}
use lib.Ieee.{Float, nan}
use lib.ListN.{length, get_or, get_or-replicate, set, length-set}
use lib.Seq.{get_or-set_same, get_or-set_other, ext_get_or}
use Rattle.morton.specs.Field.{sub}
use Rattle.morton.specs.Level.{deepest, Cell, level, is_cell}
use Rattle.morton.specs.Vertex.{is_inner, side_of}
use Rattle.morton.proofs.Levels.{is_cell_lem, cell_level, cell_is}
use Rattle.morton.proofs.Vertices.{inner_level, up_pow}
use Rattle.tree.specs.declared.Lookup.{Lookup}
use Rattle.tree.specs.declared.Lookup.TheVariants.{Found, Nothing}
use Rattle.tree.specs.Tree.{Tree, Sound}
use Rattle.tree.specs.Down.{Nodes, over, place_over}
use Rattle.tree.specs.Climb.{Deepest, LookupSays, tried_in, down_of, trusting_of}
use Rattle.tree.proofs.Down.{root_place, over_place}
use Rattle.tree.proofs.Finding.{nodes, trusting_lookup, always_found}
use Rattle.tree.proofs.Lists.{order, decided}
use Rattle.geometry.proofs.Place.{side_cell, side_on_grid}
use Rattle.geometry.proofs.Vertex.{inner_strict, inner_grid}
use Rattle.std.specs.Prelude.{Result, Ok, Err}
use Rattle.refusals.specs.declared.Refusal.{Refusal}
use Rattle.geometry.specs.Grid.{sum}
use Rattle.dual.specs.Dual.{tried_to, no_keys, no_distances, no_places, DualCell, DualSays, AroundSays, TrustingSays, key_in, distance_in, place_in, lookup_at, Around, EntrySays}

-- ---- filling

-- the first n entries are filled
pub record Filled (ns : Nodes) (ds : List Float) (q n : ℕ) (keys : List ℕ) (distances : List Float) (places : List ℕ) (tried : ℕ) : Type 0 where
  pub eight_keys : length keys ≡ 8
  pub eight_distances : length distances ≡ 8
  pub eight_places : length places ≡ 8
  pub key : (i : ℕ) → i < n → get_or keys i 0 ≡ key_in (lookup_at ns ds q i)
  pub distance : (i : ℕ) → i < n → get_or distances i nan ≡ distance_in (lookup_at ns ds q i)
  pub place : (i : ℕ) → i < n → get_or places i 0 ≡ place_in (lookup_at ns ds q i)
  pub count : tried ≡ sum (λ i. tried_in (lookup_at ns ds q i)) n

-- one more place of a list
set_more : {A : Type 0} (xs : List A) (none : A) (n : ℕ) (x : A) (f : ℕ → A) → n < length xs → x ≡ f n → ((i : ℕ) → i < n → get_or xs i none ≡ f i)
    → (i : ℕ) → i < n + 1 → get_or (set xs n x) i none ≡ f i
set_more xs none n x f h e before i l =
    elim (dec_lt i n) [
      | yes k ↦ get_or-set_other xs n i x none (λ q. omega arith) ∙ before i k
      | no k ↦ let q : n ≡ i = omega arith in subst (λ (j : ℕ). get_or (set xs n x) j none ≡ f j) q (get_or-set_same xs n x none h ∙ e)
    ]

module _ (ns : Nodes) (ds : List Float) (q : ℕ) where
  pub filled_none : (keys : List ℕ) (distances : List Float) (places : List ℕ) → length keys ≡ 8 → length distances ≡ 8 → length places ≡ 8
      → Filled ns ds q 0 keys distances places 0
  unfolding sum
  filled_none keys distances places k d p =
      record {
        eight_keys = k;
        eight_distances = d;
        eight_places = p;
        key = λ i h. absurd (omega arith);
        distance = λ i h. absurd (omega arith);
        place = λ i h. absurd (omega arith);
        count = refl;
      }

  pub filled_more : (n : ℕ) (keys : List ℕ) (distances : List Float) (places : List ℕ) (tried k : ℕ) (d : Float) (p m : ℕ)
      → n < 8 → Filled ns ds q n keys distances places tried → EntrySays (lookup_at ns ds q n) k d p m
      → Filled ns ds q (n + 1) (set keys n k) (set distances n d) (set places n p) (tried + m)
  unfolding sum
  filled_more n keys distances places tried k d p m h f e =
      record {
        eight_keys = length-set keys n k ∙ f.eight_keys;
        eight_distances = length-set distances n d ∙ f.eight_distances;
        eight_places = length-set places n p ∙ f.eight_places;
        key = set_more keys 0 n k (λ i. key_in (lookup_at ns ds q i)) (omega (arith, f.eight_keys)) e.its_key f.key;
        distance = set_more distances nan n d (λ i. distance_in (lookup_at ns ds q i)) (omega (arith, f.eight_distances)) e.its_distance f.distance;
        place = set_more places 0 n p (λ i. place_in (lookup_at ns ds q i)) (omega (arith, f.eight_places)) e.its_place f.place;
        count = let s : n + 1 ≡ suc n = omega arith in rw s (omega (arith, f.count, e.its_tried));
      }

  pub filled_all : (n : ℕ) (keys : List ℕ) (distances : List Float) (places : List ℕ) (tried : ℕ) → 8 ≤ n → n ≤ 8 → Filled ns ds q n keys distances places tried → Around ns ds q keys distances places tried
  filled_all n keys distances places tried h l f =
      let e : n ≡ 8 = omega arith in
      record {
        eight_keys = f.eight_keys;
        eight_distances = f.eight_distances;
        eight_places = f.eight_places;
        key = λ i g. f.key i (omega arith);
        distance = λ i g. f.distance i (omega arith);
        place = λ i g. f.place i (omega arith);
        count = f.count ∙ ap (sum (λ i. tried_in (lookup_at ns ds q i))) e;
      }

  -- all eight can be
  abbrev AnyFilled : ℕ → Type 0
  AnyFilled n = (keys : List ℕ) × (distances : List Float) × (places : List ℕ) × (tried : ℕ) × Filled ns ds q n keys distances places tried

  any_more : (n : ℕ) → n < 8 → AnyFilled n → AnyFilled (suc n)
  any_more n h (keys, distances, places, tried, f) =
      let e : n + 1 ≡ suc n = omega arith in
      subst AnyFilled e (
        _,
        _,
        _,
        _,
        filled_more n keys distances places tried _ _ _ _ h f (record { its_key = refl; its_distance = refl; its_place = refl; its_tried = refl }),
      )

  any_filled : (n : ℕ) → n ≤ 8 → AnyFilled n
  any_filled zero h = (_, _, _, _, filled_none no_keys no_distances no_places refl refl refl)
  any_filled (suc n) h = any_more n (omega arith) (any_filled n (omega arith))

  abbrev pub AnyAround : Type 0
  AnyAround = (keys : List ℕ) × (distances : List Float) × (places : List ℕ) × (tried : ℕ) × Around ns ds q keys distances places tried

  pub any_around : AnyAround
  any_around = go (any_filled 8 (omega arith))
    where
      go : AnyFilled 8 → AnyAround
      go (keys, distances, places, tried, f) = (keys, distances, places, tried, filled_all 8 keys distances places tried (omega arith) (omega arith) f)

-- ---- where a lookup's answer stands

-- it is told by the node over the key: where that is the root, nothing is found
module _ (ns : Nodes) (ds : List Float) (k : ℕ) (c : is_cell k ≡ true) where
  at_root : over ns (level k) k < 8 → (key_in (trusting_of ns ds k) ≡ 0) × (place_in (trusting_of ns ds k) ≡ 0)
  unfolding down_of
  at_root h = rw (c, lt-leb 8 (over ns (level k) k) h) (refl, refl)

  below_root : 8 ≤ over ns (level k) k → place_in (trusting_of ns ds k) ≡ place_over ns (level k) k
  unfolding down_of
  below_root h = rw (c, le-leb 8 (over ns (level k) k) h) refl

  place_is : place_in (trusting_of ns ds k) ≡ place_over ns (level k) k
  place_is =
      ⊎_elim (λ h. (at_root h).1 ∙ sym (root_place ns (level k) k (is_cell_lem k c) h)) below_root (order (over ns (level k) k) 8)

-- what is found stands inside the table, and not where the root does; where nothing is found, key and place are 0
abbrev Inside : Nodes → ℕ → ℕ → Type 0
Inside ns key place = ((key ≡ 0) × (place ≡ 0)) ⊎ ((0 < place) × (place < length ns.keys))

pub look_up_inside : (ns : Nodes) (ds : List Float) (k : ℕ) → Inside ns (key_in (trusting_of ns ds k)) (place_in (trusting_of ns ds k))
look_up_inside ns ds k =
    decided (is_cell k)
    (λ c.
    ⊎_elim (λ h. inl (at_root ns ds k c h))
    (λ h. inr (subst (λ (p : ℕ). (0 < p) × (p < length ns.keys)) (sym (below_root ns ds k c h)) (over_place ns (level k) k (is_cell_lem k c) h)))
    (order (over ns (level k) k) 8))
    (λ c. inl (rw c (refl, refl)))

pub dual_inside : (ns : Nodes) (ds : List Float) (L v : ℕ) (keys : List ℕ) (distances : List Float) (places : List ℕ) (tried : Result ℕ Refusal)
    → TrustingSays ns ds L v keys distances places tried → (i : ℕ) → i < 8 → Inside ns (get_or keys i 0) (get_or places i 0)
dual_inside ns ds L v keys distances places (Ok n) (_, _, a) i h =
    subst₂ (Inside ns) (sym (a.key i h)) (sym (a.place i h)) (look_up_inside ns ds (sub (v / 8 ^ (deepest - L)) i))
dual_inside ns ds L v keys distances places (Err k) (keys_cleared, _, places_cleared, _, _) i h =
    inl (ap (λ (xs : List ℕ). get_or xs i 0) keys_cleared ∙ get_or-replicate 8 i 0 0 h, ap (λ (xs : List ℕ). get_or xs i 0) places_cleared ∙ get_or-replicate 8 i 0 0 h)

-- ---- the dual cell

pub sum_ext : (f g : ℕ → ℕ) (n : ℕ) → ((i : ℕ) → i < n → f i ≡ g i) → sum f n ≡ sum g n
unfolding sum
sum_ext f g zero h = refl
sum_ext f g (suc n) h = omega (arith, sum_ext f g n (λ i l. h i (omega arith)), h n (omega arith))

module _ (L v : ℕ) (word : v < 2 ^ 64) (inner : is_inner L v ≡ true) where
  side_at : (i : ℕ) → i < 8 → Cell L (side_of L v i)
  side_at i h =
      let l = inner_level L v inner in
      subst (Cell L) (sym (side_on_grid L v i (omega arith) h (inner_strict L v word inner) (inner_grid L v word inner))) (side_cell L v i)

  level_side : (i : ℕ) → i < 8 → level (side_of L v i) ≡ L
  level_side i h = let l = inner_level L v inner in cell_level L (side_of L v i) (omega arith) (side_at i h)

  -- so the places of the nodes over the eight sides are those of an answer, on any tables
  pub answer_at : (ns : Nodes) (ds : List Float) (places : List ℕ) → (length ns.keys ≡ 1 → ⊥) → length places ≡ 8
      → ((i : ℕ) → i < 8 → get_or places i 0 ≡ place_over ns L (side_of L v i))
      → (keys : List ℕ) × (distances : List Float) × (tried : ℕ) × TrustingSays ns ds L v keys distances places (Ok tried)
  answer_at ns ds places alone eight at = go (any_around ns ds (v / 8 ^ (deepest - L)))
    where
      same : (i : ℕ) → i < 8 → place_in (lookup_at ns ds (v / 8 ^ (deepest - L)) i) ≡ get_or places i 0
      same i h =
          let l = inner_level L v inner in
          place_is ns ds (side_of L v i) (cell_is L (side_of L v i) (omega arith) (side_at i h)) ∙ ap (λ (m : ℕ). place_over ns m (side_of L v i)) (level_side i h) ∙ sym (at i h)

      go : AnyAround ns ds (v / 8 ^ (deepest - L))
          → (keys : List ℕ) × (distances : List Float) × (tried : ℕ) × TrustingSays ns ds L v keys distances places (Ok tried)
      go (keys, distances, those, tried, a) =
          let e : those ≡ places =
          ext_get_or 0 those places (a.eight_places ∙ sym eight) (λ i h. let l : i < 8 = omega (arith, a.eight_places) in a.place i l ∙ same i l) in
          (keys, distances, tried, (inner, alone, subst (λ (ps : List ℕ). Around ns ds (v / 8 ^ (deepest - L)) keys distances ps tried) e a))

module _ (t : Tree) (S : Sound t) (L v : ℕ) (word : v < 2 ^ 64) (inner : is_inner L v ≡ true) (more : 1 < length t.keys) where
  -- what is found on side i
  pub record FoundAt (i : ℕ) (answer : Result Lookup Refusal) : Type 0 where
    pub deepest_is : Deepest t (side_of L v i) (key_in answer) (distance_in answer) (place_in answer) (tried_in answer)
    pub tried_is : tried_in answer ≡ tried_to L (key_in answer)

  found_at : (i : ℕ) → i < 8 → FoundAt i (lookup_at (nodes t) t.distances (v / 8 ^ (deepest - L)) i)
  found_at i h = go (lookup_at (nodes t) t.distances (v / 8 ^ (deepest - L)) i) (trusting_lookup t S (side_of L v i))
    where
      go : (r : Result Lookup Refusal) → LookupSays t (side_of L v i) r → FoundAt i r
      go (Ok (Found k d p n)) (_, _, D) = record { deepest_is = D; tried_is = omega (arith, D.count, level_side L v word inner i h) }
      go (Ok (Nothing n)) (_, _, none, _) =
          let l = inner_level L v inner in
          absurd (always_found t S more (side_of L v i) (subst (λ (x : ℕ). Cell x (side_of L v i)) (sym (level_side L v word inner i h)) (side_at L v word inner i h)) (omega (arith, level_side L v word inner i h)) none)
      go (Err n) r =
          let l = inner_level L v inner in
          absurd (⊎_elim (λ z. z.0 S) (λ z. true≢false (sym (cell_is L (side_of L v i) (omega arith) (side_at L v word inner i h)) ∙ z.1)) r)

  pub around_dual : (keys : List ℕ) (distances : List Float) (places : List ℕ) (tried : ℕ) → Around (nodes t) t.distances (v / 8 ^ (deepest - L)) keys distances places tried → DualCell t L v keys distances places tried
  around_dual keys distances places tried a =
      record {
        eight_keys = a.eight_keys;
        eight_distances = a.eight_distances;
        eight_places = a.eight_places;
        entry = λ i h.
            subst (λ (p : ℕ). Deepest t (side_of L v i) (get_or keys i 0) (get_or distances i nan) p (tried_to L (get_or keys i 0))) (sym (a.place i h))
            (rw (a.key i h, a.distance i h, ← (found_at i h).tried_is) (found_at i h).deepest_is);
        count = a.count ∙ sum_ext (λ i. tried_in (lookup_at (nodes t) t.distances (v / 8 ^ (deepest - L)) i)) (λ i. tried_to L (get_or keys i 0)) 8
            (λ i h. (found_at i h).tried_is ∙ ap (tried_to L) (sym (a.key i h)));
      }

-- ---- what the calls answer

module _ (ns : Nodes) (ds : List Float) (L v : ℕ) (keys : List ℕ) (distances : List Float) (places : List ℕ) where
  pub trusting_answers : (q : ℕ) (tried : Result ℕ Refusal) → is_inner L v ≡ true → (length ns.keys ≡ 1 → ⊥) → q ≡ v / 2 ^ (63 - L * 3)
      → AroundSays ns ds q keys distances places tried → TrustingSays ns ds L v keys distances places tried
  trusting_answers q (Ok n) inner alone e a =
      let l = inner_level L v inner in
      (inner, alone, subst (λ (x : ℕ). Around ns ds x keys distances places n) (e ∙ ap (λ (x : ℕ). v / x) (up_pow L (omega arith))) a)
  trusting_answers q (Err k) inner alone e a = absurd a

-- of a sound tree that is its dual cell, refused or not; a vertex is a number of 64 bits
pub trusting_dual : (t : Tree) → Sound t → (L v : ℕ) → v < 2 ^ 64 → (keys : List ℕ) (distances : List Float) (places : List ℕ) (tried : Result ℕ Refusal)
    → TrustingSays (nodes t) t.distances L v keys distances places tried → DualSays t L v keys distances places tried
trusting_dual t S L v word keys distances places (Ok n) (inner, alone, a) =
    let more : 1 < length t.keys = omega (arith, S.first.inside, lt_of_le-ne S.first.inside (λ (z : 1 ≡ length t.keys). alone (sym z))) in
    (S, inner, more, around_dual t S L v word inner more keys distances places n a)
trusting_dual t S L v word keys distances places (Err k) (keys_cleared, distances_cleared, places_cleared, why, four) = (keys_cleared, distances_cleared, places_cleared, inr (S, why, four))
