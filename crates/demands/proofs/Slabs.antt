-- What is told of the slabs that cells reach: specs/Slabs.antt, proved. Assumes nothing.
use Prim.Native.Nat.{ℕ, zero, suc, ◌+◌, ◌-◌, ◌*◌, ◌/◌, ◌%◌, ◌^◌, ◌≤◌, ◌<◌}
use mathlib.Core.Path.{◌≡◌, refl, sym, ◌∙◌, ap, ap₂, subst, subst₂}
use mathlib.Core.Bool.{true, true≢false}
use mathlib.Core.Logic.{inl, inr, ⊎_elim}
use mathlib.Core.List.{List}
use native.Mathlib.Nat.{mul_assoc, mul_comm, mul_right_comm, mul-le-mul_right, mul-div_cancel, div-add-mod', mod-lt, div-eq_of_lt-le}
use native.Mathlib.Omega.{arith}
use native.Mathlib.Decide.{dec_lt}
use lib.Ieee.{Float}
use lib.ListN.{length, get_or}
use lib.Pow.{pow-add, pow_pos}
use lib.Dec.{lit<}
use Rattle.std.specs.Prelude.{Result, Ok, Err}
use Rattle.refusals.specs.Refusals.{number}
use Rattle.refusals.specs.declared.Refusal.{Refusal}
use Rattle.slabs.specs.declared.Reach.{Reach}
use Rattle.morton.specs.Field.{bit, coord, key}
use Rattle.morton.specs.Level.{deepest, limit, level}
use Rattle.morton.specs.Vertex.{is_inner, side_of}
use Rattle.morton.proofs.Fields.{key_ext}
use Rattle.morton.proofs.Vertices.{inner_level}
use Rattle.tree.specs.Tree.{Tree, In, Sound}
use Rattle.tree.proofs.Lists.{order}
use Rattle.geometry.specs.Corner.{Corner, StrictlyInside}
use Rattle.geometry.specs.Listing.{given, Listed}
use Rattle.geometry.proofs.Place.{OnGrid, side, side_of_corner, side_above, corner_grid, key_up, on_grid, inner_level as grid-level}
use Rattle.geometry.proofs.Vertex.{vertex_corner, inner_grid}
use Rattle.geometry.proofs.Shape.{sound_shape_to}
use Rattle.geometry.proofs.Lookup.{found_leaf}
use Rattle.geometry.proofs.Listing.{giver, listed_strict}
use Rattle.dual.specs.declared.Dual.{Dual}
use Rattle.dual.specs.Dual.{NoCell, DualCell, DualSays}
use Rattle.dual.proofs.One.{dual_cell_one}
use Rattle.slabs.specs.Heights.{reach, height_over, height_under, slab_of, Reaches, OfCell, SlabsSays}
use Rattle.slabs.proofs.Order.{rounded, under_pos}
use Rattle.slabs.proofs.Spans.{reach_each, reach_order, steps, side_is, level_side, entry_level, entry_over, entry_height, level_height, two_slabs}
use Rattle.demands.specs.Slabs.{slab_of_vertex, HasVertex, CellIn, WhyNot, SlabsOfTrees}
use Rattle.demands.proofs.Reading.{dual_read, vertices_at, levels_at, listed_inner, listed_more, shallow}

-- ---- numbers

-- m / p changes from m to m + 1 only where p divides m + 1
module _ (m p : ℕ) (h : 0 < p) (changes : m / p ≡ suc m / p → ⊥) where
  ends_there : m / p * p + p ≡ suc m
  ends_there = ⊎_elim inside at_end (order (m % p + 1) p)
    where
      inside : m % p + 1 < p → m / p * p + p ≡ suc m
      inside l = absurd (changes (sym (div-eq_of_lt-le p (omega (arith, div-add-mod' m p)) (omega (arith, div-add-mod' m p)))))

      at_end : p ≤ m % p + 1 → m / p * p + p ≡ suc m
      at_end l = omega (arith, div-add-mod' m p, mod-lt m {m = p} h)

  begins_there : suc m / p * p ≡ suc m
  begins_there =
      let e : (m / p + 1) * p ≡ suc m = omega (arith, ends_there) in
      ap (λ (n : ℕ). n / p * p) (sym e) ∙ ap (λ (n : ℕ). n * p) (mul-div_cancel (m / p + 1) h) ∙ e

-- a height n / 2^(l+1), and one of k cells of level L, each of which is q high: p cells of level L make one of level l
module _ (L l n k : ℕ) (low : l ≤ L) (deep : L ≤ deepest) where
  abbrev p : ℕ
  p = 2 ^ (L - l)

  abbrev q : ℕ
  q = 2 ^ (deepest - L)

  whole : 2 ^ deepest ≡ p * (2 ^ l * q)
  whole =
      let e : L - l + l ≡ L = omega arith in
      let f : L + (deepest - L) ≡ deepest = omega arith in
      ap (λ (x : ℕ). 2 ^ x) (sym f) ∙ pow-add 2 L (deepest - L) ∙ ap (λ (x : ℕ). x * q) (ap (λ (x : ℕ). 2 ^ x) (sym e) ∙ pow-add 2 (L - l) l) ∙ mul_assoc p (2 ^ l) q

  node_side : n * 2 ^ deepest ≡ n * p * (2 ^ l * q)
  node_side = ap (λ (x : ℕ). n * x) whole ∙ sym (mul_assoc n p (2 ^ l * q))

  point_side : k * q * 2 ^ (l + 1) ≡ 2 * k * (2 ^ l * q)
  point_side =
      ap (λ (x : ℕ). k * q * x) (pow-add 2 l 1) ∙ sym (mul_assoc (k * q) (2 ^ l) 2) ∙ mul_comm (k * q * 2 ^ l) 2
      ∙ ap (λ (x : ℕ). 2 * x) (mul_right_comm k q (2 ^ l) ∙ mul_assoc k (2 ^ l) q) ∙ sym (mul_assoc 2 k (2 ^ l * q))

  below_point : n * 2 ^ (L - l) ≤ 2 * k → n * 2 ^ deepest ≤ k * 2 ^ (deepest - L) * 2 ^ (l + 1)
  below_point h = rw (node_side, point_side) (mul-le-mul_right (2 ^ l * q) h)

  above_point : 2 * k ≤ n * 2 ^ (L - l) → k * 2 ^ (deepest - L) * 2 ^ (l + 1) ≤ n * 2 ^ deepest
  above_point h = rw (node_side, point_side) (mul-le-mul_right (2 ^ l * q) h)

-- ---- the cells on two sides of a vertex, one above the other

-- the cells over them are one, if their coordinates are on each axis
same_over : (L l v i j : ℕ) → l ≤ L → ((a : ℕ) → a < 3 → (coord deepest v a / 2 ^ (deepest - L) - bit a i) / 2 ^ (L - l) ≡ (coord deepest v a / 2 ^ (deepest - L) - bit a j) / 2 ^ (L - l))
    → side L v i / 8 ^ (L - l) ≡ side L v j / 8 ^ (L - l)
unfolding side
same_over L l v i j h same = up i ∙ key_ext l (λ a. (x a - bit a i) / 2 ^ (L - l)) (λ a. (x a - bit a j) / 2 ^ (L - l)) same ∙ sym (up j)
  where
    x : ℕ → ℕ
    x a = coord deepest v a / 2 ^ (deepest - L)

    up : (w : ℕ) → side L v w / 8 ^ (L - l) ≡ key l (λ a. (x a - bit a w) / 2 ^ (L - l))
    up w = let e : l + (L - l) ≡ L = omega arith in ap (λ (n : ℕ). key n (λ a. x a - bit a w) / 8 ^ (L - l)) (sym e) ∙ key_up (L - l) l (λ a. x a - bit a w)

-- ---- a listed vertex lies between its nodes' centres

-- no leaf is deeper than the limit
within : (t : Tree) → Sound t → (k : ℕ) → In k t.leaves → level k ≤ limit
within t sound k i = (sound.cells k (sound.leaves_childless k i).0).1

-- bits 0 and 1 of u and u + 4 are the same
beside : (u : ℕ) → u < 4 → (a : ℕ) → a < 2 → bit a u ≡ bit a (u + 4)
beside u h zero l = omega arith
beside u h (suc zero) l = omega arith
beside u h (suc (suc a)) l = absurd (omega arith)

-- of a quotient that depends on a, on all three axes
on_three : (f g : ℕ → ℕ) → ((a : ℕ) → a < 2 → f a ≡ g a) → f 2 ≡ g 2 → (a : ℕ) → a < 3 → f a ≡ g a
on_three f g two last a h =
    elim (dec_lt a 2) [
      | yes l ↦ two a l
      | no l ↦ let e : 2 ≡ a = omega arith in subst (λ (b : ℕ). f b ≡ g b) e last
    ]

module _ (t : Tree) (sound : Sound t) (vs ls : List ℕ) (list : Listed t.leaves vs ls) (j : ℕ) (l : j < length vs)
    {keys : List ℕ} {distances : List Float} {places : List ℕ} {tried : ℕ} (c : DualCell t (get_or ls j 0) (get_or vs j 0) keys distances places tried) where
  abbrev v : ℕ
  v = get_or vs j 0

  abbrev L : ℕ
  L = get_or ls j 0

  few : (k : ℕ) → In k t.leaves → level k ≤ 20
  few = shallow t sound limit (omega arith) (within t sound)

  inner : is_inner L v ≡ true
  inner = listed_inner t sound limit (omega arith) (within t sound) vs ls list j l

  strict : StrictlyInside v
  strict = listed_strict t.leaves vs ls few list j l

  word : v < 2 ^ 64
  word = omega (arith, strict.point.high)

  pub leaf_at : (i : ℕ) → i < 8 → In (get_or keys i 0) t.leaves
  leaf_at i h = (dual_read t sound limit (omega arith) (within t sound) vs ls list j l keys distances places tried c i h).leaf

  -- a leaf over the cell on a side is the entry there
  one_over : (i k : ℕ) → i < 8 → In k t.leaves → 1 ≤ level k → level k ≤ L → side L v i / 8 ^ (L - level k) ≡ k → get_or keys i 0 ≡ k
  one_over i k h leaf some low over =
      let d = level_side t L v word inner c i h in
      found_leaf limit t (sound_shape_to limit t sound (within t sound)) k leaf (side_of L v i) some (omega (arith, d))
      (ap₂ (λ (x m : ℕ). x / 8 ^ (m - level k)) (side_is t L v word inner c i h) d ∙ over) (c.entry i h)

  -- a leaf that gives the vertex is the entry at its corner
  pub its_own : (k w : ℕ) → In k t.leaves → w < 8 → given k w ≡ v → get_or keys w 0 ≡ k
  its_own k w leaf h e =
      let deep = inner_level L v inner in
      let low : level k ≤ L = list.greatest j k w l leaf h e in
      let corner : Corner (level k) k w v = vertex_corner (level k) k w v e (list.from j l).0 in
      let grid : OnGrid (level k) v = corner_grid (level k) k w v corner in
      one_over w k h leaf (grid-level (level k) v strict grid) low
      (side_above (level k) L w v low (omega arith) strict grid
      ∙ side_of_corner (level k) k w v (sound.cells k (sound.leaves_childless k leaf).0).0 corner)

  -- how high it lies in cells of its level, which is above 0
  abbrev up : ℕ
  up = steps L v

  unit : (m : ℕ) × (coord deepest v 2 ≡ suc m * 2 ^ (deepest - L))
  unfolding OnGrid
  unit = on_grid (2 ^ (deepest - L)) (coord deepest v 2) (strict.inside 2 (lit< tt)) (inner_grid L v word inner 2 (lit< tt))

  up_is : up ≡ suc unit.0
  up_is = ap (λ (x : ℕ). x / 2 ^ (deepest - L)) unit.1 ∙ mul-div_cancel (suc unit.0) (pow_pos (deepest - L))

  -- if the node on one side lies over the cell on another, it is the node there
  across : (i k : ℕ) → i < 8 → k < 8 → ((a : ℕ) → a < 2 → bit a k ≡ bit a i)
      → (up - bit 2 k) / 2 ^ (L - level (get_or keys i 0)) ≡ (up - bit 2 i) / 2 ^ (L - level (get_or keys i 0)) → get_or keys k 0 ≡ get_or keys i 0
  across i k h g bits e =
      let n : ℕ = get_or keys i 0 in
      let low = entry_level t L v word inner c i h in
      one_over k n g (leaf_at i h) (c.entry i h).not_root low
      (same_over L (level n) v k i low
      (on_three (λ a. (coord deepest v a / 2 ^ (deepest - L) - bit a k) / 2 ^ (L - level n)) (λ a. (coord deepest v a / 2 ^ (deepest - L) - bit a i) / 2 ^ (L - level n))
      (λ a s. ap (λ (b : ℕ). (coord deepest v a / 2 ^ (deepest - L) - b) / 2 ^ (L - level n)) (bits a s)) e)
      ∙ sym (entry_over t L v word inner c i h))

  -- of the corner at which a leaf gives the vertex, and the one above or below it
  abbrev u : ℕ
  u = (giver t.leaves vs ls few list j l).corner % 4

  -- the two nodes differ: if not, both were that leaf, whose level is the vertex's, at two heights
  apart : get_or keys u 0 ≡ get_or keys (u + 4) 0 → ⊥
  apart same =
      let g = giver t.leaves vs ls few list j l in
      let own : get_or keys g.corner 0 ≡ g.leaf = its_own g.leaf g.corner g.is_leaf g.is_corner g.gives in
      let one : get_or keys u 0 ≡ g.leaf =
      ⊎_elim (λ h. let e : u ≡ g.corner = omega arith in ap (λ (i : ℕ). get_or keys i 0) e ∙ own)
      (λ h. let e : u + 4 ≡ g.corner = omega (arith, g.is_corner) in same ∙ ap (λ (i : ℕ). get_or keys i 0) e ∙ own) (order g.corner 4) in
      let a = level_height t L v word inner c u (omega arith) (ap level one ∙ g.at_level) in
      let b = level_height t L v word inner c (u + 4) (omega arith) (ap level (sym same ∙ one) ∙ g.at_level) in
      omega (arith, a, b, ap (λ (x : ℕ). coord L x 2) same, up_is)

  -- so over neither side of the vertex lies the node of the other
  abbrev m : ℕ
  m = unit.0

  changes : (i k : ℕ) → i < 8 → k < 8 → ((a : ℕ) → a < 2 → bit a k ≡ bit a i) → (get_or keys k 0 ≡ get_or keys i 0 → ⊥)
      → (x y : ℕ) → up - bit 2 k ≡ x → up - bit 2 i ≡ y → x / 2 ^ (L - level (get_or keys i 0)) ≡ y / 2 ^ (L - level (get_or keys i 0)) → ⊥
  changes i k h g bits differ x y e f z =
      differ (across i k h g bits (ap (λ (n : ℕ). n / 2 ^ (L - level (get_or keys i 0))) e ∙ z ∙ ap (λ (n : ℕ). n / 2 ^ (L - level (get_or keys i 0))) (sym f)))

  above_is : up - bit 2 u ≡ suc m
  above_is = omega (arith, up_is)

  below_is : up - bit 2 (u + 4) ≡ m
  below_is = omega (arith, up_is)

  -- the node's own height times the cells of the vertex's level in it
  height_at : (i x : ℕ) → i < 8 → up - bit 2 i ≡ x
      → coord (level (get_or keys i 0)) (get_or keys i 0) 2 * 2 ^ (L - level (get_or keys i 0)) ≡ x / 2 ^ (L - level (get_or keys i 0)) * 2 ^ (L - level (get_or keys i 0))
  height_at i x h e =
      ap (λ (n : ℕ). n * 2 ^ (L - level (get_or keys i 0))) (entry_height t L v word inner c i h ∙ ap (λ (n : ℕ). n / 2 ^ (L - level (get_or keys i 0))) e)

  module _ (s : ℕ) where
    -- the upper one's centre is above the vertex, and the lower one's below
    upper : slab_of_vertex s v ≤ slab_of s (get_or keys u 0)
    upper =
        let n : ℕ = get_or keys u 0 in
        let d = inner_level L v inner in
        let b = begins_there m (2 ^ (L - level n)) (pow_pos (L - level n))
        (changes u (u + 4) (omega arith) (omega arith) (λ a h. sym (beside u (omega arith) a h)) (λ e. apart (sym e)) m (suc m) below_is above_is) in
        rounded (coord deepest v 2) (2 ^ deepest) (height_over n) (height_under n) (2 ^ s) (pow_pos deepest) (under_pos n)
        (rw unit.1 (above_point L (level n) (height_over n) (suc m) (entry_level t L v word inner c u (omega arith)) (omega arith)
        (omega (arith, b, height_at u (suc m) (omega arith) above_is))))

    lower : slab_of s (get_or keys (u + 4) 0) ≤ slab_of_vertex s v
    lower =
        let n : ℕ = get_or keys (u + 4) 0 in
        let d = inner_level L v inner in
        let b = ends_there m (2 ^ (L - level n)) (pow_pos (L - level n))
        (λ e. changes (u + 4) u (omega arith) (omega arith) (beside u (omega arith)) apart (suc m) m above_is below_is (sym e)) in
        rounded (height_over n) (height_under n) (coord deepest v 2) (2 ^ deepest) (2 ^ s) (under_pos n) (pow_pos deepest)
        (rw unit.1 (below_point L (level n) (height_over n) (suc m) (entry_level t L v word inner c (u + 4) (omega arith)) (omega arith)
        (omega (arith, b, height_at (u + 4) m (omega arith) below_is))))

    vertex_between : {first last : ℕ} → Reaches keys s first last → (first ≤ slab_of_vertex s v) × (slab_of_vertex s v ≤ last)
    vertex_between r =
        let entry : (i : ℕ) → i < 8 → In (get_or keys i 0) keys = λ i h. record { place = i; inside = omega (arith, c.eight_keys); here = refl } in
        (omega (arith, lower, (reach_each r (get_or keys (u + 4) 0) (entry (u + 4) (omega arith))).0), omega (arith, upper, (reach_each r (get_or keys u 0) (entry u (omega arith))).1))

-- ---- all of it

-- what is reached is that of the dual cell
module _ (t : Tree) {L v s first last : ℕ} where
  pub reaching : SlabsSays t L v s (reach first last)
      → (c : Dual) → DualSays t L v c.keys c.distances c.places c.tried
      → Sound t × (is_inner L v ≡ true) × ((n : ℕ) × DualCell t L v c.keys c.distances c.places n) × Reaches c.keys s first last
  reaching (b, says, of) c cell =
      go c.tried cell (subst (λ (x : Dual). OfCell x.tried x.keys s (reach first last)) (dual_cell_one t L v b c says cell) of)
    where
      go : (a : Result ℕ Refusal) → DualSays t L v c.keys c.distances c.places a → OfCell a c.keys s (reach first last)
          → Sound t × (is_inner L v ≡ true) × ((n : ℕ) × DualCell t L v c.keys c.distances c.places n) × Reaches c.keys s first last
      go (Ok n) (S, inner, _, d) (_, r) = (S, inner, (n, d), r)
      go (Err k) _ e = let z : ◌≡◌ {A = ℕ} 0 1 = cc in absurd (omega arith)

  spans_each : {c : Dual} → CellIn t L v s first last c
      → (i : ℕ) → i < 8 → (first ≤ slab_of s (get_or c.keys i 0)) × (slab_of s (get_or c.keys i 0) ≤ last)
  spans_each {c} at i h =
      let (S, inner, (n, d), r) = reaching at.slabs c at.cell in
      reach_each r (get_or c.keys i 0) (record { place = i; inside = omega (arith, d.eight_keys); here = refl })

  spans_two : {c : Dual} → CellIn t L v s first last c
      → ((i : ℕ) → i < 8 → level (get_or c.keys i 0) ≡ L) → s ≤ L → last ≤ first + 1
  spans_two {c} at of-level h =
      let (S, inner, (n, d), r) = reaching at.slabs c at.cell in
      two_slabs t L v at.word inner d of-level h r

  spans_order : SlabsSays t L v s (reach first last) → (first ≤ last) × (last < 2 ^ s)
  spans_order says = let (S, inner, d, r) = reaching says says.0 says.1 in reach_order r

-- there is a cell, or none
some_cell : (ks : List ℕ) (L v : ℕ) → is_inner L v ≡ true → 1 < length ks → NoCell ks L v → ⊥
some_cell ks L v inner more none = ⊎_elim (λ f. true≢false (sym inner ∙ f)) (λ alone. omega arith) none

slabs_answered : (t : Tree) (L v s first last : ℕ) → SlabsSays t L v s (reach first last) → Sound t × (NoCell t.keys L v → ⊥) × (s ≤ 15)
slabs_answered t L v s first last (c, says, of) = go c.tried says of
  where
    go : (a : Result ℕ Refusal) → DualSays t L v c.keys c.distances c.places a → OfCell a c.keys s (reach first last)
        → Sound t × (NoCell t.keys L v → ⊥) × (s ≤ 15)
    go (Ok n) (S, inner, more, _) (h, _) = (S, some_cell t.keys L v inner more, h)
    go (Err k) _ e = let z : ◌≡◌ {A = ℕ} 0 1 = cc in absurd (omega arith)

-- why it is refused
slabs_refused : (t : Tree) (L v s : ℕ) (k : Refusal) → SlabsSays t L v s (Err k) → WhyNot t L v s (number k)
slabs_refused t L v s k (c, says, of) = go c.tried says of
  where
    go : (a : Result ℕ Refusal) → DualSays t L v c.keys c.distances c.places a → OfCell a c.keys s (Err k) → WhyNot t L v s (number k)
    go (Ok n) (S, inner, more, _) (h, five) =
        inr (inr (S, some_cell t.keys L v inner more, h, ap number five))
    go (Err m) (_, _, _, why) e =
        let same : k ≡ m = cc in
        ⊎_elim (λ x. inl (x.0, ap number (same ∙ x.1))) (λ x. inr (inl (x.0, x.1, ap number (same ∙ x.2)))) why

has_vertex : (t : Tree) (sound : Sound t) (vs ls : List ℕ) (list : Listed t.leaves vs ls) (j : ℕ) → j < length vs → (s : ℕ) → s ≤ 15
    → (r : Result Reach Refusal) → SlabsSays t (get_or ls j 0) (get_or vs j 0) s r → HasVertex s (get_or vs j 0) r
has_vertex t sound vs ls list j l s h (Ok x) says =
    let (S, inner, (n, d), r) = reaching t says says.0 says.1 in
    vertex_between t sound vs ls list j l d s r
has_vertex t sound vs ls list j l s h (Err k) says =
    let inner = listed_inner t sound limit (omega arith) (within t sound) vs ls list j l in
    let more = listed_more t sound limit (omega arith) (within t sound) vs ls list j l in
    ⊎_elim (λ x. x.0 sound)
    (λ y. ⊎_elim (λ x. some_cell t.keys (get_or ls j 0) (get_or vs j 0) inner more x.1) (λ x. omega (arith, x.2)) y)
    (slabs_refused t (get_or ls j 0) (get_or vs j 0) s k says)

pub slabs_of_trees : SlabsOfTrees
slabs_of_trees t =
    record {
      answered = slabs_answered t;
      refused = slabs_refused t;
      order = λ L v s first last. spans_order t;
      each = spans_each t;
      two = spans_two t;
      vertex = λ start n was left (sound, w) j h s e r says.
          let k = vertices_at t start n was left w j h in
          let m = levels_at t start n was left w j h in
          subst (λ (x : ℕ). HasVertex s x r) (sym k)
          (has_vertex t sound w.vs w.ls w.listed j (omega (arith, w.count)) s e r (subst₂ (λ (L x : ℕ). SlabsSays t L x s r) m k says));
    }
