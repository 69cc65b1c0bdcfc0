-- What the slabs of a cell tell of its nodes. Assumes nothing.
use Prim.Native.Nat.{ℕ, ◌+◌, ◌-◌, ◌*◌, ◌/◌, ◌^◌, ◌≤◌, ◌<◌}
use mathlib.Core.Path.{◌≡◌, sym, ap, ◌∙◌}
use mathlib.Core.Bool.{true}
use mathlib.Core.List.{List}
use native.Mathlib.Nat.{div-lt_iff_lt-mul, div-mul-le_self, div-add-mod', mod-lt}
use native.Mathlib.Omega.{arith}
use lib.Dec.{lit<}
use lib.Ieee.{Float}
use lib.ListN.{get_or}
use lib.Pow.{pow_mono, shr_lt}
use Rattle.morton.specs.Answers.{CentreSays}
use Rattle.std.specs.Prelude.{Ok}
use Rattle.morton.specs.declared.Vec3.{Vec3}
use Rattle.morton.specs.Exact.{Exactly}
use Rattle.morton.specs.Field.{bit, coord}
use Rattle.morton.specs.Level.{deepest, level}
use Rattle.morton.specs.Vertex.{is_inner, side_of}
use Rattle.morton.proofs.Fields.{bit_le, coord_lt, coord_key, coord_up}
use Rattle.morton.proofs.Levels.{cell_level}
use Rattle.morton.proofs.Vertices.{inner_level}
use Rattle.tree.specs.Tree.{Tree, In}
use Rattle.geometry.proofs.Place.{side, side_cell, side_on_grid}
use Rattle.geometry.proofs.Vertex.{inner_strict, inner_grid}
use Rattle.dual.specs.Dual.{DualCell}
use Rattle.slabs.specs.Heights.{height_over, height_under, slab_of, Reaches}
use Rattle.slabs.proofs.Order.{under_pos, slab_order, slab_lt, shifted_down}

-- ---- a node's own

-- its centre is as high as `centre` answers
pub centre_height : (k : ℕ) (p : Vec3) → CentreSays k (Ok p) → Exactly p.z (height_over k) (height_under k)
centre_height k p says = says.1.2

-- slab n of 2^s goes from n / 2^s up to (n + 1) / 2^s, and a node's has its centre
pub in_its_slab : (s k : ℕ) → (slab_of s k * height_under k ≤ height_over k * 2 ^ s) × (height_over k * 2 ^ s < (slab_of s k + 1) * height_under k)
in_its_slab s k =
    (div-mul-le_self (height_over k * 2 ^ s) (height_under k), (div-lt_iff_lt-mul {y = slab_of s k + 1} (under_pos k)).0 (omega arith))

-- ---- a cell's

module _ {keys : List ℕ} {s first last : ℕ} (r : Reaches keys s first last) where
  -- each of its nodes lies in one of the slabs that it reaches
  pub reach_each : (k : ℕ) → In k keys → (first ≤ slab_of s k) × (slab_of s k ≤ last)
  reach_each k i =
      (omega (arith, r.first_is, slab_order s r.low k (r.lowest.against k i)), omega (arith, r.last_is, slab_order s k r.high (r.highest.against k i)))

  pub reach_order : (first ≤ last) × (last < 2 ^ s)
  reach_order =
      let b = reach_each r.low r.lowest.one_of in
      (omega (arith, b.0, b.1), omega (arith, r.last_is, slab_lt s r.high))

-- ---- where the nodes of a dual cell lie

-- the height of a vertex, counted in cells of its level
abbrev pub steps : ℕ → ℕ → ℕ
steps L v = coord deepest v 2 / 2 ^ (deepest - L)

module _ (t : Tree) (L v : ℕ) (word : v < 2 ^ 64) (inner : is_inner L v ≡ true) {keys : List ℕ} {distances : List Float} {places : List ℕ} {tried : ℕ}
    (c : DualCell t L v keys distances places tried) (i : ℕ) (h : i < 8) where
  abbrev node : ℕ
  node = get_or keys i 0

  pub side_is : side_of L v i ≡ side L v i
  side_is = let l = inner_level L v inner in side_on_grid L v i (omega arith) h (inner_strict L v word inner) (inner_grid L v word inner)

  pub level_side : level (side_of L v i) ≡ L
  level_side = let l = inner_level L v inner in ap level side_is ∙ cell_level L (side L v i) (omega arith) (side_cell L v i)

  pub entry_level : level node ≤ L
  entry_level = omega (arith, (c.entry i h).not_below, level_side)

  -- it lies over the cell on its side
  pub entry_over : node ≡ side L v i / 8 ^ (L - level node)
  entry_over = (c.entry i h).is_ancestor ∙ ap (λ (m : ℕ). side_of L v i / 8 ^ (m - level node)) level_side ∙ ap (λ (x : ℕ). x / 8 ^ (L - level node)) side_is

  pub side_height : coord L (side L v i) 2 ≡ steps L v - bit 2 i
  unfolding side
  side_height =
      let l = inner_level L v inner in
      let e : L + (deepest - L) ≡ deepest = omega arith in
      let x : coord deepest v 2 < 2 ^ (L + (deepest - L)) = rw e (coord_lt deepest v 2) in
      coord_key L (λ a. coord deepest v a / 2 ^ (deepest - L) - bit a i) 2 (lit< tt) (omega (arith, shr_lt L (deepest - L) x))

  pub entry_height : coord (level node) node 2 ≡ (steps L v - bit 2 i) / 2 ^ (L - level node)
  entry_height =
      let e : level node + (L - level node) ≡ L = omega (arith, entry_level) in
      ap (λ (x : ℕ). coord (level node) x 2) entry_over
      ∙ coord_up (L - level node) (level node) (side L v i) 2
      ∙ ap (λ (m : ℕ). coord m (side L v i) 2 / 2 ^ (L - level node)) e
      ∙ ap (λ (x : ℕ). x / 2 ^ (L - level node)) side_height

  -- where it is of the vertex's level, it is the cell on its side
  pub level_height : level node ≡ L → coord L node 2 ≡ steps L v - bit 2 i
  level_height e =
      let z : L - level node ≡ 0 = omega arith in
      ap (λ (m : ℕ). coord m node 2) (sym e) ∙ entry_height ∙ ap (λ (m : ℕ). (steps L v - bit 2 i) / 2 ^ m) z ∙ omega arith

-- ---- a cell whose nodes are all of its vertex's level

-- the centres of two nodes beside one another are one slab apart at most, if slabs are no thinner than the nodes; q is twice a slab by a node
next_slab : (c d q : ℕ) → 2 ≤ q → d ≤ c + 1 → (2 * d + 1) / q ≤ (2 * c + 1) / q + 1
next_slab c d q h l =
    let below : (2 * d + 1) / q < (2 * c + 1) / q + 2 = (div-lt_iff_lt-mul {k = q} {y = (2 * c + 1) / q + 2} (omega arith)).1
    (omega (arith, div-add-mod' (2 * c + 1) q, mod-lt (2 * c + 1) {m = q} (omega arith))) in
    omega arith

slab_at_level : (s L k : ℕ) → level k ≡ L → s ≤ L → slab_of s k ≡ (2 * coord L k 2 + 1) / 2 ^ (L + 1 - s)
slab_at_level s L k e h =
    sym (shifted_down s k (omega arith)) ∙ ap (λ (m : ℕ). (2 * coord m k 2 + 1) / 2 ^ (m + 1 - s)) e

module _ (t : Tree) (L v : ℕ) (word : v < 2 ^ 64) (inner : is_inner L v ≡ true) {keys : List ℕ} {distances : List Float} {places : List ℕ} {tried : ℕ}
    (c : DualCell t L v keys distances places tried) (of-level : (i : ℕ) → i < 8 → level (get_or keys i 0) ≡ L) where
  own_level : (k : ℕ) → In k keys → level k ≡ L
  own_level k i = ap level (sym i.here) ∙ of-level i.place (omega (arith, i.inside, c.eight_keys))

  own_height : (k : ℕ) (i : In k keys) → coord L k 2 ≡ steps L v - bit 2 i.place
  own_height k i =
      let h : i.place < 8 = omega (arith, i.inside, c.eight_keys) in
      ap (λ (x : ℕ). coord L x 2) (sym i.here) ∙ level_height t L v word inner c i.place h (of-level i.place h)

  -- it reaches at most two slabs, next to each other, if slabs are no thinner than those nodes
  pub two_slabs : {s first last : ℕ} → s ≤ L → Reaches keys s first last → last ≤ first + 1
  two_slabs {s} h r =
      let a = r.lowest.one_of in
      let b = r.highest.one_of in
      let q : 2 ^ 1 ≤ 2 ^ (L + 1 - s) = pow_mono {i = 1} (omega arith) in
      let n = next_slab (coord L r.low 2) (coord L r.high 2) (2 ^ (L + 1 - s)) (omega arith)
      (omega (arith, own_height r.low a, own_height r.high b, bit_le 2 a.place)) in
      omega (arith, n, r.first_is, r.last_is, slab_at_level s L r.low (own_level r.low a) h, slab_at_level s L r.high (own_level r.high b) h)
