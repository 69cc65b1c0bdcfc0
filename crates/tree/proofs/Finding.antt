-- The lookup that goes down: its way step by step, and that in a sound tree it answers as it should. Assumes nothing.
use Prim.Native.Nat.{ℕ, zero, suc, ◌+◌, ◌-◌, ◌*◌, ◌/◌, ◌%◌, ◌^◌, ◌≤◌, ◌<◌}
use mathlib.Core.Path.{◌≡◌, refl, sym, ap, ap₂, subst, subst₂, ◌∙◌}
use mathlib.Core.Bool.{Bool, true, false, cond, ◌&&◌}
use mathlib.Core.Logic.{◌⊎◌, inl, inr, ⊎_elim}
use mathlib.Core.List.{List}
use native.Mathlib.Nat.{div-div-eq-div-mul, div-one, pow-suc, add-zero, add-suc, mul_comm}
use native.Mathlib.Numerals.{add-one}
use native.Mathlib.Omega.{arith}
use lib.Ieee.{Float, nan}
use lib.ListN.{length, get_or}
use borrow.Author.Tests.{le-leb, lt-leb}
use Rattle.morton.specs.Level.{deepest, Cell, level, is_cell}
use Rattle.morton.proofs.Levels.{eight, is_cell_lem, cell_level, level_le, eight_pos, eight_mono}
use Rattle.morton.proofs.Fields.{cell_up, div_step}
use Rattle.std.specs.Prelude.{Result, Ok, Err}
use Rattle.refusals.specs.declared.Refusal.{Refusal}
use Rattle.refusals.specs.declared.Refusal.TheVariants.{NotACell}
use Rattle.tree.specs.declared.Lookup.{Lookup}
use Rattle.tree.specs.declared.Lookup.TheVariants.{Found, Nothing}
use Rattle.tree.specs.Tree.{Tree, StandsAt, In, Sound}
use Rattle.tree.specs.Down.{Nodes, nodes_of, first_at, leads, steps, reach, is_split, over, place_over, level_over, NodeOver, NodeSays}
use Rattle.tree.specs.Climb.{ancestor, NoneDeeper, LookupSays, tried_in, distance_at, down_of, trusting_of}
use Rattle.tree.proofs.Lists.{order, decided, get_d_inside, in_cast, stands_in}
use Rattle.tree.proofs.Pass.{said, denied, up_back, siblings, parent_at, beside}
use Rattle.tree.proofs.Down.{split_below, reach_down, over_next, place_next, level_next, level_most, over_split, reached, parent_in}

-- what the way down reads of a tree
abbrev pub nodes : Tree → Nodes
nodes t = nodes_of t.keys t.firsts

-- levels in bits
pub shifted : (x m : ℕ) → x / 2 ^ (3 * m) ≡ x / 8 ^ m
shifted x m = ap (λ (k : ℕ). x / k) (ap (λ (k : ℕ). 2 ^ k) (mul_comm 3 m) ∙ sym (eight m))

-- ---- the way, on any tables

module _ (n : Nodes) where
  -- where a cell is not split, none below it is
  split_stop : (l j x : ℕ) → is_split n l (x / 8 ^ j) ≡ false → is_split n (l + j) x ≡ false
  unfolding is_split
  split_stop l zero x e = subst (λ (m : ℕ). is_split n m x ≡ false) (sym (add-zero l)) (subst (λ (y : ℕ). is_split n l y ≡ false) (div-one x) e)
  split_stop l (suc j) x e =
      subst (λ (m : ℕ). is_split n m x ≡ false) (sym (add-suc l j))
      (ap (λ (r : Bool). r && steps n (reach n (suc (l + j)) x) x) (split_stop l j (x / 8) (subst (λ (y : ℕ). is_split n l y ≡ false) (div_step x 8 j) e)))

  -- so what is asked of the node over it is the same for all of them
  stop : (f : ℕ → ℕ → ℕ) → ((l x : ℕ) → is_split n l (x / 8) ≡ false → f (suc l) x ≡ f l (x / 8)) → (l j x : ℕ) → is_split n l (x / 8 ^ j) ≡ false → f (l + j) x ≡ f l (x / 8 ^ j)
  stop f stay l zero x e = ap₂ f (add-zero l) (sym (div-one x))
  stop f stay l (suc j) x e =
      let s : is_split n l (x / 8 / 8 ^ j) ≡ false = subst (λ (y : ℕ). is_split n l y ≡ false) (div_step x 8 j) e in
      ap (λ (m : ℕ). f m x) (add-suc l j) ∙ stay (l + j) x (split_stop l j (x / 8) s) ∙ stop f stay l j (x / 8) s ∙ ap (f l) (sym (div_step x 8 j))

  -- the way down to x of level L has come to level l, at a place
  pub record Going (L x l place : ℕ) : Type 0 where
    pub deep : l ≤ L
    pub here : place ≡ reach n l (x / 8 ^ (L - l))
    pub node : over n l (x / 8 ^ (L - l)) ≡ x / 8 ^ (L - l)
    pub own : level_over n l (x / 8 ^ (L - l)) ≡ l
    pub at : place_over n l (x / 8 ^ (L - l)) ≡ place
    pub chain : (r : Bool) → steps n place (x / 8 ^ (L - l)) ≡ r → is_split n l (x / 8 ^ (L - l)) ≡ r

  pub going_none : (L x : ℕ) → Going L x 0 0
  unfolding reach over place_over level_over is_split
  going_none L x = record { deep = omega arith; here = refl; node = refl; own = refl; at = refl; chain = λ r e. e }

  -- the next cell on the way
  pub next_up : (L x l : ℕ) → l < L → x / 8 ^ (L - l - 1) / 8 ≡ x / 8 ^ (L - l)
  next_up L x l h =
      let e : suc (L - l - 1) ≡ L - l = omega arith in
      div-div-eq-div-mul x (8 ^ (L - l - 1)) 8 ∙ ap (λ (m : ℕ). x / m) (sym (pow-suc 8 (L - l - 1))) ∙ ap (λ (m : ℕ). x / 8 ^ m) e

  module _ (L x l place : ℕ) (h : l < L) (g : Going L x l place) (child first : ℕ) (c : child ≡ x / 8 ^ (L - l - 1)) (f : first ≡ get_or n.firsts place 0) where
    half : child / 8 ≡ x / 8 ^ (L - l)
    half = ap (λ (m : ℕ). m / 8) c ∙ next_up L x l h

    test : (r : Bool) → leads n.keys first (8 * (child / 8)) ≡ r → is_split n l (x / 8 ^ (L - l)) ≡ r
    unfolding steps first_at
    test r e = g.chain r (ap₂ (leads n.keys) (sym f) (ap (λ (m : ℕ). 8 * m) (sym half)) ∙ e)

    pub going_more : leads n.keys first (8 * (child / 8)) ≡ true → Going L x (l + 1) (first + child % 8)
    unfolding first_at
    going_more e = subst (λ (m : ℕ). Going L x m (first + child % 8)) (sym (add-one l)) there
      where
        d : L - l - 1 ≡ L - suc l
        d = omega arith

        y : child ≡ x / 8 ^ (L - suc l)
        y = c ∙ ap (λ (m : ℕ). x / 8 ^ m) d

        s : is_split n l (x / 8 ^ (L - suc l) / 8) ≡ true
        s = ap (is_split n l) (ap (λ (m : ℕ). m / 8) (sym y) ∙ half) ∙ test true e

        at_reach : first + child % 8 ≡ reach n (suc l) (x / 8 ^ (L - suc l))
        at_reach =
            ap₂ ◌+◌ (f ∙ ap (λ (m : ℕ). get_or n.firsts m 0) (g.here ∙ ap (reach n l) (sym half ∙ ap (λ (m : ℕ). m / 8) y))) (ap (λ (m : ℕ). m % 8) y)
            ∙ sym (reach_down n l (x / 8 ^ (L - suc l)))

        there : Going L x (suc l) (first + child % 8)
        there =
            record {
              deep = omega arith;
              here = at_reach;
              node = over_next n l (x / 8 ^ (L - suc l)) s;
              own = level_next n l (x / 8 ^ (L - suc l)) s;
              at = place_next n l (x / 8 ^ (L - suc l)) s ∙ sym at_reach;
              chain = λ r t. split_below n l (x / 8 ^ (L - suc l)) s ∙ ap (λ (m : ℕ). steps n m (x / 8 ^ (L - suc l))) (sym at_reach) ∙ t;
            }

    pub going_stop : leads n.keys first (8 * (child / 8)) ≡ false → NodeOver n L x l place
    going_stop e =
        let s : l + (L - l) ≡ L = omega arith in
        let t : is_split n l (x / 8 ^ (L - l)) ≡ false = test false e in
        record {
          no_deeper = g.deep;
          is = ap (λ (m : ℕ). over n m x) (sym s) ∙ stop (over n) (λ l x e. over_next n l x e) l (L - l) x t ∙ g.node;
          its_level = ap (λ (m : ℕ). level_over n m x) (sym s) ∙ stop (level_over n) (λ l x e. level_next n l x e) l (L - l) x t ∙ g.own;
          at = ap (λ (m : ℕ). place_over n m x) (sym s) ∙ stop (place_over n) (λ l x e. place_next n l x e) l (L - l) x t ∙ g.at;
        }

  pub going_end : (L x l place : ℕ) → L ≤ l → Going L x l place → NodeOver n L x l place
  going_end L x l place h g =
      let e : l ≡ L = omega (arith, g.deep) in
      let z : L - l ≡ 0 = omega arith in
      let y : x / 8 ^ (L - l) ≡ x = ap (λ (m : ℕ). x / 8 ^ m) z ∙ div-one x in
      record {
        no_deeper = g.deep;
        is = ap₂ (over n) (sym e) (sym y) ∙ g.node;
        its_level = ap₂ (level_over n) (sym e) (sym y) ∙ g.own;
        at = ap₂ (place_over n) (sym e) (sym y) ∙ g.at;
      }

-- of a level that a cell may have, it is the node over the cell
pub says_over : (n : Nodes) (L x l place : ℕ) → L ≤ deepest → NodeSays n L x l place → NodeOver n L x l place
says_over n L x l place h s = ⊎_elim (λ v. v.1) (λ z. absurd (omega (arith, z.0))) s

pub says_deep : (n : Nodes) (L x l place : ℕ) → NodeSays n L x l place → l ≤ L
says_deep n L x l place s = ⊎_elim (λ v. v.1.no_deeper) (λ z. omega (arith, z.1)) s

-- the node over a cell from that over the first of its eight cells: they stand in a row where their parent is split, and else have the same one
module _ (n : Nodes) (L x l place : ℕ) (v : NodeOver n (suc L) (8 * (x / 8)) l place) where
  same_parent : 8 * (x / 8) / 8 ≡ x / 8
  same_parent = omega arith

  first_split : (r : Bool) → is_split n L (x / 8) ≡ r → is_split n L (8 * (x / 8) / 8) ≡ r
  first_split r e = ap (is_split n L) same_parent ∙ e

  pub in_row : l ≡ suc L → NodeOver n (suc L) x l (place + x % 8)
  in_row h =
      decided (is_split n L (x / 8))
      (λ e.
      let z : suc L - l ≡ 0 = omega arith in
      let row : place ≡ first_at n (reach n L (x / 8)) + 8 * (x / 8) % 8 =
      sym v.at ∙ place_next n L (8 * (x / 8)) (first_split true e) ∙ reach_down n L (8 * (x / 8))
      ∙ ap (λ (m : ℕ). first_at n (reach n L m) + 8 * (x / 8) % 8) same_parent in
      record {
        no_deeper = v.no_deeper;
        is = over_next n L x e ∙ sym (ap (λ (m : ℕ). x / 8 ^ m) z ∙ div-one x);
        its_level = level_next n L x e ∙ sym h;
        at = place_next n L x e ∙ reach_down n L x ∙ omega (arith, row);
      })
      (λ e. absurd (omega (arith, v.its_level, level_next n L (8 * (x / 8)) (first_split false e), level_most n L (8 * (x / 8) / 8))))

  pub in_one : l ≤ L → NodeOver n (suc L) x l place
  in_one h =
      decided (is_split n L (x / 8)) (λ e. absurd (omega (arith, v.its_level, level_next n L (8 * (x / 8)) (first_split true e))))
      (λ e.
      let f : is_split n L (8 * (x / 8) / 8) ≡ false = first_split false e in
      let s : suc L - l ≡ suc (L - l) = omega arith in
      let up : 8 * (x / 8) / 8 ^ (suc L - l) ≡ x / 8 ^ (suc L - l) =
      ap (λ (m : ℕ). 8 * (x / 8) / 8 ^ m) s ∙ div_step (8 * (x / 8)) 8 (L - l) ∙ ap (λ (m : ℕ). m / 8 ^ (L - l)) same_parent
      ∙ sym (div_step x 8 (L - l)) ∙ ap (λ (m : ℕ). x / 8 ^ m) (sym s) in
      record {
        no_deeper = v.no_deeper;
        is = over_next n L x e ∙ ap (over n L) (sym same_parent) ∙ sym (over_next n L (8 * (x / 8)) f) ∙ v.is ∙ up;
        its_level = level_next n L x e ∙ ap (level_over n L) (sym same_parent) ∙ sym (level_next n L (8 * (x / 8)) f) ∙ v.its_level;
        at = place_next n L x e ∙ ap (place_over n L) (sym same_parent) ∙ sym (place_next n L (8 * (x / 8)) f) ∙ v.at;
      })

-- ---- the answer, on any tables

module _ (n : Nodes) (ds : List Float) (k l place : ℕ) (c : Cell (level k) k) (v : NodeOver n (level k) k l place) where
  node_cell : Cell l (over n (level k) k)
  node_cell =
      let e : l + (level k - l) ≡ level k = omega (arith, v.no_deeper) in
      subst (Cell l) (sym v.is) (cell_up (level k - l) l k (subst (λ (m : ℕ). Cell m k) (sym e) c))

  node_level : level (over n (level k) k) ≡ l
  node_level = cell_level l (over n (level k) k) (omega (arith, v.no_deeper, level_le k)) node_cell

  -- what is found, in the words of the definition
  abbrev there : Lookup
  there = Found (over n (level k) k) (distance_at ds (place_over n (level k) k)) (place_over n (level k) k) (level k - level (over n (level k) k) + 1)

  pub down_nothing : l ≡ 0 → Nothing (level k) ≡ down_of n ds k
  unfolding down_of
  down_nothing z =
      let h : over n (level k) k < 8 = omega (arith, node_cell.high, ap (λ (m : ℕ). 8 ^ m) z) in
      sym (ap (λ (r : Bool). cond r there (Nothing (level k))) (lt-leb 8 _ h))

  pub down_found : 0 < l → (key : ℕ) (d : Float) → key ≡ k / 8 ^ (level k - l) → d ≡ distance_at ds place → Found key d place (level k - l + 1) ≡ down_of n ds k
  unfolding down_of
  down_found p key d e f =
      let h : 8 ≤ over n (level k) k = omega (arith, node_cell.low, eight_mono {i = 1} {j = l} p) in
      ap₂ (λ (x : ℕ) (y : Float). Found x y place (level k - l + 1)) (e ∙ sym v.is) (f ∙ ap (distance_at ds) (sym v.at))
      ∙ ap₂ (λ (x m : ℕ). Found (over n (level k) k) (distance_at ds (place_over n (level k) k)) x (level k - m + 1)) (sym v.at) (sym node_level)
      ∙ sym (ap (λ (r : Bool). cond r there (Nothing (level k))) (le-leb 8 _ h))

-- what trusts the tree, where it is or isn't a cell key
module _ (n : Nodes) (ds : List Float) (k : ℕ) where
  pub trusting_down : is_cell k ≡ true → Ok (down_of n ds k) ≡ trusting_of n ds k
  trusting_down c = rw c refl

  pub trusting_refuses : is_cell k ≡ false → Err NotACell ≡ trusting_of n ds k
  trusting_refuses c = rw c refl

-- by the level and the place that the code has
module _ (n : Nodes) (ds : List Float) (k L l place : ℕ) (c : is_cell k ≡ true) (e : L ≡ level k) (v : NodeSays n L k l place) where
  own : NodeOver n (level k) k l place
  own = says_over n (level k) k l place (level_le k) (subst (λ (m : ℕ). NodeSays n m k l place) e v)

  pub nothing_at : l ≡ 0 → Ok (Nothing L) ≡ trusting_of n ds k
  nothing_at z = ap Ok (ap Nothing e ∙ down_nothing n ds k l place (is_cell_lem k c) own z) ∙ trusting_down n ds k c

  pub found_at : 0 < l → (key : ℕ) (d : Float) → key ≡ k / 8 ^ (L - l) → d ≡ distance_at ds place → Ok (Found key d place (L - l + 1)) ≡ trusting_of n ds k
  found_at p key d f g =
      ap Ok
      (ap (λ (m : ℕ). Found key d place (m - l + 1)) e
      ∙ down_found n ds k l place (is_cell_lem k c) own p key d (f ∙ ap (λ (m : ℕ). k / 8 ^ (m - l)) e) g)
      ∙ trusting_down n ds k c

-- ---- in a sound tree

-- the ancestor of level l is a cell key of level l
pub ancestor_cell : (k l : ℕ) → Cell (level k) k → l ≤ level k → Cell l (ancestor k l)
ancestor_cell k l c h = let e : l + (level k - l) ≡ level k = omega arith in cell_up (level k - l) l k (subst (λ (n : ℕ). Cell n k) (sym e) c)

module _ (t : Tree) (S : Sound t) where
  -- the node over a cell: which level it has, where it stands, and that no deeper one is there
  pub record OverIs (L x : ℕ) : Type 0 where
    pub lev : ℕ
    pub no_deeper : lev ≤ L
    pub is : over (nodes t) L x ≡ x / 8 ^ (L - lev)
    pub stands : StandsAt t.keys (place_over (nodes t) L x) (over (nodes t) L x)
    pub none : (j : ℕ) → lev < j → j ≤ L → In (x / 8 ^ (L - j)) t.keys → ⊥

  pub over_is : (L x : ℕ) → Cell L x → OverIs L x
  unfolding over place_over
  over_is zero x c =
      let e : 1 ≡ x = omega (arith, c.low, c.high) in
      record { lev = 0; no_deeper = omega arith; is = omega arith; stands = subst (StandsAt t.keys 0) e S.first; none = λ j h g. absurd (omega arith) }
  over_is (suc L) x c = decided (is_split (nodes t) L (x / 8)) (down (over_is L (x / 8) up)) (stay (over_is L (x / 8) up))
    where
      up : Cell L (x / 8)
      up = record { low = omega (arith, c.low, pow-suc 8 L); high = omega (arith, c.high, pow-suc 8 L) }

      own : x / 8 ^ (suc L - suc L) ≡ x
      own = let z : suc L - suc L ≡ 0 = omega arith in ap (λ (m : ℕ). x / 8 ^ m) z ∙ div-one x

      higher : (j : ℕ) → j ≤ L → x / 8 / 8 ^ (L - j) ≡ x / 8 ^ (suc L - j)
      higher j h = let s : suc (L - j) ≡ suc L - j = omega arith in sym (div_step x 8 (L - j)) ∙ ap (λ (i : ℕ). x / 8 ^ i) s

      down : OverIs L (x / 8) → is_split (nodes t) L (x / 8) ≡ true → OverIs (suc L) x
      down v e =
          let m : In (x / 8) t.keys = in_cast (sym (over_split (nodes t) L (x / 8) e)) (stands_in v.stands) in
          let i : In (8 * (x / 8)) t.keys = said (is_split (nodes t) L (x / 8)) _ e (reached t S L (x / 8) up m).split in
          let k : In x t.keys = in_cast (omega arith) (siblings t S (8 * (x / 8)) i (λ z. omega arith) (x % 8) (omega arith)) in
          record {
            lev = suc L;
            no_deeper = omega arith;
            is = over_next (nodes t) L x e ∙ sym own;
            stands = subst₂ (StandsAt t.keys) (sym (place_next (nodes t) L x e)) (sym (over_next (nodes t) L x e)) (reached t S (suc L) x c k).stands;
            none = λ j h g. absurd (omega arith);
          }

      stay : OverIs L (x / 8) → is_split (nodes t) L (x / 8) ≡ false → OverIs (suc L) x
      stay v e =
          record {
            lev = v.lev;
            no_deeper = omega (arith, v.no_deeper);
            is = over_next (nodes t) L x e ∙ v.is ∙ higher v.lev v.no_deeper;
            stands = subst₂ (StandsAt t.keys) (sym (place_next (nodes t) L x e)) (sym (over_next (nodes t) L x e)) v.stands;
            none = λ j h g m. ⊎_elim
                (λ l. v.none j h (omega arith) (in_cast (higher j (omega arith)) m))
                (λ l. let z : suc L ≡ j = omega arith in
                let q = parent_in t S x (in_cast (sym own ∙ ap (λ (i : ℕ). x / 8 ^ (suc L - i)) z) m) (λ i. omega (arith, c.low, pow-suc 8 L, eight_pos L)) in
                denied (is_split (nodes t) L (x / 8)) _ e (reached t S L (x / 8) up q.0).split q.1)
                (order j (suc L));
          }

  pub down_says : (asked : ℕ) → is_cell asked ≡ true → LookupSays t asked (Ok (down_of (nodes t) t.distances asked))
  unfolding down_of
  down_says asked c = go (order v.lev 1)
    where
      cell : Cell (level asked) asked
      cell = is_cell_lem asked c

      v : OverIs (level asked) asked
      v = over_is (level asked) asked cell

      is_cell_of : Cell v.lev (over (nodes t) (level asked) asked)
      is_cell_of = subst (Cell v.lev) (sym v.is) (ancestor_cell asked v.lev cell v.no_deeper)

      lev_is : level (over (nodes t) (level asked) asked) ≡ v.lev
      lev_is = cell_level v.lev (over (nodes t) (level asked) asked) (omega (arith, v.no_deeper, level_le asked)) is_cell_of

      go : (v.lev < 1) ⊎ (1 ≤ v.lev) → LookupSays t asked (Ok (down_of (nodes t) t.distances asked))
      go (inl z) =
          let h : over (nodes t) (level asked) asked < 8 = omega (arith, is_cell_of.high, ap (λ (m : ℕ). 8 ^ m) (zero_is v.lev z)) in
          rw (lt-leb 8 (over (nodes t) (level asked) asked) h) (S, c, (λ j a b m. v.none j (omega arith) b m), refl)
        where
          zero_is : (m : ℕ) → m < 1 → m ≡ 0
          zero_is m h = omega arith
      go (inr p) =
          let h : 8 ≤ over (nodes t) (level asked) asked = omega (arith, is_cell_of.low, eight_mono {i = 1} {j = v.lev} p) in
          rw (le-leb 8 (over (nodes t) (level asked) asked) h) (
            S,
            c,
            record {
              not_root = omega (arith, lev_is);
              not_below = omega (arith, lev_is, v.no_deeper);
              is_ancestor = v.is ∙ ap (λ (m : ℕ). asked / 8 ^ (level asked - m)) (sym lev_is);
              present = v.stands;
              its_distance = get_d_inside t.distances (place_over (nodes t) (level asked) asked) _ nan (omega (arith, v.stands.inside, S.as_many));
              none_deeper = λ j a b m. v.none j (omega (arith, lev_is)) b m;
              count = refl;
            },
          )

-- of a sound tree that is the lookup, refused or not
pub trusting_lookup : (t : Tree) → Sound t → (asked : ℕ) → LookupSays t asked (trusting_of (nodes t) t.distances asked)
trusting_lookup t S asked =
    decided (is_cell asked) (λ c. subst (LookupSays t asked) (trusting_down (nodes t) t.distances asked c) (down_says t S asked c))
    (λ c. subst (LookupSays t asked) (trusting_refuses (nodes t) t.distances asked c) (inr (S, c, refl)))

-- at most 21 keys are tried
pub tried_most : (t : Tree) (asked : ℕ) (r : Result Lookup Refusal) → LookupSays t asked r → tried_in r ≤ deepest
tried_most t asked (Ok (Found key distance place tried)) (_, _, d) = omega (arith, d.count, d.not_root, level_le asked)
tried_most t asked (Ok (Nothing tried)) (_, _, _, e) = omega (arith, level_le asked)
tried_most t asked (Err e) s = omega arith

-- ---- always found, unless the root is alone

module _ (t : Tree) (S : Sound t) (more : 1 < length t.keys) where
  -- the cells of level 1 are there
  root_split : (w : ℕ) → w < 8 → In (8 * 1 + w) t.keys
  root_split w h =
      let x : ℕ = get_or t.keys 1 0 in
      let q : In (x / 8) t.keys = parent_at t S 1 (omega arith) more in
      let above : 1 < x = omega (arith, S.ascending 0 1 (omega arith) more, S.first.here) in
      let first : q.place ≡ 0 = omega (arith, up_back t.keys S.ascending q.place 1 q.inside (omega (arith, q.here))) in
      let one : x / 8 ≡ 1 = sym q.here ∙ ap (λ (x : ℕ). get_or t.keys x 0) first ∙ S.first.here in
      in_cast (omega (arith, one)) (beside t S 1 (omega arith) more w h)

  pub always_found : (asked : ℕ) → Cell (level asked) asked → 1 ≤ level asked → NoneDeeper t asked 0 → ⊥
  always_found asked c l none =
      let a = ancestor_cell asked 1 c l in
      none 1 (omega arith) l
      (subst (λ (x : ℕ). In x t.keys) (omega (arith, a.low, a.high)) (root_split (ancestor asked 1 - 8) (omega (arith, a.low, a.high))))
