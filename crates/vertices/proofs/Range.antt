-- The listed vertices of a range: of two ranges in a row, of a cell where no entry of the block is split, of the whole cube. Assumes nothing.
use Prim.Native.Nat.{ℕ, zero, suc, ◌+◌, ◌-◌, ◌≤◌, ◌<◌}
use mathlib.Core.Path.{◌≡◌, refl, ◌∙◌, subst}
use mathlib.Core.Bool.{false}
use mathlib.Core.Logic.{⊎_elim}
use mathlib.Core.List.{List, [], ◌∷◌, ◌++◌}
use native.Mathlib.Decide.{dec_lt}
use native.Mathlib.Omega.{arith}
use lib.Ieee.{Float}
use lib.ListN.{length, get_or, length-append, get_or-append}
use lib.Seq.{get_or-append-add}
use Rattle.morton.specs.Level.{deepest, limit, Cell, level}
use Rattle.morton.proofs.Levels.{eight_pos}
use Rattle.tree.specs.Tree.{In, Ascending, Sound, tree_of}
use Rattle.tree.specs.Down.{Nodes}
use Rattle.geometry.specs.Listing.{given, GivenAt, Listed}
use Rattle.tree.proofs.Lists.{in_at, in_head, in_none, in_one, in_left, in_right, in_append, ascending_asc, asc_at, asc_append}
use Rattle.geometry.proofs.Vertex.{vertex_cell}
use Rattle.vertices.specs.Walk.{split_at, entry, low_corner}
use Rattle.vertices.proofs.Sound.{SoundKeys, Block}
use Rattle.vertices.proofs.Spot.{Leaf, Meets, GivenBy, corner_next, corner_pos, Caught, caught, giver}

-- the listed vertices from lo up to hi, with their levels
pub record Ranged (ks : Nodes) (lo hi : ℕ) (vs ls : List ℕ) : Type 0 where
  pub ascending : Ascending vs
  pub between : (x : ℕ) → In x vs → (lo ≤ x) × (x < hi)
  pub paired : length ls ≡ length vs
  pub whole : (k w : ℕ) → Leaf ks k → w < 8 → lo ≤ given k w → given k w < hi → In (given k w) vs
  pub from : (i : ℕ) → i < length vs → GivenBy ks (get_or vs i 0) (get_or ls i 0)
  pub greatest : (i k w : ℕ) → i < length vs → Leaf ks k → w < 8 → given k w ≡ get_or vs i 0 → level k ≤ get_or ls i 0

-- ---- two ranges in a row

module _ (ks : Nodes) (lo mid hi : ℕ) (vs ls us ms : List ℕ) (a : Ranged ks lo mid vs ls) (b : Ranged ks mid hi us ms) (h1 : lo ≤ mid) (h2 : mid ≤ hi) where
  -- a place of the two is one of the first or one of the second
  data Side (i : ℕ) : Type 0 where
    left : i < length vs → get_or (vs ++ us) i 0 ≡ get_or vs i 0 → get_or (ls ++ ms) i 0 ≡ get_or ls i 0 → Side i
    right : (k : ℕ) → k < length us → get_or (vs ++ us) i 0 ≡ get_or us k 0 → get_or (ls ++ ms) i 0 ≡ get_or ms k 0 → Side i

  side_of_lem : (i : ℕ) → i < length (vs ++ us) → Side i
  side_of_lem i h =
      elim (dec_lt i (length vs)) [
        | yes l ↦ left l (get_or-append vs us 0 i l) (get_or-append ls ms 0 i (omega (arith, a.paired)))
        | no l ↦
            let e : length vs + (i - length vs) ≡ i = omega arith in
            let f : length ls + (i - length vs) ≡ i = omega (arith, a.paired) in
            right (i - length vs) (omega (arith, length-append vs us))
            (subst (λ (n : ℕ). get_or (vs ++ us) n 0 ≡ get_or us (i - length vs) 0) e (get_or-append-add vs us (i - length vs) 0))
            (subst (λ (n : ℕ). get_or (ls ++ ms) n 0 ≡ get_or ms (i - length vs) 0) f (get_or-append-add ls ms (i - length vs) 0))
      ]

  from_of : (i : ℕ) → Side i → GivenBy ks (get_or (vs ++ us) i 0) (get_or (ls ++ ms) i 0)
  from_of i (left l e f) = rw (e, f) (a.from i l)
  from_of i (right k l e f) = rw (e, f) (b.from k l)

  greatest_of : (i k w : ℕ) → Side i → Leaf ks k → w < 8 → given k w ≡ get_or (vs ++ us) i 0 → level k ≤ get_or (ls ++ ms) i 0
  greatest_of i k w (left l e f) leaf hw g = omega (arith, a.greatest i k w l leaf hw (g ∙ e))
  greatest_of i k w (right j l e f) leaf hw g = omega (arith, b.greatest j k w l leaf hw (g ∙ e))

  pub joined : Ranged ks lo hi (vs ++ us) (ls ++ ms)
  joined =
      record {
        ascending =
            asc_at lo (vs ++ us)
            (asc_append lo mid vs us (ascending_asc lo vs a.ascending (λ x m. (a.between x m).0)) (λ x m. (a.between x m).1) h1
            (ascending_asc mid us b.ascending (λ x m. (b.between x m).0)));
        between = λ x m.
            ⊎_elim (λ i. ((a.between x i).0, omega (arith, a.between x i))) (λ i. (omega (arith, b.between x i), (b.between x i).1)) (in_append vs us m);
        paired = omega (arith, length-append vs us, length-append ls ms, a.paired, b.paired);
        whole = λ k w leaf hw l u.
            elim (dec_lt (given k w) mid) [
              | yes g ↦ in_left vs us (a.whole k w leaf hw l g)
              | no g ↦ in_right vs us (b.whole k w leaf hw (omega arith) u)
            ];
        from = λ i h. from_of i (side_of_lem i h);
        greatest = λ i k w h leaf hw g. greatest_of i k w (side_of_lem i h) leaf hw g;
      }

-- none, where no leaf gives one
ranged_none : (ks : Nodes) (lo hi : ℕ) → ((k w : ℕ) → Leaf ks k → w < 8 → lo ≤ given k w → given k w < hi → ⊥) → Ranged ks lo hi [] []
ranged_none ks lo hi f =
    record {
      ascending = λ i j h l. absurd (omega arith);
      between = λ x m. absurd (in_none m);
      paired = refl;
      whole = λ k w leaf hw l u. absurd (f k w leaf hw l u);
      from = λ i h. absurd (omega arith);
      greatest = λ i k w h leaf hw g. absurd (omega arith);
    }

pub ranged_empty : (ks : Nodes) (lo : ℕ) → Ranged ks lo lo [] []
ranged_empty ks lo = ranged_none ks lo lo (λ k w leaf hw l u. omega arith)

-- ---- a cell where no entry is split

module _ (ks : Nodes) (t : SoundKeys ks) (l c : ℕ) (hl : l ≤ limit) (cc : Cell l c) (blk : Block ks l c)
    (still : (o : ℕ) → o < 8 → split_at ks l (entry ks l c o) ≡ false) where
  corner_some : 1 ≤ low_corner l c
  corner_some = corner_pos l c (omega (arith, cc.low, eight_pos l))

  found : (k w : ℕ) (leaf : Leaf ks k) (hw : w < 8) (lo : low_corner l c ≤ given k w) (hi : given k w < low_corner l (c + 1))
      → Caught ks t k w leaf hw (omega (arith, corner_some)) l c hl blk still lo hi
  found k w leaf hw lo hi = caught ks t k w leaf hw (omega (arith, corner_some)) l c hl blk still lo hi

  pub none_here : (Meets ks l c → ⊥) → Ranged ks (low_corner l c) (low_corner l (c + 1)) [] []
  none_here n = ranged_none ks _ _ (λ k w leaf hw lo hi. n (found k w leaf hw lo hi).meets)

  pub one_here : Meets ks l c → Ranged ks (low_corner l c) (low_corner l (c + 1)) (low_corner l c ∷ []) (l ∷ [])
  one_here m =
      record {
        ascending = λ i j h g. absurd (omega arith);
        between = λ x i. (omega (arith, in_one i), omega (arith, in_one i, corner_next l c, eight_pos (deepest - l)));
        paired = refl;
        whole = λ k w leaf hw lo hi. in_head (found k w leaf hw lo hi).is;
        from = λ i h. first i (omega arith);
        greatest = λ i k w h leaf hw g. most i k w (omega arith) leaf hw g;
      }
    where
      first : (i : ℕ) → i ≡ 0 → GivenBy ks (get_or (low_corner l c ∷ []) i 0) (get_or (l ∷ []) i 0)
      first i e = rw e (giver ks t l c hl cc blk still m)

      most : (i k w : ℕ) → i ≡ 0 → Leaf ks k → w < 8 → given k w ≡ get_or (low_corner l c ∷ []) i 0 → level k ≤ get_or (l ∷ []) i 0
      most zero k w e leaf hw g = (found k w leaf hw (omega arith) (omega (arith, corner_next l c, eight_pos (deepest - l)))).level_le
      most (suc i) k w e leaf hw g = absurd (omega arith)

-- ---- the whole cube

pub all_listed : (ks : Nodes) (ds : List Float) (leaves : List ℕ) → Sound (tree_of ks.keys ds ks.firsts leaves) → (vs ls : List ℕ)
    → Ranged ks (low_corner 0 1) (low_corner 0 2) vs ls → Listed leaves vs ls
unfolding low_corner
all_listed ks ds leaves s vs ls r =
    record {
      whole = λ k w m hw p. r.whole k w (leaf k m) hw (cell k w p).low (cell k w p).high;
      ascending = r.ascending;
      paired = r.paired;
      from = λ i h. (omega (arith, r.between (get_or vs i 0) (in_at vs i h)), given_at (r.from i h));
      greatest = λ i k w h m hw g. r.greatest i k w h (leaf k m) hw g;
    }
  where
    leaf : (k : ℕ) → In k leaves → Leaf ks k
    leaf k m = record { present = (s.leaves_childless k m).0; childless = (s.leaves_childless k m).1 }

    cell : (k w : ℕ) → 0 < given k w → Cell deepest (given k w)
    cell k w p = vertex_cell (level k) k w (given k w) refl p

    given_at : {v L : ℕ} → GivenBy ks v L → GivenAt leaves v L
    given_at g =
        record {
          leaf = g.leaf;
          corner = g.corner;
          is_leaf = s.childless_leaves g.leaf g.is_leaf.present g.is_leaf.childless;
          is_corner = g.is_corner;
          gives = g.gives;
          at_level = g.at_level;
        }
