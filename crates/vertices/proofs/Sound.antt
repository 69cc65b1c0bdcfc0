-- What the walk's tests and entries are in a sound tree. Assumes nothing.
use Prim.Native.Nat.{ℕ, zero, suc, ◌+◌, ◌*◌, ◌-◌, ◌/◌, ◌%◌, ◌^◌, ◌≤◌, ◌<◌}
use mathlib.Core.Path.{◌≡◌, refl, sym, ◌∙◌, ap, subst}
use mathlib.Core.Bool.{Bool, true, false}
use mathlib.Core.Logic.{◌⊎◌, inr, ⊎_elim}
use mathlib.Core.List.{List}
use native.Mathlib.Nat.{div-le_self}
use native.Mathlib.Decide.{dec_lt}
use native.Mathlib.Omega.{arith}
use lib.Bits.{bit_and, and_mask}
use lib.Ieee.{Float}
use Rattle.morton.specs.Level.{Cell}
use Rattle.morton.proofs.Levels.{eight_pos}
use Rattle.morton.proofs.Fields.{div_step}
use Rattle.tree.specs.Tree.{In, NoChild, Sound, tree_of, Decides}
use Rattle.tree.specs.Down.{Nodes, is_split, over}
use Rattle.tree.proofs.Down.{reached}
use Rattle.tree.proofs.Finding as finding
use Rattle.tree.proofs.Lists.{in_cast, stands_in}
use Rattle.geometry.specs.Near.{near}
use Rattle.vertices.specs.Walk.{split_at, entry, divided}
use Rattle.geometry.proofs.Offsets.{Within, within_or_not, near_cell, cube_in, cube_out}
use Rattle.vertices.proofs.Entries.{split_low, split_at_lem, entry_in, entry_out, from, fine_down}
use Rattle.vertices.proofs.Blocks.{some_is}

-- the keys of some sound tree
pub record SoundKeys (ks : Nodes) : Type 0 where
  pub distances : List Float
  pub leaves : List ℕ
  pub sound : Sound (tree_of ks.keys distances ks.firsts leaves)

-- p is the node over the cell x of level l: x itself, or a leaf that has it
pub record Over (ks : Nodes) (l x p : ℕ) : Type 0 where
  pub up : ℕ
  pub low : up ≤ l
  pub is : x / 8 ^ up ≡ p
  pub here : In p ks.keys
  pub leaf : 0 < up → NoChild p ks.keys

-- p has level l or more, and children
pub record SplitAt (ks : Nodes) (l p : ℕ) : Type 0 where
  pub deep : 8 ^ l ≤ p
  pub split : In (8 * p) ks.keys

-- an entry of a first child has its own level
abbrev pub Fresh : Nodes → ℕ → ℕ → Type 0
Fresh ks l c = c % 8 ≡ 0 → (l ≡ 0) ⊎ ((o : ℕ) × (o < 8) × (8 ^ l ≤ entry ks l c o))

-- what the entries of the cell c of level l are
pub record Block (ks : Nodes) (l c : ℕ) : Type 0 where
  pub over : (o : ℕ) → o < 8 → Within l c o → Over ks l (near l c o) (entry ks l c o)
  pub out : (o : ℕ) → o < 8 → (Within l c o → ⊥) → entry ks l c o ≡ 0
  pub fresh : Fresh ks l c
  pub marks : (o : ℕ) → o < 8 → Decides (split_at ks l (entry ks l c o)) (SplitAt ks l (entry ks l c o))

-- ---- nodes over cells

-- what lies above a cell of level l is no cell of that level
above_lt : (l x j : ℕ) → Cell l x → x / 8 ^ suc j < 8 ^ l
above_lt l x j c = let e : x / 8 ^ suc j ≡ x / 8 / 8 ^ j = div_step x 8 j in omega (arith, div-le_self (x / 8) (8 ^ j), c.high)

module _ (ks : Nodes) where
  -- a node of the cell's own level is that cell
  pub same_level : (l x p : ℕ) → Cell l x → 8 ^ l ≤ p → Over ks l x p → p ≡ x
  same_level l x p c h v = go v.up refl
    where
      go : (j : ℕ) → v.up ≡ j → p ≡ x
      go zero e = sym v.is ∙ (ap (λ (n : ℕ). x / 8 ^ n) e ∙ omega arith)
      go (suc j) e = absurd (omega (arith, above_lt l x j c, sym v.is ∙ ap (λ (n : ℕ). x / 8 ^ n) e))

  module _ (t : SoundKeys ks) where
    -- the node over a cell has no children, unless it is the cell itself and split
    pub over_childless : (l x p : ℕ) → Cell l x → Over ks l x p → (SplitAt ks l p → ⊥) → NoChild p ks.keys
    over_childless l x p c v n = go v.up refl
      where
        go : (j : ℕ) → v.up ≡ j → NoChild p ks.keys
        go (suc j) e = v.leaf (omega arith)
        go zero e =
            let s : x ≡ p = omega arith ∙ (ap (λ (n : ℕ). x / 8 ^ n) (sym e) ∙ v.is) in
            ⊎_elim (λ a. absurd (n (record { deep = omega (arith, c.low); split = in_cast (omega arith) (a 0 (omega arith)) }))) (λ f. f)
            (t.sound.children p v.here)

    -- ---- the walk's entries

    split_decides : (l x : ℕ) → Cell l x → In x ks.keys → Decides (is_split ks l x) (In (8 * x) ks.keys)
    split_decides l x c m = (reached (tree_of ks.keys t.distances ks.firsts t.leaves) t.sound l x c m).split

    at_decides : (l x p : ℕ) → Cell l x → Over ks l x p → Decides (split_at ks l p) (SplitAt ks l p)
    at_decides l x p c v =
        elim (dec_lt p (8 ^ l)) [
          | yes h ↦ rw (split_low ks l p h) (λ s. omega (arith, s.deep))
          | no h ↦
              let e : p ≡ x = same_level l x p c (omega arith) v in
              rw (split_at_lem ks l p (omega arith)) (go (omega arith) (is_split ks l p) (subst (λ (k : ℕ). Decides (is_split ks l k) (In (8 * k) ks.keys)) (sym e) (split_decides l x c (in_cast (sym e) v.here))))
        ]
      where
        go : 8 ^ l ≤ p → (r : Bool) → Decides r (In (8 * p) ks.keys) → Decides r (SplitAt ks l p)
        go h true d = record { deep = h; split = d }
        go h false d = λ s. d s.split

    over_is : (l x : ℕ) → Cell l x → Over ks l x (over ks l x)
    over_is l x c =
        let v = finding.over_is (tree_of ks.keys t.distances ks.firsts t.leaves) t.sound l x c in
        record {
          up = l - v.lev;
          low = omega arith;
          is = sym v.is;
          here = stands_in v.stands;
          leaf = λ h. ⊎_elim
              (λ a.
              let y : ℕ = x / 8 ^ (l - v.lev - 1) in
              let up : y / 8 ≡ over ks l x = finding.next_up ks l x v.lev (omega arith) ∙ sym v.is in
              let d : l - suc v.lev ≡ l - v.lev - 1 = omega arith in
              absurd (v.none (suc v.lev) (omega arith) (omega arith) (in_cast (ap (λ (n : ℕ). x / 8 ^ n) d ∙ omega arith) (a (y % 8) (omega arith)))))
              (λ n. n)
              (t.sound.children (over ks l x) (stands_in v.stands));
        }

    pub block_of : (l c : ℕ) → Fresh ks l c → Block ks l c
    block_of l c fresh =
        record {
          over = overs;
          out = λ o ho n. entry_out ks l c o (cube_out l c o n);
          fresh = fresh;
          marks = marks;
        }
      where
        overs : (o : ℕ) → o < 8 → Within l c o → Over ks l (near l c o) (entry ks l c o)
        overs o ho w = subst (Over ks l (near l c o)) (sym (entry_in ks l c o (cube_in l c o w))) (over_is l (near l c o) (near_cell l c o))

        marks : (o : ℕ) → o < 8 → Decides (split_at ks l (entry ks l c o)) (SplitAt ks l (entry ks l c o))
        marks o ho =
            elim (within_or_not l c o) [
              | yes w ↦ at_decides l (near l c o) (entry ks l c o) (near_cell l c o) (overs o ho w)
              | no n ↦
                  let z : entry ks l c o ≡ 0 = entry_out ks l c o (cube_out l c o n) in
                  rw (split_low ks l (entry ks l c o) (omega (arith, eight_pos l))) (λ s. omega (arith, s.deep, eight_pos l))
            ]

  -- a first child of a divided cell has an entry of its own level
  pub fresh_child : (l c q : ℕ) → q < 8 → divided ks l c ≡ true → Fresh ks (suc l) (8 * c + q)
  unfolding divided from
  fresh_child l c q hq d z =
      let s = some_is (λ o. split_at ks l (entry ks l c o)) 8 d in
      let q0 : 0 ≡ q = omega arith in
      inr (
        s.0,
        s.1,
        subst (λ (w : ℕ). 8 ^ suc l ≤ entry ks (suc l) (8 * c + w) s.0) q0
            (fine_down ks l c 0 s.0 (omega arith) s.1 (ap (λ (o : ℕ). split_at ks l (entry ks l c o)) (kept_all s.0 s.1) ∙ s.2)),
      )
    where
      kept_all : (o : ℕ) → o < 8 → bit_and o (7 - 0) ≡ o
      kept_all o h = and_mask o 3 ∙ omega arith
