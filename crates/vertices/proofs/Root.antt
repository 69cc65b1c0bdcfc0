-- The root's block, and the tables of the whole list, on any table of keys. Assumes nothing.
use Rattle.std.specs.Prelude.{Ok}
use Prim.Native.Nat.{ℕ, zero, suc, ◌+◌, ◌-◌, ◌^◌, ◌≤◌, ◌<◌}
use mathlib.Core.Path.{◌≡◌, refl, sym, ◌∙◌, ap, subst}
use mathlib.Core.Bool.{Bool, true, false}
use mathlib.Core.List.{List, [], ◌∷◌, ◌++◌, append-nil}
use native.Mathlib.Nat.{zero-add, zero-div}
use native.Mathlib.Omega.{arith}
use lib.Dec.{eqb}
use lib.ListN.{length, get_or, take, drop, length-drop, drop_of_length-le}
use lib.Seq.{sets, sets-eq, drop-drop, take_all}
use borrow.Rule.Slice.PartMut.{mid_of, put_mid}
use Rattle.morton.specs.Field.{coord, third, weave}
use Rattle.morton.specs.Level.{limit, if₀}
use Rattle.morton.proofs.Dilated.{axes}
use Rattle.tree.specs.Down.{Nodes, first_at, leads, steps, reach, is_split, over, place_over}
use Rattle.tree.proofs.Lists.{unless}
use Rattle.geometry.specs.Near.{near, in_cube}
use Rattle.vertices.specs.Walk.{split_at, entry, place_at, Spot, divided, meets, walked, spots_of, vertices_of, levels_of}
use Rattle.vertices.specs.Listing.{lists_of, written, Room, TrustingSays}
use Rattle.vertices.specs.Cells.{Cells}
use Rattle.vertices.specs.Block.{marked, Here, Laid, Stored}
use Rattle.vertices.proofs.Storing.{eight_at_lem, stored_none}
use Rattle.vertices.proofs.Law.{meets_is}
use Rattle.geometry.proofs.Offsets.{Within, no_bits, cube_in, cube_out}
use Rattle.vertices.proofs.Entries.{split_low, split_at_lem, entry_in, entry_out, place_in, place_out}
use Rattle.vertices.proofs.Marks.{marked_first, marked_one}
use Rattle.vertices.proofs.Blocks.{none_is, some_if, walked_end, ending_none, vertices_length, levels_length}

module _ (ks : Nodes) where
  -- of the root's entries the first alone lies in the cube
  root_in : in_cube 0 1 0 ≡ true
  unfolding Within
  root_in = cube_in 0 1 0 (λ a h. omega (arith, zero-div (2 ^ a)))

  root_out : (o : ℕ) → suc o < 8 → in_cube 0 1 (suc o) ≡ false
  unfolding Within third
  root_out o h = cube_out 0 1 (suc o) (λ w. omega (arith, no_bits (suc o) h (λ a l. omega (arith, w a l, none a))))
    where
      none : (a : ℕ) → coord 0 1 a ≡ 0
      none a = refl

  split_root : split_at ks 0 (entry ks 0 1 0) ≡ steps ks 0 1
  unfolding is_split reach near over third weave
  split_root = ap (split_at ks 0) (entry_in ks 0 1 0 root_in) ∙ split_at_lem ks 0 1 (omega arith)

  split_rest : (o : ℕ) → suc o < 8 → split_at ks 0 (entry ks 0 1 (suc o)) ≡ false
  split_rest o h = split_low ks 0 (entry ks 0 1 (suc o)) (omega (arith, entry_out ks 0 1 (suc o) (root_out o h)))

  place_root : place_at ks 0 1 0 ≡ 0
  unfolding near place_over third weave
  place_root = place_in ks 0 1 0 root_in

  -- where they stand
  abbrev root_at : ℕ → ℕ → ℕ
  root_at p zero = p
  root_at p (suc o) = 0

  -- where the root's children stand
  module _ (p : ℕ) (e : p ≡ get_or ks.firsts 0 0) where
    steps_root : (r : Bool) → leads ks.keys p 8 ≡ r → steps ks 0 1 ≡ r
    unfolding steps first_at
    steps_root r t = ap (λ (n : ℕ). leads ks.keys n 8) (sym e) ∙ t

    pub root_here : leads ks.keys p 8 ≡ true → Here ks 0 1 (p ∷ 0 ∷ 0 ∷ 0 ∷ 0 ∷ 0 ∷ 0 ∷ 0 ∷ []) 1 7 × (divided ks 0 1 ≡ true)
    unfolding divided first_at marked third
    root_here s =
        let r : steps ks 0 1 ≡ true = steps_root true s in (
          record {
            small = omega arith;
            marks = marks r;
            stands = stands;
            side = record { small = omega arith; marks = axes (λ a. marked 7 a ≡ eqb (coord 0 1 a) 0) refl refl refl };
          },
          some_if (λ o. split_at ks 0 (entry ks 0 1 o)) 8 0 (omega arith) (split_root ∙ r),
        )
      where
        marks : steps ks 0 1 ≡ true → (o : ℕ) → o < 8 → marked 1 o ≡ split_at ks 0 (entry ks 0 1 o)
        marks r zero h = marked_first ∙ sym (split_root ∙ r)
        marks r (suc o) h = marked_one (suc o) (omega arith) ∙ sym (split_rest o h)

        stands : (o : ℕ) → o < 8
            → get_or (p ∷ 0 ∷ 0 ∷ 0 ∷ 0 ∷ 0 ∷ 0 ∷ 0 ∷ []) o 0 ≡ if₀ (marked 1 o) (first_at ks (place_at ks 0 1 o)) (place_at ks 0 1 o)
        stands zero h =
            e
            ∙ ap (λ (n : ℕ). get_or ks.firsts n 0) (sym place_root)
            ∙ sym (ap (λ (r : Bool). if₀ r (first_at ks (place_at ks 0 1 0)) (place_at ks 0 1 0)) marked_first)
        stands (suc o) h =
            eight_at_lem (root_at p) (suc o) h
            ∙ sym (place_out ks 0 1 (suc o) (root_out o h))
            ∙ sym (ap (λ (r : Bool). if₀ r (first_at ks (place_at ks 0 1 (suc o))) (place_at ks 0 1 (suc o))) (marked_one (suc o) (omega arith)))

    pub root_none : leads ks.keys p 8 ≡ false → spots_of ks ≡ []
    unfolding divided spots_of
    root_none n =
        walked_end ks 0 1 limit (none_is (λ o. split_at ks 0 (entry ks 0 1 o)) 8 unsplit)
        ∙ ending_none ks 0 1 (unless (meets ks 0 1) (λ m. omega (arith, (meets_is ks 0 1 m).full 1 (omega arith), entry_out ks 0 1 1 (root_out 0 (omega arith)))))
      where
        unsplit : (o : ℕ) → o < 8 → split_at ks 0 (entry ks 0 1 o) ≡ false
        unsplit zero h = split_root ∙ steps_root false n
        unsplit (suc o) h = split_rest o h

    pub root_alone : leads ks.keys p 8 ≡ false → (from room : ℕ) (t : Cells) → Stored ks from room (spots_of ks) 0 0 t t
    root_alone n from room t = subst (λ (ss : List Spot). Stored ks from room ss 0 0 t t) (sym (root_none n)) (stored_none ks from room 0 t)

  pub root_walked : (from room r : ℕ) (t0 t1 : Cells) → Stored ks from room (walked limit ks 0 1) 0 r t0 t1 → Stored ks from room (spots_of ks) 0 r t0 t1
  unfolding spots_of
  root_walked from room r t0 t1 a = a

-- ---- the tables of the call

abbrev pub Whole : Nodes → ℕ → List ℕ → List ℕ → List ℕ → List ℕ → Type 0
Whole ks r v0 l0 v1 l1 = Laid (spots_of ks) 0 r v0 l0 v1 l1

module _ (ks : Nodes) where
  pub count_is : (n : ℕ) (v0 l0 v1 l1 : List ℕ) → Whole ks n v0 l0 v1 l1 → n ≡ length (spots_of ks)
  count_is n v0 l0 v1 l1 w = w.count ∙ zero-add (length (spots_of ks))

  part_written : (t p : List ℕ) (start : ℕ) (xs : List ℕ) → start + length xs ≤ length t → p ≡ sets (mid_of start (length t - start) t) 0 xs
      → put_mid start (length t - start) t p ≡ written t start xs
  part_written t p start xs h e =
      ap (λ (l : List ℕ). take start t ++ (p ++ l)) (drop_of_length-le (drop start t) {i = length t - start} (omega (arith, length-drop start t)))
      ∙ ap (λ (l : List ℕ). take start t ++ l)
      (append-nil p
      ∙ e
      ∙ ap (λ (l : List ℕ). sets l 0 xs) (take_all (length t - start) (drop start t) (omega (arith, length-drop start t)))
      ∙ sets-eq xs (drop start t) 0 (omega (arith, length-drop start t))
      ∙ ap (λ (l : List ℕ). xs ++ l) (ap (λ (n : ℕ). drop n (drop start t)) (zero-add (length xs)) ∙ drop-drop (length xs) start t))

  -- written into the parts that begin at the start place
  pub wrote : (start n : ℕ) (v0 l0 pv pl : List ℕ) → Whole ks n (mid_of start (length v0 - start) v0) (mid_of start (length l0 - start) l0) pv pl
      → Room start (length (spots_of ks)) (lists_of v0 l0)
      → TrustingSays ks start (lists_of v0 l0) (lists_of (put_mid start (length v0 - start) v0 pv) (put_mid start (length l0 - start) l0 pl)) (Ok n)
  wrote start n v0 l0 pv pl w r =
      let c : n ≡ length (spots_of ks) = count_is n _ _ pv pl w in
      let hv : start + n ≤ length v0 = omega (arith, r.vertices) in
      let hl : start + n ≤ length l0 = omega (arith, r.levels) in
      let t : (pv ≡ sets (mid_of start (length v0 - start) v0) 0 (vertices_of (spots_of ks))) × (pl ≡ sets (mid_of start (length l0 - start) l0) 0 (levels_of (spots_of ks))) =
      w.tables (fits v0 hv) (fits l0 hl) in
      let pv_is : put_mid start (length v0 - start) v0 pv ≡ written v0 start (vertices_of (spots_of ks)) =
      part_written v0 pv start (vertices_of (spots_of ks)) (omega (arith, vertices_length (spots_of ks))) t.0 in
      let pl_is : put_mid start (length l0 - start) l0 pl ≡ written l0 start (levels_of (spots_of ks)) =
      part_written l0 pl start (levels_of (spots_of ks)) (omega (arith, levels_length (spots_of ks))) t.1 in
      (c, record { vertices = hv; levels = hl }, λ i. record { vertices = pv_is i; levels = pl_is i })
    where
      fits : (t : List ℕ) → start + n ≤ length t → n ≤ length (mid_of start (length t - start) t)
      fits t h = omega (arith, ap length (take_all (length t - start) (drop start t) (omega (arith, length-drop start t))), length-drop start t)
