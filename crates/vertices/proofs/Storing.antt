-- What is wanted of the walk, and what the tables of cells hold, on any table of keys. Assumes nothing.
use Prim.Native.Nat.{ℕ, zero, suc, ◌+◌, ◌*◌, ◌-◌, ◌/◌, ◌≤◌, ◌<◌, min}
use mathlib.Core.Path.{◌≡◌, refl, sym, ◌∙◌, ap, subst}
use mathlib.Core.Bool.{Bool, true, false, cond}
use mathlib.Core.Logic.{inr, ⊎_elim}
use mathlib.Core.List.{List, [], ◌∷◌, ◌++◌, append-nil, append_assoc}
use native.Mathlib.Nat.{mul-div_cancel, zero-add}
use native.Mathlib.Numerals.{add-one}
use native.Mathlib.Decide.{dec_lt}
use native.Mathlib.Omega.{arith}
use lib.Dec.{leb}
use lib.ListN.{length, get_or, set, take, length-append}
use lib.Seq.{sets, sets-eq, take_all}
use borrow.Author.Tests.{le-leb, lt-leb}
use Rattle.morton.specs.Level.{deepest, limit}
use Rattle.morton.proofs.Levels.{eight_pos}
use Rattle.tree.specs.Down.{Nodes}
use Rattle.vertices.specs.Walk.{place_at, Spot, in_turn, low_corner, divided, meets, walked, spots_of, vertices_of, levels_of}
use Rattle.vertices.specs.Cells.{since, wanted, eight, round_of, places_of, Cells, cells_of, room_of, CellsSays}
use Rattle.vertices.specs.Listing.{written}
use Rattle.vertices.specs.declared.Out.{Out}
use Rattle.vertices.specs.Block.{lowered_place, the_cells, SameSize, SameOut, Laid, Stored, Took, TakeSays, Skipped}
use Rattle.vertices.proofs.Blocks.{walk_ind, Each, each_map, each_turn, ending_by, walked_end, walked_on, walked_stop, ending_one, ending_none, vertices_append, levels_append, vertices_length, levels_length, sets_append}
use Rattle.vertices.proofs.Law.{corner_last, corner_mono}
use Rattle.vertices.proofs.Spot.{corner_next}

-- ---- what is wanted

module _ (from : ℕ) where
  since_append : (ss ts : List Spot) → since from (ss ++ ts) ≡ since from ss ++ since from ts
  unfolding since
  since_append [] ts = refl
  since_append (s ∷ ss) ts = go (leb from s.vertex) (since_append ss ts)
    where
      go : (r : Bool) → since from (ss ++ ts) ≡ since from ss ++ since from ts
          → cond r (s ∷ since from (ss ++ ts)) (since from (ss ++ ts)) ≡ cond r (s ∷ since from ss) (since from ss) ++ since from ts
      go true e = ap (λ (xs : List Spot). s ∷ xs) e
      go false e = e

  take_append : (xs ys : List Spot) (k : ℕ) → take k (xs ++ ys) ≡ take k xs ++ take (k - length (take k xs)) ys
  take_append [] ys zero = refl
  take_append [] ys (suc k) = let e : suc k ≡ suc k - 0 = omega arith in ap (λ (n : ℕ). take n ys) e
  take_append (x ∷ xs) ys zero = refl
  take_append (x ∷ xs) ys (suc k) =
      let e : suc k - suc (length (take k xs)) ≡ k - length (take k xs) = omega arith in
      ap (λ (l : List Spot). x ∷ l) (take_append xs ys k) ∙ ap (λ (n : ℕ). x ∷ (take k xs ++ take n ys)) (sym e)

  wanted_append : (ss ts : List Spot) (room : ℕ) → wanted from room (ss ++ ts) ≡ wanted from room ss ++ wanted from (room - length (wanted from room ss)) ts
  unfolding wanted
  wanted_append ss ts room = ap (take room) (since_append ss ts) ∙ take_append (since from ss) (since from ts) room

  wanted_nothing : (ss : List Spot) → wanted from 0 ss ≡ []
  unfolding wanted
  wanted_nothing ss = none (since from ss)
    where
      none : (xs : List Spot) → take 0 xs ≡ []
      none [] = refl
      none (x ∷ xs) = refl

  pub wanted_empty : (room : ℕ) → wanted from room [] ≡ []
  unfolding wanted since
  wanted_empty zero = refl
  wanted_empty (suc room) = refl

  wanted_most : (room : ℕ) (ss : List Spot) → length (wanted from room ss) ≤ room
  unfolding wanted
  wanted_most room ss = most room (since from ss)
    where
      most : (n : ℕ) (xs : List Spot) → length (take n xs) ≤ n
      most zero [] = omega arith
      most zero (x ∷ xs) = omega arith
      most (suc n) [] = omega arith
      most (suc n) (x ∷ xs) = omega (arith, most n xs)

  module _ (s : Spot) (room : ℕ) where
    wanted_one : from ≤ s.vertex → 0 < room → wanted from room (s ∷ []) ≡ s ∷ []
    unfolding wanted since
    wanted_one h p = ap (λ (r : Bool). take room (cond r (s ∷ []) [])) (le-leb from s.vertex h) ∙ first room p
      where
        first : (n : ℕ) → 0 < n → take n (s ∷ []) ≡ s ∷ []
        first zero p = absurd (omega arith)
        first (suc zero) p = refl
        first (suc (suc n)) p = refl

    wanted_not : s.vertex < from → wanted from room (s ∷ []) ≡ []
    unfolding wanted since
    wanted_not h = ap (λ (r : Bool). take room (cond r (s ∷ []) [])) (lt-leb from s.vertex h) ∙ wanted_empty room

  -- all are less than a number
  abbrev Below : ℕ → List Spot → Type 0
  Below hi = Each (λ s. s.vertex < hi)

  wanted_below : (ss : List Spot) (hi room : ℕ) → hi ≤ from → Below hi ss → wanted from room ss ≡ []
  unfolding wanted since
  wanted_below ss hi room h b = ap (take room) (none ss b) ∙ wanted_empty room
    where
      none : (ss : List Spot) → Below hi ss → since from ss ≡ []
      none [] b = refl
      none (s ∷ ss) b = ap (λ (r : Bool). cond r (s ∷ since from ss) (since from ss)) (lt-leb from s.vertex (omega (arith, b.0))) ∙ none ss b.1

  -- those of a cell are less than the next cell's low corner
  module _ (ks : Nodes) where
    below_walked : (f l c : ℕ) → l + f ≡ limit → Below (low_corner l (c + 1)) (walked f ks l c)
    below_walked f l c h =
        walk_ind ks (λ l c. Unit {0}) (λ l c. Below (low_corner l (c + 1))) (λ l c q h a d. tt)
        (λ l c h a d. ending_by ks l c (Below (low_corner l (c + 1))) (λ e. (omega (arith, corner_next l c, eight_pos (deepest - l)), tt)) (λ e. tt))
        (λ l c e a d. tt)
        (λ l c h g each. each_turn (λ s. s.vertex < low_corner l (c + 1)) g 8
        (λ q hq. each_map (λ s k. omega (arith, corner_last l c (omega arith), corner_mono (suc l) (8 * c + q + 1) (8 * c + 8) (omega arith))) (g q) (each q hq)))
        f l c h tt

-- ---- the tables

pub eight_at_lem : (f : ℕ → ℕ) (i : ℕ) → i < 8 → get_or (eight f) i 0 ≡ f i
eight_at_lem f zero h = refl
eight_at_lem f (suc zero) h = refl
eight_at_lem f (suc (suc zero)) h = refl
eight_at_lem f (suc (suc (suc zero))) h = refl
eight_at_lem f (suc (suc (suc (suc zero)))) h = refl
eight_at_lem f (suc (suc (suc (suc (suc zero))))) h = refl
eight_at_lem f (suc (suc (suc (suc (suc (suc zero)))))) h = refl
eight_at_lem f (suc (suc (suc (suc (suc (suc (suc zero))))))) h = refl
eight_at_lem f (suc (suc (suc (suc (suc (suc (suc (suc i)))))))) h = absurd (omega arith)

pub same_all : (t : Out) → SameOut t t
same_all t = record { vertices = refl; levels = refl; places = refl; sizes = record { vertices = refl; levels = refl; places = refl } }

same_join : (t0 t1 t2 : Out) → SameOut t0 t1 → SameOut t1 t2 → SameOut t0 t2
same_join t0 t1 t2 a b =
    record {
      vertices = b.vertices ∙ a.vertices;
      levels = b.levels ∙ a.levels;
      places = b.places ∙ a.places;
      sizes = record {
        vertices = b.sizes.vertices ∙ a.sizes.vertices;
        levels = b.sizes.levels ∙ a.sizes.levels;
        places = b.sizes.places ∙ a.sizes.places;
      };
    }

module _ (ks : Nodes) where
  pub places_append : (ss ts : List Spot) → places_of ks (ss ++ ts) ≡ places_of ks ss ++ places_of ks ts
  unfolding places_of
  places_append [] ts = refl
  places_append (s ∷ ss) ts =
      ap (λ (xs : List ℕ). round_of ks s ++ xs) (places_append ss ts) ∙ sym (append_assoc (round_of ks s) (places_of ks ss) (places_of ks ts))

  pub places_length : (ss : List Spot) → length (places_of ks ss) ≡ 8 * length ss
  unfolding places_of round_of
  places_length [] = refl
  places_length (s ∷ ss) = omega (arith, length-append (round_of ks s) (places_of ks ss), places_length ss)

  module _ (from room : ℕ) where
    stored_not : (ss : List Spot) (at : ℕ) (t : Cells) → wanted from (room - at) ss ≡ [] → Stored ks from room ss at at t t
    unfolding vertices_of levels_of places_of
    stored_not ss at t e =
        record {
          count = omega (arith, ap length e);
          vertices_are = λ p q. sym (ap (λ (xs : List Spot). sets t.vertices at (vertices_of xs)) e);
          levels_are = λ p q. sym (ap (λ (xs : List Spot). sets t.levels at (levels_of xs)) e);
          places_are = λ p. sym (ap (λ (xs : List Spot). sets t.places (8 * at) (places_of ks xs)) e);
        }

    pub stored_none : (at : ℕ) (t : Cells) → Stored ks from room [] at at t t
    stored_none at t = stored_not [] at t (wanted_empty from (room - at))

    stored_join : (ss ts : List Spot) (at n r : ℕ) (t0 t1 t2 : Cells) → SameSize t0 t1 → Stored ks from room ss at n t0 t1 → Stored ks from room ts n r t1 t2
        → Stored ks from room (ss ++ ts) at r t0 t2
    stored_join ss ts at n r t0 t1 t2 k a b =
        record {
          count = omega (arith, a.count, b.count, ap length both, length-append first second);
          vertices_are = λ p q. one vertices_of at n _ _ _ (vertices_append first second) (omega (arith, a.count, vertices_length first))
              (a.vertices_are (small p) (small q)) (b.vertices_are (omega (arith, k.vertices)) (omega (arith, k.levels)));
          levels_are = λ p q. one levels_of at n _ _ _ (levels_append first second) (omega (arith, a.count, levels_length first))
              (a.levels_are (small p) (small q)) (b.levels_are (omega (arith, k.vertices)) (omega (arith, k.levels)));
          places_are = λ p. one (places_of ks) (8 * at) (8 * n) _ _ _ (places_append first second) (omega (arith, a.count, places_length first))
              (a.places_are (omega (arith, b.count))) (b.places_are (omega (arith, k.places)));
        }
      where
        small : {m : ℕ} → r ≤ m → n ≤ m
        small h = omega (arith, b.count)

        first : List Spot
        first = wanted from (room - at) ss

        second : List Spot
        second = wanted from (room - n) ts

        both : wanted from (room - at) (ss ++ ts) ≡ first ++ second
        both =
            let e : room - at - length (wanted from (room - at) ss) ≡ room - n = omega (arith, a.count) in
            wanted_append from ss ts (room - at) ∙ ap (λ (k : ℕ). wanted from (room - at) ss ++ wanted from k ts) e

        -- one table: what is told of each spot stands in it, for the first, then for the second
        one : (f : List Spot → List ℕ) (i j : ℕ) (u0 u1 u2 : List ℕ) → f (first ++ second) ≡ f first ++ f second → j ≡ i + length (f first)
            → u1 ≡ sets u0 i (f first) → u2 ≡ sets u1 j (f second) → u2 ≡ sets u0 i (f (wanted from (room - at) (ss ++ ts)))
        one f i j u0 u1 u2 z e p q =
            q
            ∙ ap (λ (t : List ℕ). sets t j (f second)) p
            ∙ ap (λ (k : ℕ). sets (sets u0 i (f first)) k (f second)) e
            ∙ sym (sets_append (f first) (f second) u0 i)
            ∙ ap (sets u0 i) (sym (ap f both ∙ z))

    -- ---- a divided cell, child by child

    -- q children are walked
    abbrev pub Partly : ℕ → ℕ → ℕ → ℕ → ℕ → Cells → Cells → Type 0
    Partly l c q at n t0 t1 = Stored ks from room (in_turn (λ w. walked (limit - suc l) ks (suc l) (8 * c + w)) q) at n t0 t1

    -- the part of one child
    abbrev pub Grown : ℕ → ℕ → ℕ → ℕ → ℕ → Cells → Cells → Type 0
    Grown l c q n r t1 t2 = Stored ks from room (walked (limit - suc l) ks (suc l) (8 * c + q)) n r t1 t2

    module _ (l c : ℕ) where
      pub partly_none : (at : ℕ) (t : Cells) → Partly l c 0 at at t t
      unfolding in_turn
      partly_none at t = stored_none at t

      pub partly_more : (q at n r : ℕ) (t0 t1 t2 : Cells) → SameSize t0 t1 → Partly l c q at n t0 t1 → Grown l c q n r t1 t2 → Partly l c (q + 1) at r t0 t2
      unfolding in_turn
      partly_more q at n r t0 t1 t2 k a b =
          subst (λ (k : ℕ). Partly l c k at r t0 t2) (sym (add-one q))
          (stored_join (in_turn (λ w. walked (limit - suc l) ks (suc l) (8 * c + w)) q) (walked (limit - suc l) ks (suc l) (8 * c + q)) at n r t0 t1 t2 k a b)

      pub partly_all : (q at n : ℕ) (t0 t1 : Cells) → q ≡ 8 → l < limit → divided ks l c ≡ true → Partly l c q at n t0 t1
          → Stored ks from room (walked (limit - l) ks l c) at n t0 t1
      partly_all q at n t0 t1 e hl d p =
          let s : limit - l ≡ suc (limit - suc l) = omega arith in
          subst (λ (ss : List Spot). Stored ks from room ss at n t0 t1) (sym (ap (λ (k : ℕ). walked k ks l c) s ∙ walked_on ks l c (limit - suc l) d))
          (subst (λ (k : ℕ). Partly l c k at n t0 t1) e p)

      -- a child that is too deep to go on
      pub grown_deep : (q n : ℕ) (t : Cells) → limit ≤ l + 1 → divided ks (suc l) (8 * c + q) ≡ true → Grown l c q n n t t
      grown_deep q n t h d =
          let z : limit - suc l ≡ 0 = omega arith in
          subst (λ (ss : List Spot). Stored ks from room ss n n t t)
          (sym (ap (λ (k : ℕ). walked k ks (suc l) (8 * c + q)) z ∙ walked_stop ks (suc l) (8 * c + q) d)) (stored_none n t)

      -- a child that is skipped
      pub grown_skipped : (q n : ℕ) (t : Cells) → l < limit → Skipped (l + 1) (8 * c + q) from n room → Grown l c q n n t t
      grown_skipped q n t hl k =
          stored_not (walked (limit - suc l) ks (suc l) (8 * c + q)) n t
          (⊎_elim
          (λ h. wanted_below from (walked (limit - suc l) ks (suc l) (8 * c + q)) (low_corner (suc l) (8 * c + q + 1)) (room - n)
          (subst (λ (j : ℕ). low_corner j (8 * c + q + 1) ≤ from) (add-one l) h) (below_walked from ks (limit - suc l) (suc l) (8 * c + q) (omega arith)))
          (λ h.
          let z : room - n ≡ 0 = omega arith in
          ap (λ (j : ℕ). wanted from j (walked (limit - suc l) ks (suc l) (8 * c + q))) z
          ∙ wanted_nothing from (walked (limit - suc l) ks (suc l) (8 * c + q)))
          k)

      -- a child where the walk ends
      module _ (q : ℕ) (still : divided ks (suc l) (8 * c + q) ≡ false) where
        pub grown_none : meets ks (suc l) (8 * c + q) ≡ false → (n : ℕ) (t : Cells) → Grown l c q n n t t
        grown_none m n t =
            subst (λ (ss : List Spot). Stored ks from room ss n n t t)
            (sym (walked_end ks (suc l) (8 * c + q) (limit - suc l) still ∙ ending_none ks (suc l) (8 * c + q) m)) (stored_none n t)

        the_spot : Spot
        the_spot = record { vertex = low_corner (suc l) (8 * c + q); level = suc l }

        grown_ending : meets ks (suc l) (8 * c + q) ≡ true → (n r : ℕ) (t0 t1 : Cells) → Stored ks from room (the_spot ∷ []) n r t0 t1
            → Grown l c q n r t0 t1
        unfolding the_spot
        grown_ending m n r t0 t1 s =
            subst (λ (ss : List Spot). Stored ks from room ss n r t0 t1)
            (sym (walked_end ks (suc l) (8 * c + q) (limit - suc l) still ∙ ending_one ks (suc l) (8 * c + q) m)) s

        -- the places round its low corner
        round_is : (at : List ℕ) (mask : ℕ) → ((o : ℕ) → o < 8 → lowered_place at mask q o ≡ place_at ks (suc l) (8 * c + q) o)
            → eight (lowered_place at mask q) ≡ round_of ks the_spot
        unfolding round_of the_spot low_corner
        round_is at mask h =
            eight_ext (lowered_place at mask q) (λ o. place_at ks (suc l) (8 * c + q) o) h
            ∙ ap (λ (k : ℕ). eight (λ o. place_at ks (suc l) k o)) (sym (mul-div_cancel (8 * c + q) (eight_pos (deepest - suc l))))
          where
            eight_ext : (f g : ℕ → ℕ) → ((o : ℕ) → o < 8 → f o ≡ g o) → eight f ≡ eight g
            eight_ext f g h =
                λ i. h 0 (omega arith) i ∷ h 1 (omega arith) i ∷ h 2 (omega arith) i ∷ h 3 (omega arith) i ∷ h 4 (omega arith) i ∷ h 5 (omega arith) i ∷ h 6 (omega arith) i ∷ h 7 (omega arith) i ∷ []

        pub grown_taken : meets ks (suc l) (8 * c + q) ≡ true → (n r v : ℕ) (at : List ℕ) (mask : ℕ) (t0 t1 : Cells)
            → ((o : ℕ) → o < 8 → lowered_place at mask q o ≡ place_at ks (suc l) (8 * c + q) o) → v ≡ low_corner (l + 1) (8 * c + q) → n < room
            → TakeSays from v (l + 1) n (eight (lowered_place at mask q)) t0 t1 r → Grown l c q n r t0 t1
        unfolding the_spot vertices_of levels_of places_of
        grown_taken m n r v at mask t0 t1 h e hn k = ⊎_elim left right k
          where
            low : v ≡ low_corner (suc l) (8 * c + q)
            low = e ∙ ap (λ (j : ℕ). low_corner j (8 * c + q)) (add-one l)

            left : ((v < from) × (r ≡ n) × (t1 ≡ t0)) → Grown l c q n r t0 t1
            left a =
                grown_ending m n r t0 t1
                (subst (λ (j : ℕ). Stored ks from room (the_spot ∷ []) n j t0 t1) (sym a.1)
                (subst (λ (t : Cells). Stored ks from room (the_spot ∷ []) n n t0 t) (sym a.2)
                (stored_not (the_spot ∷ []) n t0 (wanted_not from the_spot (room - n) (omega (arith, a.0, low))))))

            right : Took from v (l + 1) n (eight (lowered_place at mask q)) t0 t1 r → Grown l c q n r t0 t1
            right a = grown_ending m n r t0 t1 (taken a (wanted_one from the_spot (room - n) (omega (arith, a.wanted_one, low)) (omega arith)))
              where
                taken : Took from v (l + 1) n (eight (lowered_place at mask q)) t0 t1 r → wanted from (room - n) (the_spot ∷ []) ≡ the_spot ∷ []
                    → Stored ks from room (the_spot ∷ []) n r t0 t1
                taken a w =
                    record {
                      count = omega (arith, a.next, ap length w);
                      vertices_are = λ p q.
                          (a.put (omega (arith, a.next)) (omega (arith, a.next))).0
                          ∙ ap (set t0.vertices n) low
                          ∙ sym (ap (λ (xs : List Spot). sets t0.vertices n (vertices_of xs)) w);
                      levels_are = λ p q.
                          (a.put (omega (arith, a.next)) (omega (arith, a.next))).1
                          ∙ ap (set t0.levels n) (add-one l)
                          ∙ sym (ap (λ (xs : List Spot). sets t0.levels n (levels_of xs)) w);
                      places_are = λ p.
                          a.round (omega (arith, a.next))
                          ∙ ap (sets t0.places (8 * n)) (round_is at mask h)
                          ∙ sym (ap (λ (xs : List Spot). sets t0.places (8 * n) (places_of ks xs)) w
                          ∙ ap (sets t0.places (8 * n)) (append-nil (round_of ks the_spot)));
                    }

module _ (ks : Nodes) (from room : ℕ) where
  -- the level of the code
  pub grown_on : (l c q n r : ℕ) (t0 t1 : Cells) → Stored ks from room (walked (limit - (l + 1)) ks (l + 1) (8 * c + q)) n r t0 t1
      → Grown ks from room l c q n r t0 t1
  grown_on l c q n r t0 t1 a = subst (λ (k : ℕ). Stored ks from room (walked (limit - k) ks k (8 * c + q)) n r t0 t1) (add-one l) a

  pub stored_room : (ss : List Spot) (at r : ℕ) (t0 t1 : Cells) → at ≤ room → Stored ks from room ss at r t0 t1 → r ≤ room
  stored_room ss at r t0 t1 h a = omega (arith, a.count, wanted_most from (room - at) ss)

  -- one more child, in the same tables, no further than there is room
  pub partly_step : (l c q at n r : ℕ) (t0 t1 t2 : Out) → SameOut t0 t1 × (n ≤ room) × Partly ks from room l c q at n (the_cells t0) (the_cells t1)
      → SameOut t1 t2 → Grown ks from room l c q n r (the_cells t1) (the_cells t2)
      → SameOut t0 t2 × (r ≤ room) × Partly ks from room l c (q + 1) at r (the_cells t0) (the_cells t2)
  partly_step l c q at n r t0 t1 t2 a k b = (
    same_join t0 t1 t2 a.0 k,
    omega (arith, a.1, b.count, wanted_most from (room - n) (walked (limit - suc l) ks (suc l) (8 * c + q))),
    partly_more ks from room l c q at n r (the_cells t0) (the_cells t1) (the_cells t2) a.0.sizes a.2 b,
  )

-- what is not skipped has room
pub unskipped : (l c from m room : ℕ) → (Skipped l c from m room → ⊥) → m < room
unskipped l c from m room n = elim (dec_lt m room) [ yes h ↦ h | no h ↦ absurd (n (inr (omega arith))) ]

-- ---- the whole tree

pub room_is : (v l p : List ℕ) (a b : ℕ) → a ≡ min (length v) (length l) → b ≡ min a (length p / 8) → b ≡ room_of (cells_of v l p)
unfolding room_of
room_is v l p a b e f = f ∙ ap (λ (k : ℕ). min k (length p / 8)) e

module _ (ks : Nodes) (from room : ℕ) (was : Cells) (e : room ≡ room_of was) where
  pub cells_says : (n : ℕ) (t left : Cells) → left.vertices ≡ t.vertices → left.levels ≡ t.levels → left.places ≡ t.places
      → Stored ks from room (spots_of ks) 0 n was t → CellsSays ks from was left n
  unfolding room_of
  cells_says n t left ve le pe a =
      let v : n ≤ length was.vertices = omega (arith, a.count, most, e) in
      let l : n ≤ length was.levels = omega (arith, a.count, most, e) in
      let p : 8 * n ≤ length was.places = omega (arith, a.count, most, e) in
      record {
        count = a.count ∙ zero-add (length some) ∙ ap length same;
        vertices_are = told vertices_of was.vertices left.vertices (ve ∙ a.vertices_are v l) (omega (arith, a.count, vertices_length some));
        levels_are = told levels_of was.levels left.levels (le ∙ a.levels_are v l) (omega (arith, a.count, levels_length some));
        places_are = told (places_of ks) was.places left.places (pe ∙ a.places_are p) (omega (arith, a.count, places_length ks some));
      }
    where
      some : List Spot
      some = wanted from (room - 0) (spots_of ks)

      same : some ≡ wanted from (room_of was) (spots_of ks)
      same = let z : room - 0 ≡ room_of was = omega (arith, e) in ap (λ (k : ℕ). wanted from k (spots_of ks)) z

      most : length some ≤ room
      most = omega (arith, wanted_most from (room - 0) (spots_of ks))

      told : (f : List Spot → List ℕ) (t u : List ℕ) → u ≡ sets t 0 (f some) → length (f some) ≤ length t
          → u ≡ written t 0 (f (wanted from (room_of was) (spots_of ks)))
      told f t u p h = p ∙ sets-eq (f some) t 0 (omega arith) ∙ ap (λ (ss : List Spot). written t 0 (f ss)) same

-- all of them from 0 on
module _ (ks : Nodes) where
  pub all_wanted : (ss : List Spot) (room : ℕ) → length ss ≤ room → wanted 0 room ss ≡ ss
  unfolding wanted since
  all_wanted ss room h = ap (take room) (all ss) ∙ take_all room ss h
    where
      all : (ss : List Spot) → since 0 ss ≡ ss
      all [] = refl
      all (s ∷ ss) = ap (λ (r : Bool). cond r (s ∷ since 0 ss) (since 0 ss)) (le-leb 0 s.vertex (omega arith)) ∙ ap (λ (xs : List Spot). s ∷ xs) (all ss)

  pub all_laid : (room r : ℕ) (t0 t1 : Cells) (v l : List ℕ) → v ≡ t1.vertices → l ≡ t1.levels → length (spots_of ks) ≤ room
      → Stored ks 0 room (spots_of ks) 0 r t0 t1 → Laid (spots_of ks) 0 r t0.vertices t0.levels v l
  all_laid room r t0 t1 v l ve le h a =
      record {
        count = a.count ∙ ap (λ (ss : List Spot). 0 + length ss) every;
        tables = λ p q. (
          ve ∙ a.vertices_are p q ∙ ap (λ (ss : List Spot). sets t0.vertices 0 (vertices_of ss)) every,
          le ∙ a.levels_are p q ∙ ap (λ (ss : List Spot). sets t0.levels 0 (levels_of ss)) every,
        );
      }
    where
      every : wanted 0 (room - 0) (spots_of ks) ≡ spots_of ks
      every = all_wanted (spots_of ks) (room - 0) (omega arith)
