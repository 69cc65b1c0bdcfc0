-- A caller that goes over all vertices some at a time, each time from the last one + 1 on, gets each once. Assumes nothing.
use Prim.Native.Nat.{ℕ, zero, suc, ◌+◌, ◌-◌, ◌*◌, ◌^◌, ◌≤◌, ◌<◌}
use mathlib.Core.Path.{◌≡◌, refl, sym, ◌∙◌, ap, ap₂, subst}
use mathlib.Core.Bool.{Bool, true, false, cond}
use mathlib.Core.List.{List, [], ◌∷◌, ◌++◌, append_assoc}
use native.Mathlib.Omega.{arith}
use lib.ListN.{length, get_or, take, drop, length-take, take-append-drop}
use lib.Seq.{take_all, take_at, get_or-take}
use borrow.Author.Tests.{le-leb, lt-leb}
use Rattle.morton.specs.Level.{deepest, limit}
use Rattle.morton.proofs.Levels.{eight_mono}
use Rattle.tree.specs.Tree.{Ascending}
use Rattle.tree.specs.Down.{Nodes}
use Rattle.tree.proofs.Lists.{Asc, asc_weaken, asc_at}
use Rattle.vertices.specs.Walk.{Spot, in_turn, low_corner, divided, meets, ending, walked, spots_of, vertices_of, levels_of}
use Rattle.vertices.specs.Cells.{since, wanted, places_of, Cells, room_of, CellsSays}
use Rattle.vertices.specs.Listing.{written}
use Rattle.vertices.proofs.Blocks.{walked_end, walked_on, walked_stop, ending_one, ending_none, vertices_length, levels_length}
use Rattle.vertices.proofs.Spot.{corner_next}
use Rattle.vertices.proofs.Law.{corner_add, corner_first, corner_last}
use Rattle.vertices.proofs.Storing.{places_length}

-- ---- the walk goes up

-- The vertices lie from a on and below b, each two or more after the one before: so the last + 1 is still below b.
unfoldable Apart : ℕ → ℕ → List Spot → Type 0
Apart a b [] = a ≤ b
Apart a b (s ∷ ss) = (a ≤ s.vertex) × Apart (s.vertex + 2) b ss

apart_widen : (a' a b : ℕ) (ss : List Spot) → a' ≤ a → Apart a b ss → Apart a' b ss
unfolding Apart
apart_widen a' a b [] h r = omega arith
apart_widen a' a b (s ∷ ss) h (l, r) = (omega arith, r)

apart_append : (a b c : ℕ) (ss ts : List Spot) → Apart a b ss → Apart b c ts → Apart a c (ss ++ ts)
unfolding Apart
apart_append a b c [] ts r u = apart_widen a b c ts r u
apart_append a b c (s ∷ ss) ts (l, r) u = (l, apart_append (s.vertex + 2) b c ss ts r u)

apart_ends : (a b : ℕ) (ss : List Spot) → Apart a b ss → a ≤ b
unfolding Apart
apart_ends a b [] r = r
apart_ends a b (s ∷ ss) (l, r) = omega (arith, apart_ends (s.vertex + 2) b ss r)

apart_asc : (a b : ℕ) (ss : List Spot) → Apart a b ss → Asc a (vertices_of ss)
unfolding Apart vertices_of
apart_asc a b [] r = tt
apart_asc a b (s ∷ ss) (l, r) = (l, asc_weaken (suc s.vertex) (s.vertex + 2) (vertices_of ss) (omega arith) (apart_asc (s.vertex + 2) b ss r))

module _ (ks : Nodes) where
  -- a cell's vertices lie from its low corner on, below the next cell's
  abbrev Within : ℕ → ℕ → List Spot → Type 0
  Within l c ss = Apart (low_corner l c) (low_corner l (c + 1)) ss

  within_none : (l c : ℕ) → Within l c []
  unfolding Apart
  within_none l c = omega (arith, corner_next l c)

  within_ending : (l c : ℕ) → l ≤ limit → Within l c (ending ks l c)
  unfolding Apart
  within_ending l c h = go (meets ks l c) refl
    where
      wide : low_corner l c + 2 ≤ low_corner l (c + 1)
      wide = omega (arith, corner_next l c, eight_mono {i = 1} {j = deepest - l} (omega arith))

      go : (r : Bool) → meets ks l c ≡ r → Within l c (ending ks l c)
      go true e = subst (Within l c) (sym (ending_one ks l c e)) (omega arith, wide)
      go false e = subst (Within l c) (sym (ending_none ks l c e)) (within_none l c)

  within_turn : (l c n : ℕ) (g : ℕ → List Spot) → l < deepest → ((q : ℕ) → Within (suc l) (8 * c + q) (g q))
      → Apart (low_corner l c) (low_corner (suc l) (8 * c + n)) (in_turn g n)
  unfolding in_turn Apart
  within_turn l c zero g h each = omega (arith, corner_first l c h, corner_add (suc l) (8 * c) 0)
  within_turn l c (suc n) g h each =
      let e : 8 * c + n + 1 ≡ 8 * c + suc n = omega arith in
      apart_append (low_corner l c) (low_corner (suc l) (8 * c + n)) (low_corner (suc l) (8 * c + suc n)) (in_turn g n) (g n) (within_turn l c n g h each)
      (subst (λ (k : ℕ). Apart (low_corner (suc l) (8 * c + n)) (low_corner (suc l) k) (g n)) e (each n))

  within_walked : (f l c : ℕ) → l + f ≡ limit → Within l c (walked f ks l c)
  within_walked zero l c h = go (divided ks l c) refl
    where
      go : (r : Bool) → divided ks l c ≡ r → Within l c (walked 0 ks l c)
      go true e = subst (Within l c) (sym (walked_stop ks l c e)) (within_none l c)
      go false e = subst (Within l c) (sym (walked_end ks l c 0 e)) (within_ending l c (omega arith))
  within_walked (suc f) l c h = go (divided ks l c) refl (λ q. within_walked f (suc l) (8 * c + q) (omega arith))
    where
      go : (r : Bool) → divided ks l c ≡ r → ((q : ℕ) → Within (suc l) (8 * c + q) (walked f ks (suc l) (8 * c + q)))
          → Within l c (walked (suc f) ks l c)
      go true e each =
          subst (Within l c) (sym (walked_on ks l c f e))
          (subst (λ (hi : ℕ). Apart (low_corner l c) hi (in_turn (λ q. walked f ks (suc l) (8 * c + q)) 8)) (corner_last l c (omega arith))
          (within_turn l c 8 (λ q. walked f ks (suc l) (8 * c + q)) (omega arith) each))
      go false e each = subst (Within l c) (sym (walked_end ks l c (suc f) e)) (within_ending l c (omega arith))

  -- all of them
  spots_apart : Apart 1 (2 ^ 64) (spots_of ks)
  unfolding spots_of low_corner
  spots_apart = apart_widen 1 (low_corner 0 1) (2 ^ 64) (walked limit ks 0 1) (omega arith) (within_walked limit 0 1 (omega arith))

  pub spots_ascending : Ascending (vertices_of (spots_of ks))
  spots_ascending = asc_at 1 (vertices_of (spots_of ks)) (apart_asc 1 (2 ^ 64) (spots_of ks) spots_apart)

-- ---- those from a number on

since_from : (from a b : ℕ) (ss : List Spot) → from ≤ a → Apart a b ss → since from ss ≡ ss
unfolding since Apart
since_from from a b [] h r = refl
since_from from a b (s ∷ ss) h (l, r) =
    ap (λ (y : Bool). cond y (s ∷ since from ss) (since from ss)) (le-leb from s.vertex (omega arith))
    ∙ ap (λ (xs : List Spot). s ∷ xs) (since_from from (s.vertex + 2) b ss (omega arith) r)

since_past : (from a : ℕ) (ss ts : List Spot) → Apart a (from + 1) ss → since from (ss ++ ts) ≡ since from ts
unfolding since Apart
since_past from a [] ts r = refl
since_past from a (s ∷ ss) ts (l, r) =
    ap (λ (y : Bool). cond y (s ∷ since from (ss ++ ts)) (since from (ss ++ ts))) (lt-leb from s.vertex (omega (arith, apart_ends (s.vertex + 2) (from + 1) ss r)))
    ∙ since_past from (s.vertex + 2) ss ts r

-- ---- the first n + 1 of them, and the others

last_of : ℕ → List Spot → ℕ
last_of n ss = get_or (vertices_of (take (suc n) ss)) n 0

apart_split : (n a b : ℕ) (ss : List Spot) → n < length ss → Apart a b ss
    → Apart a (last_of n ss + 2) (take (suc n) ss) × Apart (last_of n ss + 2) b (drop (suc n) ss)
unfolding Apart vertices_of last_of
apart_split n a b [] h r = absurd (omega arith)
apart_split zero a b (s ∷ ss) h (l, r) = ((l, omega arith), r)
apart_split (suc n) a b (s ∷ ss) h (l, r) = let p = apart_split n (s.vertex + 2) b ss (omega arith) r in ((l, p.0), p.1)

-- ---- between two batches

-- the vertices below the number to go on from are past, and the others lie beyond it
pub record Gone (ks : Nodes) (from : ℕ) (past ahead : List Spot) : Type 0 where
  pub both : spots_of ks ≡ past ++ ahead
  past_apart : Apart 1 (from + 1) past
  ahead_apart : Apart (from + 1) (2 ^ 64) ahead

pub gone_begun : (ks : Nodes) → Gone ks 0 [] (spots_of ks)
unfolding Apart
gone_begun ks = record { both = refl; past_apart = omega arith; ahead_apart = spots_apart ks }

some_room : (room : ℕ) → 0 < room → (m : ℕ) × (room ≡ suc m)
some_room zero h = absurd (omega arith)
some_room (suc m) h = (m, refl)

module _ (ks : Nodes) (from : ℕ) (past ahead : List Spot) (g : Gone ks from past ahead) where
  pub from_fits : from < 2 ^ 64
  from_fits = omega (arith, apart_ends (from + 1) (2 ^ 64) ahead g.ahead_apart)

  pub since_ahead : since from (spots_of ks) ≡ ahead
  since_ahead =
      ap (since from) g.both
      ∙ since_past from 1 past ahead g.past_apart
      ∙ since_from from (from + 1) (2 ^ 64) ahead (omega arith) g.ahead_apart

  -- the first m + 1 of those ahead are past too, if the number to go on from lies between the last of them and the next
  gone_on : (m next : ℕ) → m < length ahead → next ≡ last_of m ahead + 1 → Gone ks next (past ++ take (suc m) ahead) (drop (suc m) ahead)
  gone_on m next enough is =
      let e : next + 1 ≡ last_of m ahead + 2 = omega (arith, is) in
      let s = apart_split m (from + 1) (2 ^ 64) ahead enough g.ahead_apart in
      record {
        both =
            g.both
            ∙ ap (λ (ss : List Spot). past ++ ss) (sym (take-append-drop (suc m) ahead))
            ∙ sym (append_assoc past (take (suc m) ahead) (drop (suc m) ahead));
        past_apart =
            subst (λ (b : ℕ). Apart 1 b (past ++ take (suc m) ahead)) (sym e)
            (apart_append 1 (from + 1) (last_of m ahead + 2) past (take (suc m) ahead) g.past_apart s.0);
        ahead_apart = subst (λ (a : ℕ). Apart a (2 ^ 64) (drop (suc m) ahead)) (sym e) s.1;
      }

  module _ (was left : Cells) (n : ℕ) (says : CellsSays ks from was left n) where
    -- those that a call hands out
    abbrev came : List Spot
    came = take (room_of was) ahead

    wanted_came : wanted from (room_of was) (spots_of ks) ≡ came
    unfolding wanted
    wanted_came = ap (take (room_of was)) since_ahead

    pub came_count : length came ≡ n
    came_count = ap length (sym wanted_came) ∙ sym says.count

    -- what stands first in a table that the call wrote to
    came_first : (of : List Spot → List ℕ) (before after : List ℕ) (m : ℕ) → after ≡ written before 0 (of (wanted from (room_of was) (spots_of ks)))
        → length (of came) ≡ m
        → take m after ≡ of came
    came_first of before after m e l =
        ap (take m) (e ∙ ap (λ (ss : List Spot). written before 0 (of ss)) wanted_came) ∙ take_at (of came) (drop (0 + length (of came)) before) m l

    pub came_vertices : take n left.vertices ≡ vertices_of came
    came_vertices = came_first vertices_of was.vertices left.vertices n says.vertices_are (vertices_length came ∙ came_count)

    pub came_levels : take n left.levels ≡ levels_of came
    came_levels = came_first levels_of was.levels left.levels n says.levels_are (levels_length came ∙ came_count)

    pub came_places : take (8 * n) left.places ≡ places_of ks came
    came_places = came_first (places_of ks) was.places left.places (8 * n) says.places_are (places_length ks came ∙ ap (λ (m : ℕ). 8 * m) came_count)

    last_came : (m : ℕ) → room_of was ≡ suc m → room_of was ≤ n → get_or left.vertices (n - 1) 0 ≡ last_of m ahead
    unfolding last_of
    last_came m room all =
        let e : n ≡ suc m = omega (arith, came_count, length-take (room_of was) ahead) in
        let last : n - 1 ≡ m = omega arith in
        sym (get_or-take n left.vertices (n - 1) 0 (omega arith))
        ∙ ap₂ (λ (xs : List ℕ) (i : ℕ). get_or xs i 0) (came_vertices ∙ ap (λ (r : ℕ). vertices_of (take r ahead)) room) last

    -- no fewer came than have room
    pub gone_full : 0 < room_of was → room_of was ≤ n → Gone ks (get_or left.vertices (n - 1) 0 + 1) (past ++ came) (drop (room_of was) ahead)
    gone_full some all =
        let (m, room) = some_room (room_of was) some in
        let next : ℕ = get_or left.vertices (n - 1) 0 + 1 in
        subst (λ (r : ℕ). Gone ks next (past ++ take r ahead) (drop r ahead)) (sym room)
        (gone_on m next (omega (arith, room, came_count, length-take (room_of was) ahead)) (ap (λ (v : ℕ). v + 1) (last_came m room all)))

    -- fewer came than have room
    pub all_came : n < room_of was → spots_of ks ≡ past ++ came
    all_came fewer =
        g.both ∙ ap (λ (ss : List Spot). past ++ ss) (sym (take_all (room_of was) ahead (omega (arith, came_count, length-take (room_of was) ahead))))
