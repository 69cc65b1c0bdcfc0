-- Going over the cells of all vertices, so many at a time: told is what a caller's tables tell of the cells so far. Assumes nothing.
use Prim.Native.Nat.{ℕ, ◌+◌, ◌*◌, ◌-◌, ◌^◌, ◌≤◌, ◌<◌}
use mathlib.Core.Path.{◌≡◌, sym, ◌∙◌, ap, subst}
use mathlib.Core.List.{List, [], ◌++◌}
use native.Mathlib.Omega.{arith}
use lib.ListN.{length, get_or, take, drop, length-append, length-take, length-drop, take-append-drop, get_or-append}
use lib.Seq.{get_or-append-add}
use Rattle.tree.specs.Down.{Nodes}
use Rattle.vertices.specs.Walk.{Spot, spots_of}
use Rattle.vertices.specs.Cells.{since, places_of, Cells, room_of, CellsSays}
use Rattle.vertices.proofs.Storing.{places_append, places_length}
use Rattle.vertices.proofs.Batches.{Gone, gone_begun, from_fits, since_ahead, came_count, came_places, gone_full, all_came}
use Rattle.spans.specs.Trusted.{nodes_in}
use Rattle.spans.specs.Steps.{Inside}
use Rattle.spans.proofs.Places.{place_inside}

-- the cells of the vertices that are past are told of, and those ahead begin from a number on
pub record Going (ns : Nodes) (Told : List ℕ → Type 0) (from : ℕ) : Type 0 where
  past : List Spot
  ahead : List Spot
  gone : Gone ns from past ahead
  pub told : Told (places_of ns past)

pub going_none : (ns : Nodes) (Told : List ℕ → Type 0) → Told [] → Going ns Told 0
unfolding places_of
going_none ns Told t = record { past = []; ahead = spots_of ns; gone = gone_begun ns; told = t }

-- how far it is to go, which the loop's turns count down
abbrev pub to_go : Nodes → ℕ → ℕ
to_go ns from = length (since from (spots_of ns))

-- ---- one batch more

-- the tables that the vertices of a batch are written to
abbrev pub Sized : ℕ → Cells → Type 0
Sized size c = (length c.vertices ≡ size) × (length c.levels ≡ size) × (length c.places ≡ 8 * size)

module _ {ns : Nodes} {Told : List ℕ → Type 0} {from : ℕ} (g : Going ns Told from) (size : ℕ) (was left : Cells) (sized : Sized size was)
    {n : ℕ} (says : CellsSays ns from was left n) where
  room : room_of was ≡ size
  unfolding room_of
  room = omega (arith, sized.0, sized.1, sized.2)

  -- the vertices of the batch
  abbrev batch : List Spot
  batch = take (room_of was) g.ahead

  abbrev rest : List Spot
  rest = drop (room_of was) g.ahead

  count : length batch ≡ n
  count = came_count ns from g.past g.ahead g.gone was left n says

  pub at_most : n ≤ size
  at_most = omega (arith, room, count, length-take (room_of was) g.ahead)

  came_inside : ((i : ℕ) → get_or ns.firsts i 0 < 2 ^ 16) → Inside (nodes_in ns) (places_of ns batch)
  came_inside short e h =
      subst (λ (p : ℕ). p < nodes_in ns)
      (ap (λ (xs : List ℕ). get_or xs (length before + e) 0) whole
      ∙ get_or-append-add before (places_of ns batch ++ after) e 0
      ∙ get_or-append (places_of ns batch) after 0 e h)
      (place_inside ns short (length before + e)
      (omega (arith, ap length whole, length-append before (places_of ns batch ++ after), length-append (places_of ns batch) after)))
    where
      before : List ℕ
      before = places_of ns g.past

      after : List ℕ
      after = places_of ns rest

      whole : places_of ns (spots_of ns) ≡ before ++ (places_of ns batch ++ after)
      whole =
          ap (places_of ns) (g.gone.both ∙ ap (λ (ss : List Spot). g.past ++ ss) (sym (take-append-drop (room_of was) g.ahead)))
          ∙ places_append ns g.past (batch ++ rest)
          ∙ ap (λ (xs : List ℕ). before ++ xs) (places_append ns batch rest)

  -- the places that came are among the nodes
  pub batch_inside : (nodes : ℕ) → ((i : ℕ) → get_or ns.firsts i 0 < 2 ^ 16) → nodes ≡ nodes_in ns
      → Inside nodes (take (8 * n) left.places)
  batch_inside nodes short e =
      subst (λ (m : ℕ). Inside m (take (8 * n) left.places)) (sym e)
      (subst (Inside (nodes_in ns)) (sym (came_places ns from g.past g.ahead g.gone was left n says)) (came_inside short))

  -- the batch is full
  module _ (some : 0 < size) (full : size ≤ n) where
    -- the batch's last vertex, from which the next one begins
    abbrev next : ℕ
    next = get_or left.vertices (size - 1) 0 + 1

    gone_next : Gone ns next (g.past ++ batch) rest
    gone_next =
        let e : n - 1 ≡ size - 1 = omega (arith, at_most) in
        subst (λ (i : ℕ). Gone ns (get_or left.vertices i 0 + 1) (g.past ++ batch) rest) e
        (gone_full ns from g.past g.ahead g.gone was left n says (omega (arith, room)) (omega (arith, room)))

    pub next_fits : next < 2 ^ 64
    next_fits = from_fits ns next (g.past ++ batch) rest gone_next

    pub fewer : to_go ns next < to_go ns from
    fewer =
        omega (
          arith,
          room,
          count,
          length-take (room_of was) g.ahead,
          length-drop (room_of was) g.ahead,
          ap length (since_ahead ns from g.past g.ahead g.gone),
          ap length (since_ahead ns next (g.past ++ batch) rest gone_next),
        )

  -- the cells of the batch are gone over
  module _ (Told' : List ℕ → Type 0)
      (more : (seen : List ℕ) (cells : ℕ) → length seen ≡ 8 * cells → Told seen → Told' (seen ++ take (8 * n) left.places)) where
    told_too : Told' (places_of ns (g.past ++ batch))
    told_too =
        subst Told'
        (ap (λ (xs : List ℕ). places_of ns g.past ++ xs) (came_places ns from g.past g.ahead g.gone was left n says)
        ∙ sym (places_append ns g.past batch))
        (more (places_of ns g.past) (length g.past) (places_length ns g.past) g.told)

    pub going_more : (some : 0 < size) (full : size ≤ n) → Going ns Told' (get_or left.vertices (size - 1) 0 + 1)
    going_more some full = record { past = g.past ++ batch; ahead = rest; gone = gone_next some full; told = told_too }

    pub going_all : n < size → Told' (places_of ns (spots_of ns))
    going_all few =
        subst (λ (ss : List Spot). Told' (places_of ns ss))
        (sym (all_came ns from g.past g.ahead g.gone was left n says (omega (arith, room)))) told_too
