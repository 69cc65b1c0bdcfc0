-- What a dual cell is, and what the call answers. Assumes nothing.
use Rattle.std.specs.Prelude.{ℕ, ◌+◌, ◌-◌, ◌*◌, ◌/◌, ◌^◌, ◌<◌, ◌≡◌, true, false, ◌⊎◌, List, Float, length, get_or, replicate, Result, Ok, Err}
use Rattle.std.specs.Float.{nan, binary32}
use Rattle.std.specs.Float.Ieee.{of_bits}
use Rattle.morton.specs.Field.{sub}
use Rattle.morton.specs.Level.{deepest, level}
use Rattle.morton.specs.Vertex.{is_inner, side_of}
use Rattle.tree.specs.Tree.{Tree, Sound}
use Rattle.tree.specs.declared.Lookup.{Lookup}
use Rattle.tree.specs.declared.Lookup.TheVariants.{Found, Nothing}
use Rattle.tree.specs.Down.{Nodes, NodeOver}
use Rattle.tree.specs.Climb.{Deepest, trusting_of, tried_in}
use Rattle.geometry.specs.Grid.{sum}
use Rattle.refusals.specs.declared.Refusal.{Refusal}
use Rattle.refusals.specs.declared.Refusal.TheVariants.{NotAVertex, NotSound}

-- How many keys are tried from level L to one that is found.
abbrev pub tried_to : ℕ → ℕ → ℕ
tried_to L k = L - level k + 1

-- Dual cell of a vertex and level: eight keys, eight distances and eight places in corner order, entry i being the deepest ancestor of side i, and the
-- sum of keys tried.
pub record DualCell (t : Tree) (L v : ℕ) (keys : List ℕ) (distances : List Float) (places : List ℕ) (tried : ℕ) : Type 0 where
  pub eight_keys : length keys ≡ 8
  pub eight_distances : length distances ≡ 8
  pub eight_places : length places ≡ 8
  pub entry : (i : ℕ) → i < 8 → Deepest t (side_of L v i) (get_or keys i 0) (get_or distances i nan) (get_or places i 0) (tried_to L (get_or keys i 0))
  pub count : tried ≡ sum (λ i. tried_to L (get_or keys i 0)) 8

-- Nothing is in the arrays of a refused call.
abbrev pub no_keys : List ℕ
no_keys = replicate 8 0

abbrev pub no_distances : List Float
no_distances = replicate 8 (of_bits binary32 0)

abbrev pub no_places : List ℕ
no_places = replicate 8 0

-- It isn't an inner vertex at that level, or the tree is the root alone.
abbrev pub NoCell : List ℕ → ℕ → ℕ → Type 0
NoCell ks L v = (is_inner L v ≡ false) ⊎ (length ks ≡ 1)

-- Refusals 11, 4.
abbrev pub DualSays : Tree → ℕ → ℕ → List ℕ → List Float → List ℕ → Result ℕ Refusal → Type 0
DualSays t L v keys distances places (Ok n) = Sound t × (is_inner L v ≡ true) × (1 < length t.keys) × DualCell t L v keys distances places n
DualSays t L v keys distances places (Err e) =
    (keys ≡ no_keys) × (distances ≡ no_distances) × (places ≡ no_places) × (((Sound t → ⊥) × (e ≡ NotSound)) ⊎ (Sound t × NoCell t.keys L v × (e ≡ NotAVertex)))

-- ---- the same on any tables at all, where no tree need be sound

-- What a lookup's answer gives for an entry; nothing gives 0, 0 and 0.
abbrev pub key_in : Result Lookup Refusal → ℕ
key_in (Ok (Found key distance place tried)) = key
key_in (Ok (Nothing tried)) = 0
key_in (Err e) = 0

abbrev pub distance_in : Result Lookup Refusal → Float
distance_in (Ok (Found key distance place tried)) = distance
distance_in (Ok (Nothing tried)) = of_bits binary32 0
distance_in (Err e) = of_bits binary32 0

abbrev pub place_in : Result Lookup Refusal → ℕ
place_in (Ok (Found key distance place tried)) = place
place_in (Ok (Nothing tried)) = 0
place_in (Err e) = 0

-- The lookup for side i of a vertex that is q at its level.
abbrev pub lookup_at : Nodes → List Float → ℕ → ℕ → Result Lookup Refusal
lookup_at ns ds q i = trusting_of ns ds (sub q i)

-- All eight, and the sum of keys tried.
pub record Around (ns : Nodes) (ds : List Float) (q : ℕ) (keys : List ℕ) (distances : List Float) (places : List ℕ) (tried : ℕ) : Type 0 where
  pub eight_keys : length keys ≡ 8
  pub eight_distances : length distances ≡ 8
  pub eight_places : length places ≡ 8
  pub key : (i : ℕ) → i < 8 → get_or keys i 0 ≡ key_in (lookup_at ns ds q i)
  pub distance : (i : ℕ) → i < 8 → get_or distances i nan ≡ distance_in (lookup_at ns ds q i)
  pub place : (i : ℕ) → i < 8 → get_or places i 0 ≡ place_in (lookup_at ns ds q i)
  pub count : tried ≡ sum (λ i. tried_in (lookup_at ns ds q i)) 8

abbrev pub AroundSays : Nodes → List Float → ℕ → List ℕ → List Float → List ℕ → Result ℕ Refusal → Type 0
AroundSays ns ds q keys distances places (Ok n) = Around ns ds q keys distances places n
AroundSays ns ds q keys distances places (Err e) = ⊥

-- Of a tree that is trusted to be sound: refusal 4 where there is no cell, else what the lookups for the eight sides come to.
abbrev pub TrustingSays : Nodes → List Float → ℕ → ℕ → List ℕ → List Float → List ℕ → Result ℕ Refusal → Type 0
TrustingSays ns ds L v keys distances places (Ok n) =
    (is_inner L v ≡ true) × (length ns.keys ≡ 1 → ⊥) × Around ns ds (v / 8 ^ (deepest - L)) keys distances places n
TrustingSays ns ds L v keys distances places (Err e) = (keys ≡ no_keys) × (distances ≡ no_distances) × (places ≡ no_places) × NoCell ns.keys L v × (e ≡ NotAVertex)

-- ---- what the steps of the call promise

-- The entry that an answer gives.
pub record EntrySays (answer : Result Lookup Refusal) (key : ℕ) (distance : Float) (place tried : ℕ) : Type 0 where
  pub its_key : key ≡ key_in answer
  pub its_distance : distance ≡ distance_in answer
  pub its_place : place ≡ place_in answer
  pub its_tried : tried ≡ tried_in answer

-- The same of a side of level L, from the node over the first of the eight cells that it is one of.
abbrev pub EntryFor : List Float → ℕ → ℕ → ℕ → ℕ → ℕ → Float → ℕ → ℕ → Type 0
EntryFor ds L side l first key distance place tried =
    (ns : Nodes) → NodeOver ns L (8 * (side / 8)) l first → EntrySays (trusting_of ns ds side) key distance place tried

-- What a refused call hands back.
pub record RefusedSays (refusal : Refusal) (keys : List ℕ) (distances : List Float) (places : List ℕ) (tried : Result ℕ Refusal) : Type 0 where
  pub keys_cleared : keys ≡ no_keys
  pub distances_cleared : distances ≡ no_distances
  pub places_cleared : places ≡ no_places
  pub is : tried ≡ Err refusal
