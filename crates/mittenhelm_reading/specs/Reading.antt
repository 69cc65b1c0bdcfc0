-- How what is read from a tree is handed to a host. Assumes nothing.
use Rattle.std.specs.Prelude.{ℕ, ◌≡◌, List, Float, Result, Ok, Err}
use Rattle.std.specs.Float.Ieee.{of_bits}
use Rattle.std.specs.Float.{binary32}
use Rattle.refusals.specs.declared.Refusal.{Refusal}
use Rattle.refusals.specs.Refusals.{number, Hands}
use Rattle.tree.specs.declared.Lookup.{Lookup}
use Rattle.tree.specs.declared.Lookup.TheVariants as lookup
use Rattle.tree.specs.Tree.{Tree}
use Rattle.tree.specs.Climb.{LookupSays}
use Rattle.vertices.specs.Listing.{Lists, ListSays}
use Rattle.dual.specs.declared.Dual.{Dual}
use Rattle.dual.specs.Dual.{DualSays}

-- What a lookup hands over, in four out parameters.
pub record Found : Type 0 where
  pub key : ℕ
  pub distance : Float
  pub place : ℕ
  pub tried : ℕ

abbrev pub found_at : ℕ → Float → ℕ → ℕ → Found
found_at key distance place tried = record { key = key; distance = distance; place = place; tried = tried }

-- Nothing is handed over as the key 0, which is no cell key, the distance 0 and the place 0.
abbrev pub HandsFound : Result Lookup Refusal → Found → ℕ → Found → Type 0
HandsFound (Ok (lookup.Found k d p n)) was r out = (r ≡ 0) × (out ≡ found_at k d p n)
HandsFound (Ok (lookup.Nothing n)) was r out = (r ≡ 0) × (out ≡ found_at 0 (of_bits binary32 0) 0 n)
HandsFound (Err e) was r out = (r ≡ number e) × (out ≡ was)

-- The answer is the one that `look_up` promises.
abbrev pub HandsLookup : Tree → ℕ → Found → ℕ → Found → Type 0
HandsLookup t key was r out = (a : Result Lookup Refusal) × LookupSays t key a × HandsFound a was r out

-- The three arrays of a dual cell, and how many keys were tried.
pub record Eight : Type 0 where
  pub keys : List ℕ
  pub distances : List Float
  pub places : List ℕ
  pub tried : ℕ

abbrev pub eight_at : List ℕ → List Float → List ℕ → ℕ → Eight
eight_at keys distances places tried = record { keys = keys; distances = distances; places = places; tried = tried }

abbrev pub HandsEight : List ℕ → List Float → List ℕ → Result ℕ Refusal → Eight → ℕ → Eight → Type 0
HandsEight keys distances places (Ok n) was r out = (r ≡ 0) × (out ≡ eight_at keys distances places n)
HandsEight keys distances places (Err e) was r out = (r ≡ number e) × (out ≡ was)

-- The answer is the one that `dual_cell` promises.
abbrev pub HandsDual : Tree → ℕ → ℕ → Eight → ℕ → Eight → Type 0
HandsDual t L v was r out =
    (a : Dual) × DualSays t L v a.keys a.distances a.places a.tried × HandsEight a.keys a.distances a.places a.tried was r out

-- The answer, with the tables that it leaves, is the one that `list` promises.
abbrev pub HandsList : Tree → ℕ → Lists → Lists → ℕ → ℕ → ℕ → Type 0
HandsList t start before after was r out = (a : Result ℕ Refusal) × ListSays t start before after a × Hands a was r out
