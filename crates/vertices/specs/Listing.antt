-- What the call that lists the vertices answers and leaves. Assumes nothing.
use Rattle.std.specs.Prelude.{ℕ, ◌+◌, ◌≤◌, ◌≡◌, ◌⊎◌, List, ◌++◌, length, take, drop, Result, Ok, Err}
use Rattle.refusals.specs.declared.Refusal.{Refusal}
use Rattle.refusals.specs.declared.Refusal.TheVariants.{NotSound, ListFull}
use Rattle.tree.specs.Tree.{Tree, Sound}
use Rattle.tree.specs.Down.{Nodes}
use Rattle.geometry.specs.Listing.{Listed}
use Rattle.vertices.specs.Walk.{spots_of, vertices_of, levels_of}

-- The vertex table and the level table.
pub record Lists : Type 0 where
  pub vertices : List ℕ
  pub levels : List ℕ

abbrev pub lists_of : List ℕ → List ℕ → Lists
lists_of vertices levels = record { vertices = vertices; levels = levels }

-- A table with xs written from a place on: all before and after stays.
abbrev pub written : List ℕ → ℕ → List ℕ → List ℕ
written table start xs = take start table ++ (xs ++ drop (start + length xs) table)

-- n places from the start place on lie in both tables.
pub record Room (start n : ℕ) (was : Lists) : Type 0 where
  pub vertices : start + n ≤ length was.vertices
  pub levels : start + n ≤ length was.levels

-- The list stands from the start place on; the answer is the number of its vertices.
pub record Wrote (leaves : List ℕ) (start n : ℕ) (was left : Lists) : Type 0 where
  pub vs : List ℕ
  pub ls : List ℕ
  pub listed : Listed leaves vs ls
  pub count : n ≡ length vs
  pub room : Room start n was
  pub vertices_are : left.vertices ≡ written was.vertices start vs
  pub levels_are : left.levels ≡ written was.levels start ls

-- The start place is past the end of either table, or fewer places are left than there are vertices.
pub record Short (leaves : List ℕ) (start : ℕ) (was : Lists) : Type 0 where
  pub vs : List ℕ
  pub ls : List ℕ
  pub listed : Listed leaves vs ls
  pub no_room : Room start (length vs) was → ⊥

abbrev pub ListSays : Tree → ℕ → Lists → Lists → Result ℕ Refusal → Type 0
ListSays t start was left (Ok n) = Sound t × Wrote t.leaves start n was left
ListSays t start was left (Err e) =
    (left ≡ was) × (((Sound t → ⊥) × (e ≡ NotSound)) ⊎ (Sound t × Short t.leaves start was × (e ≡ ListFull)))

-- ---- the same on any tables at all, where no tree need be sound

-- The vertices that the walk finds stand from the start place on, or there is no room.
abbrev pub TrustingSays : Nodes → ℕ → Lists → Lists → Result ℕ Refusal → Type 0
TrustingSays ks start was left (Ok n) =
    (n ≡ length (spots_of ks)) × Room start n was
    × (left ≡ lists_of (written was.vertices start (vertices_of (spots_of ks))) (written was.levels start (levels_of (spots_of ks))))
TrustingSays ks start was left (Err e) = (left ≡ was) × (Room start (length (spots_of ks)) was → ⊥) × (e ≡ ListFull)
