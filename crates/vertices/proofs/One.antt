-- One answer only: two answers of a call that meet its promise are the same, and so are the tables. Of a sound tree both calls have the same. Assumes
-- nothing.
use Rattle.std.specs.Prelude.{Result, Ok, Err}
use Prim.Native.Nat.{ℕ}
use mathlib.Core.Path.{◌≡◌, sym, ap, ap₂, subst, ◌∙◌}
use mathlib.Core.Logic.{⊎_elim}
use lib.ListN.{length}
use Rattle.morton.proofs.One.{OnlyOne}
use Rattle.tree.specs.Tree.{Tree, Sound}
use Rattle.tree.specs.Down.{Nodes}
use Rattle.tree.proofs.Finding.{nodes}
use Rattle.geometry.proofs.Listing.{listed_unique}
use Rattle.refusals.specs.declared.Refusal.{Refusal}
use Rattle.vertices.specs.Listing.{Lists, written, Room, Wrote, Short, ListSays, TrustingSays}
use Rattle.vertices.specs.Cells.{Cells, cells_of, CellsSays}
use Rattle.vertices.proofs.Law.{trusting_list}

module _ (t : Tree) (start : ℕ) (was : Lists) where
  wrote_count : {n m : ℕ} {left right : Lists} → Wrote t.leaves start n was left → Wrote t.leaves start m was right → n ≡ m
  wrote_count a b = a.count ∙ ap length (listed_unique t.leaves a.vs a.ls b.vs b.ls a.listed b.listed).0 ∙ sym b.count

  wrote_lists : {n m : ℕ} {left right : Lists} → Wrote t.leaves start n was left → Wrote t.leaves start m was right → left ≡ right
  wrote_lists {n} {m} {left} {right} a b =
      let u : (a.vs ≡ b.vs) × (a.ls ≡ b.ls) = listed_unique t.leaves a.vs a.ls b.vs b.ls a.listed b.listed in
      let v : left.vertices ≡ right.vertices = a.vertices_are ∙ ap (written was.vertices start) u.0 ∙ sym b.vertices_are in
      let l : left.levels ≡ right.levels = a.levels_are ∙ ap (written was.levels start) u.1 ∙ sym b.levels_are in
      λ i. record { vertices = v i; levels = l i }

  -- what was written had room
  not_short : {n : ℕ} {left : Lists} → Wrote t.leaves start n was left → Short t.leaves start was → ⊥
  not_short a s =
      s.no_room
      (subst (λ (k : ℕ). Room start k was)
      (a.count ∙ ap length (listed_unique t.leaves a.vs a.ls s.vs s.ls a.listed s.listed).0) a.room)

  -- nor was it refused
  not_listed : {n : ℕ} {e : Refusal} {left right : Lists} → ListSays t start was left (Ok n) → ListSays t start was right (Err e) → ⊥
  not_listed a b = ⊎_elim (λ x. x.0 a.0) (λ x. not_short a.1 x.1) b.1

  pub list_one : OnlyOne (λ (o : Lists × Result ℕ Refusal). ListSays t start was o.0 o.1)
  list_one (left, Ok n) (right, Ok m) a b = ap₂ (λ (x : Lists) (y : Result ℕ Refusal). (x, y)) (wrote_lists a.1 b.1) (ap Ok (wrote_count a.1 b.1))
  list_one (left, Ok n) (right, Err k) a b = absurd (not_listed a b)
  list_one (left, Err k) (right, Ok n) a b = absurd (not_listed b a)
  list_one (left, Err k) (right, Err j) a b =
      ap₂ (λ (x : Lists) (y : Result ℕ Refusal). (x, y)) (a.0 ∙ sym b.0)
      (ap Err (⊎_elim
      (λ x. ⊎_elim (λ y. x.1 ∙ sym y.1) (λ y. absurd (x.0 y.0)) b.1)
      (λ x. ⊎_elim (λ y. absurd (y.0 x.0)) (λ y. x.2 ∙ sym y.2) b.1)
      a.1))

  -- of a sound tree the list of one who trusts is the same
  pub list_same : Sound t → (o p : Lists × Result ℕ Refusal) → TrustingSays (nodes t) start was o.0 o.1 → ListSays t start was p.0 p.1 → o ≡ p
  list_same s o p a b = list_one o p (trusting_list t s start was o.0 o.1 a) b

pub list_trusting_one : (ks : Nodes) (start : ℕ) (was : Lists) → OnlyOne (λ (o : Lists × Result ℕ Refusal). TrustingSays ks start was o.0 o.1)
list_trusting_one ks start was (left, Ok n) (right, Ok m) a b =
    ap₂ (λ (x : Lists) (y : Result ℕ Refusal). (x, y)) (a.2 ∙ sym b.2) (ap Ok (a.0 ∙ sym b.0))
list_trusting_one ks start was (left, Ok n) (right, Err k) a b = absurd (b.1 (subst (λ (i : ℕ). Room start i was) a.0 a.1))
list_trusting_one ks start was (left, Err k) (right, Ok n) a b = absurd (a.1 (subst (λ (i : ℕ). Room start i was) b.0 b.1))
list_trusting_one ks start was (left, Err k) (right, Err j) a b =
    ap₂ (λ (x : Lists) (y : Result ℕ Refusal). (x, y)) (a.0 ∙ sym b.0) (ap Err (a.2 ∙ sym b.2))

pub cells_trusting_one : (ks : Nodes) (from : ℕ) (was : Cells) → OnlyOne (λ (o : Cells × ℕ). CellsSays ks from was o.0 o.1)
cells_trusting_one ks from was o p a b =
    λ i. (cells_of ((a.vertices_are ∙ sym b.vertices_are) i) ((a.levels_are ∙ sym b.levels_are) i) ((a.places_are ∙ sym b.places_are) i), (a.count ∙ sym b.count) i)
