-- One answer only: of each public call, what is returned, every out parameter and every table are settled by its promise. Assumes nothing.
use mathlib.Core.Path.{◌≡◌, ap, subst}
use mathlib.Core.Bool.{Bool}
use Prim.Native.Nat.{ℕ}
use lib.Ieee.{of_bits, binary32}
use Rattle.morton.proofs.One.{OnlyOne, both, handed_on}
use Rattle.std.specs.Prelude.{Result, Ok, Err}
use Rattle.refusals.specs.declared.Refusal.{Refusal}
use Rattle.refusals.specs.Refusals.{number, Hands}
use Rattle.refusals.proofs.One.{hand_one}
use Rattle.tree.specs.declared.Lookup.{Lookup}
use Rattle.tree.specs.declared.Lookup.TheVariants as lookup
use Rattle.tree.specs.Tree.{Tree, Sound, Decides}
use Rattle.tree.specs.Climb.{LookupSays}
use Rattle.tree.proofs.One.{sound_one as sound-answer-one, look_up_one as lookup-answer-one}
use Rattle.vertices.specs.Listing.{Lists, ListSays}
use Rattle.vertices.proofs.One.{list_one as list-answer-one}
use Rattle.dual.specs.declared.Dual.{Dual}
use Rattle.dual.specs.Dual.{DualSays}
use Rattle.dual.proofs.One.{dual_cell_one as dual-answer-one}
use Rattle.mittenhelm_reading.specs.Reading.{Found, found_at, HandsFound, HandsLookup, Eight, eight_at, HandsEight, HandsDual, HandsList}

pub sound_one : (t : Tree) → OnlyOne (λ (r : Bool). Decides r (Sound t))
sound_one t = sound-answer-one t

pub hand_found_one : (a : Result Lookup Refusal) (was : Found) → OnlyOne (λ (r : ℕ × Found). HandsFound a was r.0 r.1)
hand_found_one (Ok (lookup.Found k d p n)) was = both 0 (found_at k d p n)
hand_found_one (Ok (lookup.Nothing n)) was = both 0 (found_at 0 (of_bits binary32 0) 0 n)
hand_found_one (Err e) was = both (number e) was

pub look_up_one : (t : Tree) (k : ℕ) (was : Found) → OnlyOne (λ (r : ℕ × Found). HandsLookup t k was r.0 r.1)
look_up_one t k was = handed_on (LookupSays t k) (λ a r. HandsFound a was r.0 r.1) (lookup-answer-one t k) (λ a. hand_found_one a was)

eight_one : (a : Dual) (b : Result ℕ Refusal) (was : Eight) → OnlyOne (λ (r : ℕ × Eight). HandsEight a.keys a.distances a.places b was r.0 r.1)
eight_one a (Ok n) was = both 0 (eight_at a.keys a.distances a.places n)
eight_one a (Err e) was = both (number e) was

pub hand_eight_one : (a : Dual) (was : Eight) → OnlyOne (λ (r : ℕ × Eight). HandsEight a.keys a.distances a.places a.tried was r.0 r.1)
hand_eight_one a was = eight_one a a.tried was

pub dual_cell_one : (t : Tree) (L v : ℕ) (was : Eight) → OnlyOne (λ (r : ℕ × Eight). HandsDual t L v was r.0 r.1)
dual_cell_one t L v was =
    handed_on (λ (a : Dual). DualSays t L v a.keys a.distances a.places a.tried) (λ a r. HandsEight a.keys a.distances a.places a.tried was r.0 r.1)
    (dual-answer-one t L v) (λ a. hand_eight_one a was)

-- the count, and both tables, where there is one answer with its tables
pub listed_on : (says : Lists → Result ℕ Refusal → Type 0) → OnlyOne (λ (o : Lists × Result ℕ Refusal). says o.0 o.1) → (was : ℕ)
    → OnlyOne (λ (r : Lists × (ℕ × ℕ)). (a : Result ℕ Refusal) × says r.0 a × Hands a was r.1.0 r.1.1)
listed_on says answer was r s p q =
    let same = answer (r.0, p.0) (s.0, q.0) p.1 q.1 in
    let n : r.1 ≡ s.1 =
    hand_one q.0 was r.1 s.1 (subst (λ (a : Result ℕ Refusal). Hands a was r.1.0 r.1.1) (ap (λ (x : Lists × Result ℕ Refusal). x.1) same) p.2) q.2 in
    λ i. (ap (λ (x : Lists × Result ℕ Refusal). x.0) same i, n i)

pub list_one : (t : Tree) (start was : ℕ) (before : Lists)
    → OnlyOne (λ (r : Lists × (ℕ × ℕ)). HandsList t start before r.0 was r.1.0 r.1.1)
list_one t start was before = listed_on (λ after a. ListSays t start before after a) (list-answer-one t start before) was
