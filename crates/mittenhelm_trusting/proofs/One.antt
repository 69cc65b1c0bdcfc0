-- One answer only: of each exported call, what is returned, every out parameter and every table are settled by its promise. Assumes nothing.
use Prim.Native.Nat.{ℕ}
use mathlib.Core.List.{List}
use lib.Ieee.{Float}
use Rattle.morton.proofs.One.{OnlyOne, handed_on}
use Rattle.tree.specs.Down.{Nodes}
use Rattle.tree.specs.Climb.{trusting_of}
use Rattle.vertices.specs.Listing.{Lists, TrustingSays as ListTrustingSays}
use Rattle.vertices.specs.Cells.{Cells, CellsSays}
use Rattle.vertices.proofs.One.{list_trusting_one as list-answer-one, cells_trusting_one as cells-answer-one}
use Rattle.dual.specs.declared.Dual.{Dual}
use Rattle.dual.specs.Dual.{TrustingSays as DualTrustingSays}
use Rattle.dual.proofs.One.{dual_cell_trusting_one as dual-answer-one}
use Rattle.mittenhelm_reading.specs.Reading.{Found, HandsFound, Eight, HandsEight}
use Rattle.mittenhelm_reading.proofs.One.{hand_found_one, hand_eight_one, listed_on}
use Rattle.mittenhelm_trusting.specs.Trusting.{HandsTrustedList, HandsTrustedDual}

pub look_up_trusting_one : (n : Nodes) (ds : List Float) (k : ℕ) (was : Found) → OnlyOne (λ (r : ℕ × Found). HandsFound (trusting_of n ds k) was r.0 r.1)
look_up_trusting_one n ds k was = hand_found_one (trusting_of n ds k) was

pub list_trusting_one : (n : Nodes) (start was : ℕ) (before : Lists)
    → OnlyOne (λ (r : Lists × (ℕ × ℕ)). HandsTrustedList n start before r.0 was r.1.0 r.1.1)
list_trusting_one n start was before = listed_on (λ after a. ListTrustingSays n start before after a) (list-answer-one n start before) was

pub cells_trusting_one : (n : Nodes) (from : ℕ) (was : Cells) → OnlyOne (λ (r : Cells × ℕ). CellsSays n from was r.0 r.1)
cells_trusting_one n from was = cells-answer-one n from was

pub dual_cell_trusting_one : (n : Nodes) (ds : List Float) (L v : ℕ) (was : Eight) → OnlyOne (λ (r : ℕ × Eight). HandsTrustedDual n ds L v was r.0 r.1)
dual_cell_trusting_one n ds L v was =
    handed_on (λ (a : Dual). DualTrustingSays n ds L v a.keys a.distances a.places a.tried) (λ a r. HandsEight a.keys a.distances a.places a.tried was r.0 r.1)
    (dual-answer-one n ds L v) (λ a. hand_eight_one a was)
