-- Each refusal has a number of its own, and none has 0. Assumes nothing.
use Rattle.std.proofs.Common.{ℕ, ◌≡◌, cond, eqb, refl, sym, ap, ◌∙◌, arith}
use Rattle.refusals.specs.declared.Refusal.{Refusal}
use Rattle.refusals.specs.declared.Refusal.TheVariants.{NotACell, AboveSeven, WrongLevel, NotAVertex, AboveFifteen, NodesFull, LeavesFull, QueueFull, NothingAsked, NotFitting, NotSound, ListFull, NotFinite, ReportShort}
use Rattle.refusals.specs.Refusals.{number}

-- the refusal that has a number
abbrev refusal : ℕ → Refusal
refusal n =
    cond (eqb n 1) NotACell (cond (eqb n 2) AboveSeven (cond (eqb n 3) WrongLevel (cond (eqb n 4) NotAVertex (cond (eqb n 5) AboveFifteen
    (cond (eqb n 6) NodesFull (cond (eqb n 7) LeavesFull (cond (eqb n 8) QueueFull (cond (eqb n 9) NothingAsked (cond (eqb n 10) NotFitting
    (cond (eqb n 11) NotSound (cond (eqb n 12) ListFull (cond (eqb n 16) NotFinite ReportShort))))))))))))

its_number : (k : Refusal) → refusal (number k) ≡ k
its_number NotACell = refl
its_number AboveSeven = refl
its_number WrongLevel = refl
its_number NotAVertex = refl
its_number AboveFifteen = refl
its_number NodesFull = refl
its_number LeavesFull = refl
its_number QueueFull = refl
its_number NothingAsked = refl
its_number NotFitting = refl
its_number NotSound = refl
its_number ListFull = refl
its_number NotFinite = refl
its_number ReportShort = refl

pub number_apart : (j k : Refusal) → number j ≡ number k → j ≡ k
number_apart j k e = sym (its_number j) ∙ ap refusal e ∙ its_number k

pub some_number : (k : Refusal) → number k ≡ 0 → ⊥
some_number k e = let z : 17 ≡ number k = ap number (ap refusal (sym e) ∙ its_number k) in omega (arith, e, z)
