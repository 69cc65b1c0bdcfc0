-- One answer only: of each public call, two answers that meet its promise are the same. Assumes nothing.
use Rattle.std.proofs.Common.{ℕ, ◌≡◌, sym, ◌∙◌}
use Rattle.std.specs.Prelude.{Result, Ok, Err}
use Rattle.refusals.specs.declared.Refusal.{Refusal}
use Rattle.refusals.specs.Refusals.{number, Hands}

pub number_one : (k : Refusal) (r s : ℕ) → r ≡ number k → s ≡ number k → r ≡ s
number_one k r s e f = e ∙ sym f

pub hand_one : {A : Type 0} (a : Result A Refusal) (was : A) (r s : ℕ × A) → Hands a was r.0 r.1 → Hands a was s.0 s.1 → r ≡ s
hand_one (Ok x) was r s (e, f) (g, h) = λ i. ((e ∙ sym g) i, (f ∙ sym h) i)
hand_one (Err k) was r s (e, f) (g, h) = λ i. ((e ∙ sym g) i, (f ∙ sym h) i)
