-- When an answer is what its line says. Assumes nothing.
use Rattle.std.specs.Prelude.{◌≡◌, Bool, false, ◌==◌, Result, Ok, Err}
use Rattle.refusals.specs.declared.Refusal.{Refusal}
use Rattle.refusals.specs.Refusals.{number}
use Rattle.sample.specs.declared.Line.{Line}

-- Of a value that is asked, where the line has no refusal; a refusal is the same by its number.
abbrev pub SaysSame : {A : Type 0} → (A → Bool → Type 0) → Line → Bool → Result A Refusal → Type 0
SaysSame asked l same (Ok value) = (l.status ≡ 0 → asked value same) × ((l.status ≡ 0 → ⊥) → same ≡ false)
SaysSame asked l same (Err e) = same ≡ (number e == l.status)
