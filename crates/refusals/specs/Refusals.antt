-- The numbers that are given for no, and how an answer is handed to a host. Assumes nothing.
use Rattle.std.specs.Prelude.{ℕ, ◌≡◌, Result, Ok, Err}
use Rattle.refusals.specs.declared.Refusal.{Refusal}
use Rattle.refusals.specs.declared.Refusal.TheVariants.{NotACell, AboveSeven, WrongLevel, NotAVertex, AboveFifteen, NodesFull, LeavesFull, QueueFull, NothingAsked, NotFitting, NotSound, ListFull, NotFinite, ReportShort}

abbrev pub number : Refusal → ℕ
number NotACell = 1
number AboveSeven = 2
number WrongLevel = 3
number NotAVertex = 4
number AboveFifteen = 5
number NodesFull = 6
number LeavesFull = 7
number QueueFull = 8
number NothingAsked = 9
number NotFitting = 10
number NotSound = 11
number ListFull = 12
number NotFinite = 16
number ReportShort = 17

-- The returned number is 0 and the out parameter is the result; or it is the refusal's number, and the out parameter is as it was.
abbrev pub Hands : {A : Type 0} → Result A Refusal → A → ℕ → A → Type 0
Hands (Ok x) was r out = (r ≡ 0) × (out ≡ x)
Hands (Err e) was r out = (r ≡ number e) × (out ≡ was)
