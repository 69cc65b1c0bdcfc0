-- What reads of lines give, by the bytes that the input is known to have. Assumes nothing.
use Rattle.std.specs.Prelude.{ℕ, ◌≡◌, ◌⊎◌, Bool, List, length, replicate, Option}
use Rattle.std.specs.Io.KnownBytes.{Consumes}
use Rattle.sample.specs.declared.Line.{Line}
use Rattle.sample.specs.declared.Tally.{Tally}
use Rattle.sample.specs.Text.{line_of}
use Rattle.sample.specs.Count.{counted_of}

-- What is given of a text that isn't there.
abbrev pub no_line : Line
no_line = line_of (replicate 108 0)

-- The line is that of 108 bytes that the input has lost, or none.
abbrev pub IsNext : Option (List ℕ) → Option (List ℕ) → Line → Type 0
IsNext old new l = ((text : List ℕ) × Consumes old new text × (length text ≡ 108) × (l ≡ line_of text)) ⊎ (l ≡ no_line)

abbrev pub no_tally : Tally
no_tally = record { agree = replicate 24 0; differ = 0 }

-- Lines that are read one after the other, each of which is asked once whether it agrees, and what is counted of them.
pub data Counts {F : Type 0} (asked : F → Line → Bool → F → Type 0) (f : F) (bytes : Option (List ℕ)) : F → Option (List ℕ) → Tally → Type 0 where
  none : Counts asked f bytes f bytes no_tally
  more : {g h : F} {old new : Option (List ℕ)} {t : Tally} {l : Line} {same : Bool}
      → Counts asked f bytes g old t → IsNext old new l → asked g l same h → Counts asked f bytes h new (counted_of t l.op same)

-- The counts are those of such lines, from the first on.
abbrev pub Replays : {F : Type 0} → (F → Line → Bool → F → Type 0) → F → Option (List ℕ) → Tally → Type 0
Replays {F} asked f bytes t = (last : F) × (rest : Option (List ℕ)) × Counts asked f bytes last rest t
