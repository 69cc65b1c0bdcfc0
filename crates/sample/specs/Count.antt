-- How lines are counted. Assumes nothing.
use Rattle.std.specs.Prelude.{ℕ, ◌+◌, ◌%◌, ◌^◌, Bool, cond, ◌&&◌, nat_lt, slice_index, slice_set}
use Rattle.sample.specs.declared.Tally.{Tally}

abbrev next : ℕ → ℕ
next n = (n + 1) % 2 ^ 64

-- The counts with one line more that differs.
abbrev pub differing_of : Tally → Tally
differing_of t = record { agree = t.agree; differ = next t.differ }

-- The counts with one line more, which is of one of 24 calls and agreed, or differs.
abbrev pub counted_of : Tally → ℕ → Bool → Tally
counted_of t op same =
    cond
    (same && nat_lt op 24)
    (record { agree = slice_set t.agree op (next (slice_index t.agree op)); differ = t.differ })
    (differing_of t)
