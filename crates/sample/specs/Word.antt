-- What a word of a line stands for. Assumes nothing.
use Rattle.std.specs.Prelude.{ℕ, ◌*◌, ◌/◌, ◌%◌, ◌^◌, min, Bool, ◌==◌, from_bits, to_bits, Float}
use Rattle.std.specs.Float.{binary32}

-- The float of a word's low half.
abbrev pub float_of : ℕ → Float
float_of bits = from_bits binary32 (bits % 2 ^ 32)

-- Its low half is the pattern of a float.
abbrev pub is_float : Float → ℕ → Bool
is_float d bits = to_bits binary32 d == bits % 2 ^ 32

-- One of the four lengths of 16 bits that a word holds, the lowest being number 0, and at most so many.
abbrev pub length_of : ℕ → ℕ → ℕ → ℕ
length_of packed which most = min (packed / 2 ^ (which % 4 * 16) % 2 ^ 16) most
