-- What a line of text says. Assumes nothing.
use Rattle.std.specs.Prelude.{ℕ, zero, suc, ◌+◌, ◌-◌, ◌*◌, ◌%◌, ◌^◌, Bool, cond, ◌&&◌, List, ◌==◌, nat_le, nat_lt, slice_index}
use Rattle.sample.specs.declared.Line.{Line}

-- The value of a byte as a hexadecimal digit, 0 to 9 or a to f; of any other byte, 0.
unfoldable pub digit_of : ℕ → ℕ
digit_of b = cond (nat_le 48 b && nat_lt b 58) (b - 48) (cond (nat_le 97 b && nat_lt b 103) (b - 87) 0)

-- The number of the digits from a place on, the highest first.
unfoldable pub number : List ℕ → ℕ → ℕ → ℕ
number text at zero = 0
number text at (suc n) = number text at n * 16 + digit_of (slice_index text (at + n))

-- The call of a line; of a text that no newline ends, which is no line, a number above every call.
abbrev pub op_of : List ℕ → ℕ
op_of text = cond (slice_index text 107 == 10) (number text 0 2) 256

abbrev pub line_of : List ℕ → Line
line_of text =
    record {
      op = op_of text;
      a = number text 3 16;
      b = number text 20 16;
      c = number text 37 16;
      low_b = number text 20 16 % 2 ^ 32;
      low_c = number text 37 16 % 2 ^ 32;
      status = number text 54 2;
      x = number text 57 16;
      y = number text 74 16;
      z = number text 91 16;
    }

-- The line is no refusal, and its first result is n.
abbrev pub first_is : Line → ℕ → Bool
first_is l n = l.status == 0 && n == l.x
