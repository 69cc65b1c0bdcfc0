-- What the private steps of `counting` answer: the distance of four bytes, the tree of a finished build, and its list. Assumes nothing.
use Rattle.std.specs.Prelude.{ℕ, ◌≡◌, cond, List, ltb, get_or, Float, Result, Ok, Err}
use Rattle.std.specs.Float.{binary32}
use Rattle.std.specs.Float.Ieee.{of_bits}
use Rattle.refusals.specs.declared.Refusal.{Refusal}
use Rattle.refusals.specs.declared.Refusal.TheVariants.{ListFull}
use Rattle.build.specs.declared.State.{State}
use Rattle.build.specs.Build.{Tables}
use Rattle.demands.specs.Run.{Run}
use Rattle.counting.specs.Vertices.{vertex_count}
use Rattle.counting.specs.Printed.{little_endian}

abbrev pub float_of : List ℕ → Float
float_of four = of_bits binary32 (little_endian (get_or four 0 0) (get_or four 1 0) (get_or four 2 0) (get_or four 3 0))

-- The tables of a finished build.
pub record Built (s : State) (t : Tables) : Type 0 where
  pub bound : ℕ
  pub lent : Tables
  pub given : List Float
  pub run : Run bound lent given s t
  pub done : s.asked ≡ 0

-- The number of the vertices; 12 exactly if there are more than 1,024; never 11.
abbrev pub listed_of : List ℕ → Result ℕ Refusal
listed_of leaves = cond (ltb 1024 (vertex_count leaves)) (Err ListFull) (Ok (vertex_count leaves))
