-- What 64 bytes hold, and that a line fits in them. Assumes nothing.
use Prim.Native.Nat.{ℕ, ◌-◌, ◌≤◌}
use mathlib.Core.Path.{◌≡◌, ◌∙◌, ap}
use mathlib.Core.Bool.{Bool, true, false, cond}
use mathlib.Core.List.{List, [], ◌∷◌, ◌++◌}
use native.Mathlib.Omega.{arith}
use lib.Dec.{ltb}
use lib.ListN.{length, replicate, length-append, length-replicate}
use Rattle.counting.specs.Printed.{decimal, short_line, refused_line, counts_line, tree_line, bytes_of, Holds}
use Rattle.counting.proofs.Decimals.{decimal_most}

-- ---- what 64 bytes hold

pub holds : {line text : List ℕ} → length text ≤ 64 → text ≡ line → Holds line (bytes_of text) (length text)
holds h e = record { fits = omega (arith, h, ap length e); bytes_are = ap bytes_of e; count_is = ap length e }

-- So many bytes are there.
holds_all : {line bytes : List ℕ} {n : ℕ} → Holds line bytes n → length bytes ≡ 64
holds_all {line} h =
    ap length h.bytes_are ∙ omega (arith, h.fits, length-append line (replicate (64 - length line) 0), length-replicate {A = ℕ} (64 - length line) 0)

pub holds_room : {line bytes : List ℕ} {n : ℕ} → Holds line bytes n → n ≤ length bytes
holds_room h = omega (arith, h.fits, h.count_is, holds_all h)

-- ---- lines

pub short_fits : length short_line ≤ 64
unfolding short_line
short_fits = omega arith

pub refused_fits : (k : ℕ) → length (refused_line k) ≤ 64
unfolding refused_line
refused_fits k = omega (arith, decimal_most k, length-append (decimal k) (10 ∷ []))

pub counts_fits : (n m v : ℕ) → length (counts_line n m v) ≤ 64
unfolding counts_line
counts_fits n m v =
    omega (
      arith,
      decimal_most n,
      decimal_most m,
      decimal_most v,
      length-append (decimal n) (32 ∷ (decimal m ++ (32 ∷ (decimal v ++ (10 ∷ []))))),
      length-append (decimal m) (32 ∷ (decimal v ++ (10 ∷ []))),
      length-append (decimal v) (10 ∷ []),
    )

pub tree_fits : (n m v : ℕ) → length (tree_line n m v) ≤ 64
unfolding tree_line
tree_fits n m v = go (ltb 1024 v) _ _ (refused_fits 12) (counts_fits n m v)
  where
    go : (b : Bool) (xs ys : List ℕ) → length xs ≤ 64 → length ys ≤ 64 → length (cond b xs ys) ≤ 64
    go true xs ys p q = p
    go false xs ys p q = q
