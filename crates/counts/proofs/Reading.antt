-- What reads put into a buffer, and its line. Assumes nothing.
use Rattle.std.proofs.Common.{◌≡◌, ℕ, ◌+◌, ◌<◌, ◌≤◌, List, [], ◌++◌, length, take, inl, inr, None, Some, IfSome, Ok, Err, Result, OnOk, arith, sym, ap, ◌∙◌, subst, append-nil, length-take-le}
use Rattle.std.proofs.Math.Seq.{take-append-add}
use Rattle.std.proofs.lemmas.Bool.{cases_lt}
use Rattle.std.proofs.lemmas.List.{take-append-le, take_at}
use Rattle.std.specs.declared.option.Option.{Option}
use Rattle.std.specs.Io.KnownBytes.{Appends, Consumes, IsAtEnd}
use borrow.Rule.Slice.PartMut.{put_mid, post_of}
use Rattle.counting.specs.Printed.{line_of}
use Rattle.counting.proofs.Runs.{later_ignored}

-- a read into the end of a buffer
pub joined : (a k n : ℕ) (xs ys : List ℕ) → a ≤ length xs → n ≤ length ys → take (a + n) (put_mid a k xs ys) ≡ take a xs ++ take n ys
joined a k n xs ys within fits =
    ap (λ m. take (m + n) (put_mid a k xs ys)) (sym (length-take-le a xs within))
    ∙ take-append-add (take a xs) (ys ++ post_of a k xs) n
    ∙ ap (λ l. take a xs ++ l) (take-append-le n ys (post_of a k xs) fits)

-- what stands in a buffer of 4,101 bytes that is filled as far as the input goes has the line of the whole input
same_line : (xs ys start : List ℕ) → length start ≤ 4101 → xs ≡ start ++ ys → (length start < 4101 → ys ≡ []) → line_of start ≡ line_of xs
same_line xs ys start fits whole end =
    elim (cases_lt (length start) 4101) [
      | inl short ↦ ap line_of (sym (append-nil start) ∙ ap (λ l. start ++ l) (sym (end short)) ∙ sym whole)
      | inr full ↦
          let exact : length start ≡ 4101 = omega arith in
          ap line_of (sym (take_at start ys 4101 exact) ∙ ap (take 4101) (sym whole)) ∙ later_ignored xs
    ]

pub answered : {E : Type 0} (r : Result (Unit {0}) E) (a b c d : Option (List ℕ)) (buffer line : List ℕ) (n : ℕ)
    → length buffer ≡ 4101 → n ≤ length buffer → Consumes a b (take n buffer) → (n < length buffer → IsAtEnd b)
    → line ≡ line_of (take n buffer) → OnOk r (Appends c d line) → OnOk r (IfSome a (λ xs. Appends c d (line_of xs)))
answered (Err e) a b c d buffer line n whole bound took end text wrote = tt
answered (Ok u) None b c d buffer line n whole bound took end text wrote = tt
answered (Ok u) (Some xs) None c d buffer line n whole bound took end text wrote = absurd took
answered (Ok u) (Some xs) (Some ys) c d buffer line n whole bound took end text wrote =
    let long : length (take n buffer) ≡ n = length-take-le n buffer bound in
    let same = same_line xs ys (take n buffer) (omega arith) took (λ short. end (omega (arith, short, long, whole))) in
    subst (Appends c d) (text ∙ same) wrote
