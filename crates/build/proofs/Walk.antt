-- From the tests that led to a return to the case of a definition by `cond`, `&&` and `||`, for `search`. Assumes nothing.
use mathlib.Core.Path.{◌≡◌, refl, sym, ◌∙◌}
use mathlib.Core.Bool.{Bool, true, false, cond, ◌&&◌, ◌||◌, not}
use borrow.Author.Tests.{not-true, not-false, le-ltb, lt-ltb, le-leb, lt-leb, eq-eqb, ne_eqb}

pub and_yes : (a b r : Bool) → a ≡ true → r ≡ b → r ≡ (a && b)
and_yes a b r h k = rw h k

pub and_no : (a b : Bool) → a ≡ false → false ≡ (a && b)
and_no a b h = rw h refl

pub or_yes : (a b : Bool) → a ≡ true → true ≡ (a || b)
or_yes a b h = rw h refl

pub or_no : (a b r : Bool) → a ≡ false → r ≡ b → r ≡ (a || b)
or_no a b r h k = rw h k

pub cond_yes : {A : Type 0} (a : Bool) (x y r : A) → a ≡ true → r ≡ x → r ≡ cond a x y
cond_yes a x y r h k = rw h k

pub cond_no : {A : Type 0} (a : Bool) (x y r : A) → a ≡ false → r ≡ y → r ≡ cond a x y
cond_no a x y r h k = rw h k

pub same : {A : Type 0} (x : A) → x ≡ x
same x = refl

pub ruleset walk = (and_yes, and_no, or_yes, or_no, cond_yes, cond_no, same, le-ltb, lt-ltb, le-leb, lt-leb, eq-eqb, ne_eqb)

-- the same where a call gave the flag
pub via_true : (r t : Bool) → r ≡ t → r ≡ true → t ≡ true
via_true r t e h = sym e ∙ h

pub via_false : (r t : Bool) → r ≡ t → r ≡ false → t ≡ false
via_false r t e h = sym e ∙ h

pub via_not_true : (r t : Bool) → r ≡ t → not r ≡ true → t ≡ false
via_not_true r t e h = sym e ∙ not-true r h

pub via_not_false : (r t : Bool) → r ≡ t → not r ≡ false → t ≡ true
via_not_false r t e h = sym e ∙ not-false r h

-- the same where a call says that two values differ
pub via_ne_true : (r t : Bool) → r ≡ not t → r ≡ true → t ≡ false
via_ne_true r t e h = not-true t (sym e ∙ h)

pub via_ne_false : (r t : Bool) → r ≡ not t → r ≡ false → t ≡ true
via_ne_false r t e h = not-false t (sym e ∙ h)

pub not_yes : (t : Bool) → t ≡ false → not t ≡ true
not_yes t h = rw h refl

pub not_no : (t : Bool) → t ≡ true → not t ≡ false
not_no t h = rw h refl

pub ruleset called = (walk, via_true, via_false, via_not_true, via_not_false, not_yes, not_no)
