-- Lists of finite distances. Assumes nothing.
use Prim.Native.Nat.{zero, suc}
use mathlib.Core.Path.{◌≡◌, sym, subst}
use mathlib.Core.Bool.{true}
use mathlib.Core.List.{List, [], ◌∷◌, ◌++◌, reverse, reverse-cons}
use native.Mathlib.Omega.{arith}
use lib.Ieee.{Float}
use lib.Ieee.Scale.{finite}
use Rattle.tree.specs.Tree.{AllFinite}

pub finite_none : AllFinite []
finite_none i l = absurd (omega arith)

pub finite_more : (d : Float) (ds : List Float) → finite d ≡ true → AllFinite ds → AllFinite (d ∷ ds)
finite_more d ds f h zero l = f
finite_more d ds f h (suc i) l = h i (omega arith)

pub finite_head : (d : Float) (ds : List Float) → AllFinite (d ∷ ds) → finite d ≡ true
finite_head d ds h = h 0 (omega arith)

pub finite_tail : (d : Float) (ds : List Float) → AllFinite (d ∷ ds) → AllFinite ds
finite_tail d ds h i l = h (suc i) (omega arith)

finite_append : (ds es : List Float) → AllFinite ds → AllFinite es → AllFinite (ds ++ es)
finite_append [] es h k = k
finite_append (d ∷ ds) es h k = finite_more d (ds ++ es) (finite_head d ds h) (finite_append ds es (finite_tail d ds h) k)

pub finite_reverse : (ds : List Float) → AllFinite ds → AllFinite (reverse ds)
finite_reverse [] h = h
finite_reverse (d ∷ ds) h =
    subst AllFinite (sym (reverse-cons d ds))
    (finite_append (reverse ds) (d ∷ []) (finite_reverse ds (finite_tail d ds h)) (finite_more d [] (finite_head d ds h) finite_none))
