-- The spans grow by the cells that are gone over. Assumes nothing.
use Prim.Native.Nat.{ℕ, ◌+◌, ◌-◌, ◌*◌, ◌≤◌, ◌<◌, max}
use mathlib.Core.Path.{◌≡◌, sym, ◌∙◌, ap, subst}
use mathlib.Core.List.{List, [], ◌++◌, append-nil, append_assoc}
use mathlib.Core.Logic.{◌⊎◌, inl, inr, ⊎_elim}
use native.Mathlib.Omega.{arith}
use lib.ListN.{length, get_or, take, drop, length-append, length-take, length-drop, get_or-append}
use lib.Seq.{get_or-take, get_or-drop, get_or-append-add, take-add}
use Rattle.tree.proofs.Lists.{order}
use Rattle.spans.specs.Trusted.{Beside}
use Rattle.spans.specs.Steps.{upper, lower, own, Ready, GreatestYet, down, Meets, Reach, Entry, AllRaised, Inside, Spanned, Widens}
use Rattle.spans.proofs.Yet.{yet_both, yet_same}
use Rattle.spans.proofs.Entries.{own_stays, ready_again}

-- ---- one cell more

module _ (height : ℕ → ℕ) (seen places : List ℕ) (k at : ℕ) (long : length seen ≡ 8 * k) (room : 8 * at + 8 ≤ length places) where
  abbrev cell : List ℕ
  cell = take 8 (drop (8 * at) places)

  abbrev all : List ℕ
  all = seen ++ cell

  all_long : length all ≡ 8 * k + 8
  all_long = omega (arith, length-append seen cell, long, length-take 8 (drop (8 * at) places), length-drop (8 * at) places)

  old_at : (e : ℕ) → e < 8 * k → get_or all e 0 ≡ get_or seen e 0
  old_at e h = get_or-append seen cell 0 e (omega (arith, long))

  new_at : (o : ℕ) → o < 8 → get_or all (8 * k + o) 0 ≡ get_or places (8 * at + o) 0
  new_at o h =
      ap (λ (n : ℕ). get_or all (n + o) 0) (sym long)
      ∙ get_or-append-add seen cell o 0
      ∙ get_or-take 8 (drop (8 * at) places) o 0 h
      ∙ get_or-drop (8 * at) places o 0

  -- a place from the end of what was seen on is the cell's
  entry : (e : ℕ) → 8 * k ≤ e → e < length all → get_or all e 0 ≡ get_or places (8 * at + (e - 8 * k)) 0
  entry e h l = let i : 8 * k + (e - 8 * k) ≡ e = omega arith in ap (λ (e : ℕ). get_or all e 0) (sym i) ∙ new_at (e - 8 * k) (omega (arith, all_long))

  module _ (p : ℕ) where
    old : (y : ℕ) → Beside height seen p y → Beside height all p y
    old y b = record {
      e = b.e;
      f = b.f;
      e_inside = omega (arith, b.e_inside, long, all_long);
      f_inside = omega (arith, b.f_inside, long, all_long);
      one_cell = b.one_cell;
      here = old_at b.e (omega (arith, b.e_inside, long)) ∙ b.here;
      there = ap height (old_at b.f (omega (arith, b.f_inside, long))) ∙ b.there;
    }

    new : Entry places at 8 p → (y : ℕ) → Meets height places (8 * at) 8 y → Beside height all p y
    new n y m = record {
      e = 8 * k + n.o;
      f = 8 * k + m.o;
      e_inside = omega (arith, n.o_inside, all_long);
      f_inside = omega (arith, m.o_inside, all_long);
      one_cell = omega (arith, n.o_inside, m.o_inside);
      here = new_at n.o n.o_inside ∙ n.here;
      there = ap height (new_at m.o m.o_inside) ∙ m.there;
    }

    either : (y : ℕ) → Beside height all p y → Beside height seen p y ⊎ (Entry places at 8 p × Meets height places (8 * at) 8 y)
    either y b = ⊎_elim
        (λ lt.
        let ff : b.f < 8 * k = omega (arith, b.one_cell) in
        inl (record {
          e = b.e;
          f = b.f;
          e_inside = omega (arith, long);
          f_inside = omega (arith, long);
          one_cell = b.one_cell;
          here = sym (old_at b.e lt) ∙ b.here;
          there = ap height (sym (old_at b.f ff)) ∙ b.there;
        }))
        (λ ge.
        let gf : 8 * k ≤ b.f = omega (arith, b.one_cell) in
        inr (
          record { o = b.e - 8 * k; o_inside = omega (arith, b.e_inside, all_long); here = sym (entry b.e ge b.e_inside) ∙ b.here },
          record {
            o = b.f - 8 * k;
            o_inside = omega (arith, b.f_inside, all_long);
            there = ap height (sym (entry b.f gf b.f_inside)) ∙ b.there;
          },
        ))
        (order b.e (8 * k))

    -- of a node that the cell has
    pub yet_raised : Entry places at 8 p → {x reach : ℕ} (z : ℕ) → z ≡ max x reach → GreatestYet (Beside height seen p) x
        → GreatestYet (Meets height places (8 * at) 8) reach
        → GreatestYet (Beside height all p) z
    yet_raised n z e a b = yet_both z e a b old (new n) (λ y c. ⊎_elim (λ l. inl l) (λ r. inr r.1) (either y c))

    -- of another
    pub yet_kept : (Entry places at 8 p → ⊥) → {x : ℕ} (z : ℕ) → x ≡ z → GreatestYet (Beside height seen p) x → GreatestYet (Beside height all p) z
    yet_kept none z e a = yet_same z e a old (λ y c. ⊎_elim (λ l. l) (λ r. absurd (none r.0)) (either y c))

module _ (nodes : ℕ) (places : List ℕ) (at reach : ℕ) (first last first' last' : List ℕ) (R : Ready nodes first last) (inside : Inside nodes places)
    (room : 8 * at + 8 ≤ length places) (C : Reach (own nodes last) places (8 * at) 8 reach)
    (A : AllRaised places at 8 reach first last first' last') where
  -- what the slabs tell of the cell's nodes their heights do
  module _ (height : ℕ → ℕ) (owned : (p : ℕ) → p < nodes → own nodes last p ≡ height p) (way : ℕ → ℕ) where
    node : (o : ℕ) → o < 8 → way (own nodes last (get_or places (8 * at + o) 0)) ≡ way (height (get_or places (8 * at + o) 0))
    node o h = ap way (owned (get_or places (8 * at + o) 0) (inside (8 * at + o) (omega (arith, room))))

    met : {x : ℕ} → GreatestYet (Meets (λ p. way (own nodes last p)) places (8 * at) 8) x
        → GreatestYet (Meets (λ p. way (height p)) places (8 * at) 8) x
    met {x} a =
        yet_same x (omega arith) a
        (λ y m. record { o = m.o; o_inside = m.o_inside; there = sym (node m.o m.o_inside) ∙ m.there })
        (λ y m. record { o = m.o; o_inside = m.o_inside; there = node m.o m.o_inside ∙ m.there })

  cell_spans : (height : ℕ → ℕ) (seen : List ℕ) (k : ℕ) → length seen ≡ 8 * k → Spanned nodes height seen first last
      → Spanned nodes height (seen ++ take 8 (drop (8 * at) places)) first' last'
  cell_spans height seen k long S = record {
    owned = λ p h. own_stays nodes places at reach first last first' last' R inside room A p ∙ S.owned p h;
    each = λ p h. ⊎_elim
        (λ a. record {
          highest = yet_raised height seen places k at long room p a.0 _ a.1.low (S.each p h).highest (met height S.owned (λ x. x) C.highest);
          lowest = yet_raised (down height) seen places k at long room p a.0 _ a.1.high (S.each p h).lowest
              (met height S.owned (λ x. 32767 - x) C.lowest);
        })
        (λ b. record {
          highest = yet_kept height seen places k at long room p b.0 _ (ap lower (sym b.1)) (S.each p h).highest;
          lowest = yet_kept (down height) seen places k at long room p b.0 _ (ap upper (sym b.1)) (S.each p h).lowest;
        })
        (A.each p);
  }

  pub cell_widens : Widens nodes (take 8 (drop (8 * at) places)) first last first' last'
  cell_widens = record { ready = ready_again nodes places at reach first last first' last' R inside room A C.small; spans = cell_spans }

-- ---- cells one after another

pub widens_none : (nodes : ℕ) (first last : List ℕ) → Ready nodes first last → Widens nodes [] first last first last
widens_none nodes first last R = record {
  ready = R;
  spans = λ height seen k long S. subst (λ (xs : List ℕ). Spanned nodes height xs first last) (sym (append-nil seen)) S;
}

-- what tables tell of the cells before
abbrev pub Told : ℕ → List ℕ → List ℕ → List ℕ → List ℕ → List ℕ → Type 0
Told nodes first₀ last₀ first last seen = Widens nodes seen first₀ last₀ first last

pub widens_then : (nodes : ℕ) (next first₀ last₀ first last first' last' : List ℕ) → Widens nodes next first last first' last'
    → (more : List ℕ) (cells : ℕ) → length more ≡ 8 * cells → Told nodes first₀ last₀ first last more
    → Told nodes first₀ last₀ first' last' (more ++ next)
widens_then nodes next first₀ last₀ first last first' last' B more cells e A = record {
  ready = B.ready;
  spans = λ height seen k long S.
      subst (λ (xs : List ℕ). Spanned nodes height xs first' last') (append_assoc seen more next)
      (B.spans height (seen ++ more) (k + cells) (omega (arith, length-append seen more, long, e)) (A.spans height seen k long S));
}

-- the cells of a table, up to one and with it
pub widens_more : (nodes at : ℕ) (places first₀ last₀ first last first' last' : List ℕ) → 8 * at + 8 ≤ length places
    → Widens nodes (take (8 * at) places) first₀ last₀ first last → Widens nodes (take 8 (drop (8 * at) places)) first last first' last'
    → Widens nodes (take (8 * (at + 1)) places) first₀ last₀ first' last'
widens_more nodes at places first₀ last₀ first last first' last' h A B =
    let e : 8 * (at + 1) ≡ 8 * at + 8 = omega arith in
    subst (λ (xs : List ℕ). Widens nodes xs first₀ last₀ first' last') (sym (ap (λ (n : ℕ). take n places) e ∙ take-add (8 * at) 8 places))
    (widens_then nodes (take 8 (drop (8 * at) places)) first₀ last₀ first last first' last' B (take (8 * at) places) at
    (omega (arith, length-take (8 * at) places)) A)
