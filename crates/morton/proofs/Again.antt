-- What some definitions say, said again in other words: a child by its coordinates, a sum by its undoing, an extent by the corners. Assumes nothing.
use Rattle.std.proofs.Common.{◌≡◌, ℕ, suc, ◌+◌, ◌-◌, ◌*◌, ◌/◌, ◌%◌, ◌^◌, ◌<◌, ◌≤◌, sym, ap, ◌∙◌, subst, mod-lt, mod-eq_of_lt, mul_assoc, mul_left_comm, add-one, arith, pow_pos, pow_mono, le-ltb, ne_eqb}
use native.Mathlib.Nat.{pow-succ', add-mod_right}
use native.Mathlib.Decide.{dec_lt}
use lib.Ieee.{Float, nan, inf, fin, binary32, up, down, add as plus}
use Rattle.morton.specs.Answers.{the_key, child_of, OnAxis}
use Rattle.morton.specs.Exact.{Exactly}
use Rattle.morton.specs.Field.{bit, width, field, coord, key, add, sub}
use Rattle.morton.specs.Level.{deepest, level, Cell}
use Rattle.morton.proofs.Cells.{child_cell}
use Rattle.morton.proofs.Dilated.{third_lt}
use Rattle.morton.proofs.Fields.{coord_lt, field_word, word_field, weave_ext, key_coord, key_ext, coord_child}
use Rattle.morton.proofs.Levels.{level_le, cell_level, cell_is}
use Rattle.morton.proofs.Rounding.{add_exactly}

-- child w has the coordinates of its cell doubled, and the bits of w
pub child_given : (L n w : ℕ) → L ≤ 20 → Cell L n → w ≤ 7 → child_of n w ≡ the_key (key (suc L) (λ a. 2 * coord L n a + bit a w))
child_given L n w h c hw =
    let own : level n ≡ L = cell_level L n (omega arith) c in
    rw (cell_is L n (omega arith) c, le-ltb 7 w hw, ne_eqb (level n) deepest (λ e. omega (arith, own, e)))
    (ap the_key
    (sym
    (key_ext (suc L) (λ a. 2 * coord L n a + bit a w) (coord (suc L) (8 * n + w)) (λ a l. omega (arith, coord_child L n w a hw l))
    ∙ key_coord (suc L) (8 * n + w) (child_cell L n w c hw))))

-- ---- a sum less one of its parts is the other part: no field loses a bit

turned_back : (x y p : ℕ) → x < p → y < p → ((x + y) % p + (p - y)) % p ≡ x
turned_back x y p h g = go (dec_lt (x + y) p)
  where
    once : (z : ℕ) → (x + y) % p ≡ z → z + (p - y) ≡ x → ((x + y) % p + (p - y)) % p ≡ x
    once z e i = ap (λ (u : ℕ). (u + (p - y)) % p) e ∙ ap (λ (u : ℕ). u % p) i ∙ mod-eq_of_lt h

    go : Dec (x + y < p) → ((x + y) % p + (p - y)) % p ≡ x
    go (yes l) =
        ap (λ (u : ℕ). (u + (p - y)) % p) (mod-eq_of_lt l)
        ∙ ap (λ (u : ℕ). u % p) (let e : x + y + (p - y) ≡ x + p = omega arith in e)
        ∙ add-mod_right x p
        ∙ mod-eq_of_lt h
    go (no l) =
        let e : x + y ≡ x + y - p + p = omega arith in
        once (x + y - p) (ap (λ (u : ℕ). u % p) e ∙ add-mod_right (x + y - p) p ∙ mod-eq_of_lt (omega arith)) (omega arith)

field_add : (m n a : ℕ) → a < 3 → field (add m n) a ≡ (field m a + field n a) % 2 ^ width a
unfolding add
field_add m n a l = field_word (λ b. (field m b + field n b) % 2 ^ width b) a l (mod-lt _ (pow_pos (width a)))

pub add_back : (m n : ℕ) → m < 2 ^ 64 → sub (add m n) n ≡ m
unfolding sub
add_back m n h =
    weave_ext 22 (λ a. (field (add m n) a + (2 ^ width a - field n a)) % 2 ^ width a) (field m)
    (λ a l. ap (λ (x : ℕ). (x + (2 ^ width a - field n a)) % 2 ^ width a) (field_add m n a l)
    ∙ turned_back (field m a) (field n a) (2 ^ width a) (third_lt (width a) (m / 2 ^ a)) (third_lt (width a) (n / 2 ^ a)))
    ∙ word_field m h

-- ---- the centre of a cell and its half size reach to the cell's far corner, which is (c + 1) / 2^L

halved : (y : Float) (a b : ℕ) → Exactly y (2 * a) (2 * b) → Exactly y a b
halved nan a b h = record { held = h.held; value = h.value }
halved (inf s) a b h = record { held = h.held; value = h.value }
halved (fin s m e) a b h =
    record {
      held = h.held;
      value = (h.value.0, omega (arith, h.value.1, mul_left_comm (m * up e) 2 b, mul_assoc 2 a (down e)));
    }

pub far_corner : (n a : ℕ) (x half : Float) → OnAxis n a x → Exactly half 1 (2 ^ (level n + 1))
    → Exactly (plus binary32 x half) (coord (level n) n a + 1) (2 ^ level n)
far_corner n a x half c h =
    let L = level n in
    let room : 2 * coord L n a + 1 + 1 < 2 ^ 24 = omega (arith, coord_lt L n a, pow_mono {i = L} {j = 21} (level_le n)) in
    let far = add_exactly x half (2 * coord L n a + 1) 1 (L + 1) c h room (omega (arith, level_le n)) in
    halved (plus binary32 x half) (coord L n a + 1) (2 ^ L)
    (subst (λ (b : ℕ). Exactly (plus binary32 x half) (2 * (coord L n a + 1)) b) (ap (λ (k : ℕ). 2 ^ k) (add-one L) ∙ pow-succ' 2 L)
    (subst (λ (k : ℕ). Exactly (plus binary32 x half) k (2 ^ (L + 1))) (omega arith) far))
