-- The lowest and the highest of eight nodes, found one node after another. Assumes nothing.
use Prim.Native.Nat.{ℕ, ◌+◌, ◌<◌, min, max}
use mathlib.Core.Path.{◌≡◌, refl, ap₂, subst, ◌∙◌}
use mathlib.Core.Logic.{◌⊎◌, inl, inr, ⊎_elim}
use mathlib.Core.List.{List}
use native.Mathlib.Nat.{min-eq_left, min-eq_right, max-eq_left, max-eq_right}
use native.Mathlib.Omega.{arith}
use native.Mathlib.Decide.{dec_lt}
use lib.ListN.{length, get_or}
use Rattle.slabs.specs.Heights.{NoHigher, NoLower, Outermost, slab_of, Reaches}
use Rattle.slabs.proofs.Order.{either_higher, no_higher_through, slab_order}

-- what both have in common: of two slabs, the one of the outer node is picked
pub record Way (so : ℕ → ℕ → Type 0) (pick : ℕ → ℕ → ℕ) (s : ℕ) : Type 0 where
  pub either : (j k : ℕ) → so j k ⊎ so k j
  pub through : (i j k : ℕ) → so i j → so j k → so i k
  pub keeps : (j k : ℕ) → so j k → pick (slab_of s j) (slab_of s k) ≡ slab_of s j
  pub takes : (j k : ℕ) → so k j → pick (slab_of s j) (slab_of s k) ≡ slab_of s k

either_way : (j k : ℕ) → NoHigher j k ⊎ NoHigher k j
either_way j k = ⊎_elim (λ h. inl (omega arith)) (λ h. inr h) (either_higher j k)

pub downward : (s : ℕ) → Way NoHigher min s
downward s =
    record {
      either = either_way;
      through = no_higher_through;
      keeps = λ j k h. min-eq_left (slab_order s j k h);
      takes = λ j k h. min-eq_right (slab_order s k j h);
    }

pub upward : (s : ℕ) → Way NoLower max s
upward s =
    record {
      either = λ j k. either_way k j;
      through = λ i j k h g. no_higher_through k j i g h;
      keeps = λ j k h. max-eq_left (slab_order s k j h);
      takes = λ j k h. max-eq_right (slab_order s j k h);
    }

-- the outermost of the first n nodes, and its slab
pub record Until (so : ℕ → ℕ → Type 0) (s : ℕ) (keys : List ℕ) (n slab : ℕ) : Type 0 where
  pub node : ℕ
  pub place : ℕ
  pub inside : place < n
  pub here : get_or keys place 0 ≡ node
  pub against : (j : ℕ) → j < n → so node (get_or keys j 0)
  pub slab_is : slab ≡ slab_of s node

module _ (so : ℕ → ℕ → Type 0) (pick : ℕ → ℕ → ℕ) (s : ℕ) (way : Way so pick s) (keys : List ℕ) where
  itself : (k : ℕ) → so k k
  itself k = ⊎_elim (λ h. h) (λ h. h) (way.either k k)

  pub until_one : (slab : ℕ) → slab ≡ slab_of s (get_or keys 0 0) → Until so s keys 1 slab
  until_one slab e =
      record {
        node = get_or keys 0 0;
        place = 0;
        inside = omega arith;
        here = refl;
        against = λ j h. subst (λ (i : ℕ). so (get_or keys 0 0) (get_or keys i 0)) (omega arith) (itself (get_or keys 0 0));
        slab_is = e;
      }

  with_last : (n k : ℕ) → ((j : ℕ) → j < n → so k (get_or keys j 0)) → so k (get_or keys n 0) → (j : ℕ) → j < n + 1 → so k (get_or keys j 0)
  with_last n k before last j h =
      elim (dec_lt j n) [
        | yes l ↦ before j l
        | no l ↦ subst (λ (i : ℕ). so k (get_or keys i 0)) (omega arith) last
      ]

  pub until_more : (n outer slab r : ℕ) → slab ≡ slab_of s (get_or keys n 0) → r ≡ pick outer slab → Until so s keys n outer → Until so s keys (n + 1) r
  until_more n outer slab r e f u = ⊎_elim kept taken (way.either u.node (get_or keys n 0))
    where
      picked : r ≡ pick (slab_of s u.node) (slab_of s (get_or keys n 0))
      picked = f ∙ ap₂ pick u.slab_is e

      kept : so u.node (get_or keys n 0) → Until so s keys (n + 1) r
      kept h =
          record {
            node = u.node;
            place = u.place;
            inside = omega (arith, u.inside);
            here = u.here;
            against = with_last n u.node u.against h;
            slab_is = picked ∙ way.keeps u.node (get_or keys n 0) h;
          }

      taken : so (get_or keys n 0) u.node → Until so s keys (n + 1) r
      taken h =
          record {
            node = get_or keys n 0;
            place = n;
            inside = omega arith;
            here = refl;
            against = with_last n (get_or keys n 0) (λ j l. way.through (get_or keys n 0) u.node (get_or keys j 0) h (u.against j l)) (itself (get_or keys n 0));
            slab_is = picked ∙ way.takes u.node (get_or keys n 0) h;
          }

  pub until_all : (n slab : ℕ) → n ≡ length keys → (u : Until so s keys n slab) → Outermost so keys u.node
  until_all n slab e u =
      record {
        one_of = record { place = u.place; inside = omega (arith, u.inside, e); here = u.here };
        against = λ j i. subst (so u.node) i.here (u.against i.place (omega (arith, i.inside, e)));
      }

-- what the loop keeps
pub record Both (s : ℕ) (keys : List ℕ) (n first last : ℕ) : Type 0 where
  pub low : Until NoHigher s keys n first
  pub high : Until NoLower s keys n last

module _ (s : ℕ) (keys : List ℕ) where
  pub both_one : (slab : ℕ) → slab ≡ slab_of s (get_or keys 0 0) → Both s keys 1 slab slab
  both_one slab e =
      record { low = until_one NoHigher min s (downward s) keys slab e; high = until_one NoLower max s (upward s) keys slab e }

  pub both_more : (n first last slab r t : ℕ) → Both s keys n first last → slab ≡ slab_of s (get_or keys n 0) → r ≡ min first slab → t ≡ max last slab
      → Both s keys (n + 1) r t
  both_more n first last slab r t b e f g =
      record {
        low = until_more NoHigher min s (downward s) keys n first slab r e f b.low;
        high = until_more NoLower max s (upward s) keys n last slab t e g b.high;
      }

  pub both_all : (n first last : ℕ) → n ≡ length keys → Both s keys n first last → Reaches keys s first last
  both_all n first last e b =
      record {
        low = b.low.node;
        high = b.high.node;
        lowest = until_all NoHigher min s (downward s) keys n first e b.low;
        highest = until_all NoLower max s (upward s) keys n last e b.high;
        first_is = b.low.slab_is;
        last_is = b.high.slab_is;
      }
