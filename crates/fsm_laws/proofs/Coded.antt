-- What codes say of bits, and that choosing keeps it.
use Rattle.std.proofs.Common.{◌≡◌, ◌<◌, ◌≤◌, ℕ, zero, suc, refl, sym, ◌∙◌, ap, subst, arith}
use Rattle.rtl_bits.proofs.Orders.{Below_trans, Below_from_equal}
use Rattle.rtl_bits.proofs.Tables.{mux_of_mono, seen_of_mono}
use Rattle.rtl_bits.specs.Knowledge.{Below, IsKnown}
use Rattle.rtl_bits.specs.Tables.{merge_of, mux_of, seen_of}
use Rattle.rtl_bits.specs.declared.bit.Bit.{Bit}
use Rattle.rtl_bits.specs.declared.bit.Bit.TheVariants.{S0, S1, X}
use Rattle.fsm_laws.specs.Codes.{OneHot, apart}

-- what is apart says no more than 0, and nothing of equal bits
pub apart_low : (a e : Bit) → Below (apart a e) S0
apart_low S0 S1 = refl
apart_low S1 S0 = refl
apart_low S0 e = tt
apart_low S1 e = tt
apart_low a e = tt

pub apart_same : (a : Bit) → apart a a ≡ X
apart_same S0 = refl
apart_same S1 = refl
apart_same a = refl

pub apart_unknown : (a e : Bit) → (IsKnown a → ⊥) → apart a e ≡ X
apart_unknown S0 e h = absurd (h tt)
apart_unknown S1 e h = absurd (h tt)
apart_unknown a e h = refl

pub apart_mono : (a b e : Bit) → Below a b → Below (apart a e) (apart b e)
apart_mono S0 b e h = Below_from_equal (apart S0 e) (apart b e) (ap (λ z. apart z e) (sym h))
apart_mono S1 b e h = Below_from_equal (apart S1 e) (apart b e) (ap (λ z. apart z e) (sym h))
apart_mono a b e h = tt

-- what is apart is seen
pub apart_seen : (a e : Bit) → Below (apart (seen_of a) e) (seen_of (apart a e))
apart_seen S0 S1 = refl
apart_seen S1 S0 = refl
apart_seen S0 e = tt
apart_seen S1 e = tt
apart_seen a e = tt

apart_merge : (a b e : Bit) → Below (apart (merge_of a b) e) (merge_of (apart a e) (apart b e))
apart_merge S0 S0 S1 = refl
apart_merge S1 S1 S0 = refl
apart_merge a b e = tt

pub apart_mux : (a b s e : Bit) → Below (apart (mux_of a b s) e) (mux_of (apart a e) (apart b e) s)
apart_mux a b S0 e = apart_seen a e
apart_mux a b S1 e = apart_seen b e
apart_mux a b s e = apart_merge a b e

-- a choice is apart where its operands are, each as a code says
pub mux_apart : (a b s e x y t : Bit) → Below (apart a e) x → Below (apart b e) y → Below s t → Below (apart (mux_of a b s) e) (mux_of x y t)
mux_apart a b s e x y t h k l =
    Below_trans _ _ _ (apart_mux a b s e) (mux_of_mono (apart a e) x (apart b e) y s t h k l)

pub seen_apart : (a e x : Bit) → Below (apart a e) x → Below (apart (seen_of a) e) (seen_of x)
seen_apart a e x h = Below_trans _ _ _ (apart_seen a e) (seen_of_mono (apart a e) x h)

-- one bit that is 1 where all others are 0
merge_zero : (a b : Bit) → merge_of a b ≡ S0 → (a ≡ S0) × (b ≡ S0)
merge_zero S0 S0 e = (refl, refl)
merge_zero S1 S1 e = absurd (cc)
merge_zero a b e = absurd (cc)

seen_zero : (a : Bit) → seen_of a ≡ S0 → a ≡ S0
seen_zero S0 e = refl
seen_zero S1 e = absurd (cc)
seen_zero a e = absurd (cc)

module _ (count : ℕ) where
  pub seen_hot : (u : ℕ → Bit) → OneHot count u → OneHot count (λ i. seen_of (u i))
  seen_hot u h i lt rest = ap seen_of (h i lt (λ j k n. seen_zero (u j) (rest j k n)))

  merge_hot : (u v : ℕ → Bit) → OneHot count u → OneHot count v → OneHot count (λ i. merge_of (u i) (v i))
  merge_hot u v h k i lt rest =
      ap (λ z. merge_of z (v i)) (h i lt (λ j l n. (merge_zero (u j) (v j) (rest j l n)).0)) ∙ ap (λ z. merge_of S1 z) (k i lt (λ j l n. (merge_zero (u j) (v j) (rest j l n)).1))

  pub mux_hot : (u v : ℕ → Bit) (s : Bit) → OneHot count u → OneHot count v → OneHot count (λ i. mux_of (u i) (v i) s)
  mux_hot u v S0 h k = seen_hot u h
  mux_hot u v S1 h k = seen_hot v k
  mux_hot u v s h k = merge_hot u v h k

  -- what is known on either side is known on the other
  pub hot_from : (u v : ℕ → Bit) → OneHot count u → ((i : ℕ) → i < count → Below (u i) (v i) × Below (v i) (u i)) → OneHot count v
  hot_from u v h same i lt rest =
      subst (λ z. Below z (v i)) (h i lt (λ j l n. subst (λ z. Below z (u j)) (rest j l n) (same j l).1)) (same i lt).0

  -- where nothing is known there are two bits at least
  pub unknown_hot : 2 ≤ count → (u : ℕ → Bit) → ((i : ℕ) → i < count → u i ≡ X) → OneHot count u
  unknown_hot two u h i lt rest = by i refl
    where
      differ : X ≡ S0 → ⊥
      differ e = cc

      other : (j : ℕ) → j < count → (j ≡ i → ⊥) → u i ≡ S1
      other j l n = absurd (differ (sym (h j l) ∙ rest j l n))

      by : (k : ℕ) → i ≡ k → u i ≡ S1
      by zero e = other 1 (omega (arith, two)) (λ f. omega (arith, e, f))
      by (suc k) e = other 0 (omega (arith, two)) (λ f. omega (arith, e, f))
