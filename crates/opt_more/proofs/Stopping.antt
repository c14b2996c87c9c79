-- Lists that are one, or longer than a fold may read.
use Rattle.std.proofs.Common.{◌≡◌, ℕ, ◌<◌, ◌+◌, ◌≤◌, arith, Bool, true, false, List, [], ◌∷◌, ◌++◌, drop, length, inl, inr, refl, sym, ◌∙◌, ap, subst}
use Rattle.std.specs.Prelude.{◌||◌, flat_map, if◌then◌else◌, nat_le, nat_lt, slice_index_or}
use Rattle.std.specs.List.{fold, list_any}
use Rattle.std.proofs.lemmas.Bool.{lt-leb, ltb-true}
use Rattle.std.proofs.lemmas.List.{length-append}
use Rattle.rtl_bits.specs.declared.bit.Bit.{Bit}
use Rattle.rtl_sig.specs.declared.sig.SigBit.{SigBit}
use Rattle.rtl_sig.specs.declared.sig.SigBit.TheVariants.{Fixed}
use Rattle.rtl_ir.specs.Signals.{same_place}
use Rattle.rtl_ir.specs.declared.cell.Cell.{Cell}
use Rattle.opt_more.specs.Changed.{with_inputs}
use Rattle.opt_more.specs.Gather.{AreAlike}
use Rattle.opt_more.specs.Reduce.{or_neutral, reduced_to, with_bit}
use Rattle.opt_more.proofs.FoldSteps.{bits_through, none_left}

pub alike_trans : (xs ys zs : List SigBit) → AreAlike xs ys → AreAlike ys zs → AreAlike xs zs
alike_trans xs ys zs (inl e) h = subst (λ q. AreAlike q zs) (sym e) h
alike_trans xs ys zs (inr k) (inl e) = inr (k.0, subst (λ q. 4096 < length q) e k.1)
alike_trans xs ys zs (inr k) (inr q) = inr (k.0, q.1)

module _ (neutral : Bit) where
  -- a list grows, bit by bit
  grows_one : (acc : List SigBit) (b : SigBit) → 4096 < length acc → 4096 < length (with_bit neutral acc b)
  grows_one acc b lt = by (same_place (Fixed neutral) b || list_any (same_place b) acc)
    where
      by : (t : Bool) → 4096 < length (if t then acc else acc ++ b ∷ [])
      by true = lt
      by false = let e : length (acc ++ b ∷ []) ≡ length acc + 1 = length-append acc (b ∷ []) in omega (arith, lt, e)

  pub grows : (xs acc : List SigBit) → 4096 < length acc → 4096 < length (fold (with_bit neutral) acc xs)
  grows [] acc lt = lt
  grows (b ∷ xs) acc lt = grows xs (with_bit neutral acc b) (grows_one acc b lt)

  -- alike lists stay so
  pub both_grow : (xs acc other : List SigBit) → AreAlike acc other → AreAlike (fold (with_bit neutral) acc xs) (fold (with_bit neutral) other xs)
  both_grow xs acc other (inl e) = inl (ap (λ z. fold (with_bit neutral) z xs) e)
  both_grow xs acc other (inr k) = inr (grows xs acc k.0, grows xs other k.1)

  -- a list that is too long need not grow
  pub stays_over : (xs acc : List SigBit) → nat_lt 4096 (length acc) ≡ true → AreAlike acc (fold (with_bit neutral) acc xs)
  stays_over xs acc over = let lt : 4096 < length acc = ltb-true 4096 (length acc) over in inr (lt, grows xs acc lt)

  -- what stands for the bit at a place is added, and then what stands for the bits that are left
  pub alike_through : {A : Type 0} (g : A → List SigBit) (xs : List A) (at : ℕ) (d : A) (acc new all : List SigBit) → at < length xs → AreAlike new (fold (with_bit neutral) acc (g (slice_index_or xs at d))) → AreAlike (fold (with_bit neutral) acc (flat_map g (drop at xs))) all
      → AreAlike (fold (with_bit neutral) new (flat_map g (drop (at + 1) xs))) all
  alike_through g xs at d acc new all lt is so =
      alike_trans (fold (with_bit neutral) new (flat_map g (drop (at + 1) xs))) (fold (with_bit neutral) acc (flat_map g (drop at xs))) all
      (subst (AreAlike (fold (with_bit neutral) new (flat_map g (drop (at + 1) xs)))) (bits_through (with_bit neutral) g xs at d acc (fold (with_bit neutral) acc (g (slice_index_or xs at d))) (fold (with_bit neutral) acc (flat_map g (drop at xs))) lt refl refl) (both_grow (flat_map g (drop (at + 1) xs)) new (fold (with_bit neutral) acc (g (slice_index_or xs at d))) is))
      so

  pub alike_left : {A : Type 0} (g : A → List SigBit) (xs : List A) (at : ℕ) (acc all : List SigBit) → length xs ≤ at → AreAlike (fold (with_bit neutral) acc (flat_map g (drop at xs))) all → AreAlike acc all
  alike_left g xs at acc all le so = subst (λ z. AreAlike (fold (with_bit neutral) acc (flat_map g z)) all) (none_left xs at le) so

  pub alike_or : (xs ys : List SigBit) → AreAlike xs ys → AreAlike (or_neutral neutral xs) (or_neutral neutral ys)
  alike_or xs ys (inl e) = inl (ap (or_neutral neutral) e)
  alike_or [] ys (inr k) = absurd (omega (arith, k.0))
  alike_or (x ∷ xs) [] (inr k) = absurd (omega (arith, k.1))
  alike_or (x ∷ xs) (y ∷ ys) (inr k) = inr k

-- a fold gets either of them, or stays
pub alike_reduced : (xs ys : List SigBit) (c : Cell) → AreAlike xs ys → reduced_to xs c ≡ reduced_to ys c
alike_reduced xs ys c (inl e) = ap (λ z. reduced_to z c) e
alike_reduced xs ys c (inr k) =
    let one : nat_le (length xs) 4096 ≡ false = lt-leb (length xs) 4096 k.0 in
    let two : nat_le (length ys) 4096 ≡ false = lt-leb (length ys) 4096 k.1 in
    ap (λ t. if t then with_inputs xs c else c) one ∙ sym (ap (λ t. if t then with_inputs ys c else c) two)
