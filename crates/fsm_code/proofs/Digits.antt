-- Numbers by their digits.
use Rattle.std.proofs.Common.{◌≡◌, ◌<◌, ◌≤◌, ℕ, zero, suc, ◌+◌, true, false, List, [], ◌∷◌, length, drop, get_or, Some, None, cond, ◌⊎◌, ⊎_elim, refl, sym, ◌∙◌, ap, arith, ne_eqb, eq-eqb}
use Rattle.std.specs.Prelude.{◌==◌, min}
use Rattle.std.proofs.Math.Seq.{drop-cons}
use Rattle.rtl_bits.specs.Numbers.{digit_of, number_of}
use Rattle.rtl_bits.specs.declared.bit.Bit.{Bit}
use Rattle.rtl_bits.specs.declared.bit.Bit.TheVariants.{S0, S1}
use Rattle.rtl_sig.specs.declared.sig.SigBit.{SigBit}
use Rattle.rtl_sig.specs.declared.sig.SigBit.TheVariants.{Fixed}
use Rattle.net_model.specs.Fsm.Code.{state_bit}
use Rattle.fsm_code.specs.Digits.{digit_at}
use Rattle.fsm_laws.proofs.Numbers.{lt_or_ge, same_digits, same_number}

digit_small : (b : Bit) → digit_of b ≤ 1
digit_small S1 = omega arith
digit_small b = omega arith

past_end : (bits : List Bit) (k : ℕ) → length bits ≤ k → digit_at bits k ≡ 0
past_end [] k le = refl
past_end (b ∷ bits) zero le = absurd (omega (arith, le))
past_end (b ∷ bits) (suc k) le = past_end bits k (omega (arith, le))

-- bits of other digits at a place stand for other numbers
pub numbers_differ : (as' bs : List Bit) (k : ℕ) → (digit_at as' k ≡ digit_at bs k → ⊥) → false ≡ (number_of as' == number_of bs)
numbers_differ as' bs k h = sym (ne_eqb (number_of as') (number_of bs) (λ e. h (same_digits as' bs e k)))

-- bits of the same digits stand for one number
pub numbers_same : (as' bs : List Bit) (n : ℕ) → length as' ≤ n → length bs ≤ n → ((k : ℕ) → k < n → digit_at as' k ≡ digit_at bs k) → true ≡ (number_of as' == number_of bs)
numbers_same as' bs n la lb h = sym (eq-eqb (number_of as') (number_of bs) (same_number as' bs all))
  where
    all : (k : ℕ) → digit_at as' k ≡ digit_at bs k
    all k = ⊎_elim (λ lt. h k lt) (λ ge. past_end as' k (omega (arith, la, ge)) ∙ sym (past_end bs k (omega (arith, lb, ge)))) (lt_or_ge k n)

-- a state of another number goes
pub bit_later : (states : List (List Bit)) (code : List SigBit) (at n : ℕ) (s : List Bit) (b : SigBit) → at < length states → at < length code → s ≡ get_or states at s → b ≡ get_or code at b
    → state_bit (drop at states) (drop at code) n ≡ cond (number_of s == n) (Some b) (state_bit (drop (at + 1) states) (drop (at + 1) code) n)
bit_later states code at n s b ls lc es eb =
    let one : at + 1 ≡ suc at = omega arith in
    (λ i. state_bit (drop-cons states at s ls i) (drop-cons code at b lc i) n)
    ∙ (λ i. cond (number_of (sym es i) == n) (Some (sym eb i)) (state_bit (drop (sym one i) states) (drop (sym one i) code) n))

get_self : {A : Type 0} (xs : List A) (k : ℕ) (d : A) → get_or xs k d ≡ get_or xs k (get_or xs k d)
get_self [] k d = refl
get_self (x ∷ xs) zero d = refl
get_self (x ∷ xs) (suc k) d = get_self xs k d

-- a state of another number goes, whatever its bit
pub bit_other : (states : List (List Bit)) (code : List SigBit) (at n : ℕ) (s : List Bit) → at < length states → at < length code → s ≡ get_or states at s → (number_of s == n) ≡ false
    → state_bit (drop (at + 1) states) (drop (at + 1) code) n ≡ state_bit (drop at states) (drop at code) n
bit_other states code at n s ls lc es other =
    let b = get_or code at (Fixed S0) in
    sym (bit_later states code at n s b ls lc es (get_self code at (Fixed S0)) ∙ ap (λ t. cond t (Some b) (state_bit (drop (at + 1) states) (drop (at + 1) code) n)) other)

-- past the end of either there is none
pub bit_end : (states : List (List Bit)) (code : List SigBit) (at n : ℕ) → min (length states) (length code) ≤ at → state_bit (drop at states) (drop at code) n ≡ None
bit_end states code at n le = by states code at le
  where
    by : (ss : List (List Bit)) (bs : List SigBit) (k : ℕ) → min (length ss) (length bs) ≤ k → state_bit (drop k ss) (drop k bs) n ≡ None
    by [] bs k h = ap (λ ss. state_bit ss (drop k bs) n) (drop_none k)
      where
        drop_none : (k : ℕ) → drop {A = List Bit} k [] ≡ []
        drop_none zero = refl
        drop_none (suc k) = refl
    by (s ∷ ss) [] k h = none (drop k (s ∷ ss)) k
      where
        none : (xs : List (List Bit)) (k : ℕ) → state_bit xs (drop k []) n ≡ None
        none [] k = refl
        none (x ∷ xs) zero = refl
        none (x ∷ xs) (suc k) = refl
    by (s ∷ ss) (b ∷ bs) zero h = absurd (omega (arith, h))
    by (s ∷ ss) (b ∷ bs) (suc k) h = by ss bs k (omega (arith, h))
