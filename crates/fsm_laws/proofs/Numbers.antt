-- Numbers by their digits.
use Rattle.std.proofs.Common.{◌≡◌, ◌<◌, ◌≤◌, ℕ, zero, suc, List, [], ◌∷◌, length, ◌⊎◌, inl, inr, refl, arith}
use Rattle.std.specs.Prelude.{slice_index_or}
use Rattle.rtl_bits.specs.Knowledge.{AreKnown, IsKnown}
use Rattle.rtl_bits.specs.Numbers.{digit_of, number_of}
use Rattle.rtl_bits.specs.declared.bit.Bit.{Bit}
use Rattle.rtl_bits.specs.declared.bit.Bit.TheVariants.{S0, S1}

digit_small : (b : Bit) → digit_of b ≤ 1
digit_small S1 = omega arith
digit_small b = omega arith

pub lt_or_ge : (a b : ℕ) → (a < b) ⊎ (b ≤ a)
lt_or_ge zero zero = inr (omega arith)
lt_or_ge zero (suc b) = inl (omega arith)
lt_or_ge (suc a) zero = inr (omega arith)
lt_or_ge (suc a) (suc b) = by (lt_or_ge a b)
  where
    by : (a < b) ⊎ (b ≤ a) → (suc a < suc b) ⊎ (suc b ≤ suc a)
    by (inl h) = inl (omega (arith, h))
    by (inr h) = inr (omega (arith, h))

-- the digit at a place, past the end 0
abbrev pub digit : List Bit → ℕ → ℕ
digit bits k = digit_of (slice_index_or bits k S0)

-- bits of the same digits stand for one number
pub same_number : (as' bs : List Bit) → ((k : ℕ) → digit as' k ≡ digit bs k) → number_of as' ≡ number_of bs
same_number [] [] h = refl
same_number [] (b ∷ bs) h =
    let here : 0 ≡ digit_of b = h 0 in
    let later : 0 ≡ number_of bs = same_number [] bs (λ k. h (suc k)) in
    omega (arith, here, later)
same_number (a ∷ as') [] h =
    let here : digit_of a ≡ 0 = h 0 in
    let later : number_of as' ≡ 0 = same_number as' [] (λ k. h (suc k)) in
    omega (arith, here, later)
same_number (a ∷ as') (b ∷ bs) h =
    let here : digit_of a ≡ digit_of b = h 0 in
    let later : number_of as' ≡ number_of bs = same_number as' bs (λ k. h (suc k)) in
    omega (arith, here, later)

-- and bits of one number have the same digits
pub same_digits : (as' bs : List Bit) → number_of as' ≡ number_of bs → (k : ℕ) → digit as' k ≡ digit bs k
same_digits [] [] e k = refl
same_digits [] (b ∷ bs) e zero = omega (arith, e, digit_small b)
same_digits [] (b ∷ bs) e (suc k) = let later : 0 ≡ number_of bs = omega (arith, e, digit_small b) in same_digits [] bs later k
same_digits (a ∷ as') [] e zero = omega (arith, e, digit_small a)
same_digits (a ∷ as') [] e (suc k) = let later : number_of as' ≡ 0 = omega (arith, e, digit_small a) in same_digits as' [] later k
same_digits (a ∷ as') (b ∷ bs) e zero = omega (arith, e, digit_small a, digit_small b)
same_digits (a ∷ as') (b ∷ bs) e (suc k) =
    let later : number_of as' ≡ number_of bs = omega (arith, e, digit_small a, digit_small b) in
    same_digits as' bs later k

-- known bits of one digit are one
pub known_same : (a b : Bit) → IsKnown a → IsKnown b → digit_of a ≡ digit_of b → a ≡ b
known_same S0 S0 h k e = refl
known_same S1 S1 h k e = refl
known_same S0 S1 h k e = absurd (omega (arith, e))
known_same S1 S0 h k e = absurd (omega (arith, e))
known_same S0 b h k e = absurd k
known_same S1 b h k e = absurd k
known_same a b h k e = absurd h

-- past the end there is the default
pub past_end : {A : Type 0} (xs : List A) (k : ℕ) (d : A) → length xs ≤ k → slice_index_or xs k d ≡ d
past_end [] k d le = refl
past_end (x ∷ xs) zero d le = absurd (omega (arith, le))
past_end (x ∷ xs) (suc k) d le = past_end xs k d (omega (arith, le))

-- inside any default will do
pub inside_any : {A : Type 0} (xs : List A) (k : ℕ) (d e : A) → k < length xs → slice_index_or xs k d ≡ slice_index_or xs k e
inside_any [] k d e lt = absurd (omega (arith, lt))
inside_any (x ∷ xs) zero d e lt = refl
inside_any (x ∷ xs) (suc k) d e lt = inside_any xs k d e (omega (arith, lt))

pub known_inside : (bits : List Bit) (k : ℕ) (d : Bit) → AreKnown bits → k < length bits → IsKnown (slice_index_or bits k d)
known_inside [] k d h lt = absurd (omega (arith, lt))
known_inside (b ∷ bits) zero d h lt = h.0
known_inside (b ∷ bits) (suc k) d h lt = known_inside bits k d h.1 (omega (arith, lt))

-- known bits, past the end 0, are known everywhere
pub known_filled : (bits : List Bit) (k : ℕ) → AreKnown bits → IsKnown (slice_index_or bits k S0)
known_filled [] k h = tt
known_filled (b ∷ bits) zero h = h.0
known_filled (b ∷ bits) (suc k) h = known_filled bits k h.1
