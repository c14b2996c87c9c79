-- Words in the order of their numbers: the last carry of a difference, and integers by their ranks.
use Rattle.std.proofs.Common.{◌≡◌, ◌≤◌, ◌<◌, ℕ, zero, suc, ◌+◌, ◌*◌, ◌^◌, Bool, true, false, List, [], ◌∷◌, length, refl, sym, ◌∙◌, ap, subst, arith, ℤ, pos, negsuc, ◌+ℤ◌}
use Rattle.std.specs.Prelude.{int_lt, nat_lt, slice_index_or}
use Rattle.std.proofs.lemmas.Bool.Decides.{nat_tests}
use Rattle.std.proofs.lemmas.Int.{ints}
use Rattle.cell_word.specs.Integers.{integer_in}
use Rattle.cell_word.specs.Words.{extended_at}
use Rattle.rtl_bits.proofs.NumberLemmas.{number_of_small}
use Rattle.rtl_bits.specs.Knowledge.{AreKnown, IsKnown}
use Rattle.rtl_bits.specs.Numbers.{digit_of, number_of, top_of}
use Rattle.rtl_bits.specs.Tables.{not_of}
use Rattle.rtl_bits.specs.declared.bit.Bit.{Bit}
use Rattle.rtl_bits.specs.declared.bit.Bit.TheVariants.{S0, S1, X, Z, M, Dash}
use Rattle.gate_nets.proofs.Adding.{inverse_digit, inverse_known, inverse_number, low-length, low_of, sums}
use Rattle.gate_nets.proofs.Nets.{carry_at, sum_bit}
use Rattle.gate_nets.proofs.Extended.{doubled, exact_number, last_bit}
use Rattle.gate_nets.proofs.Residues.{going_integer}
use Rattle.map_add.proofs.Nets.{flipped, less_bit, ranked}

-- the bit of a truth value
abbrev pub bit_of : Bool → Bit
bit_of true = S1
bit_of false = S0

-- the last carry of a difference tells the greater number
carry_tells : (p x y i r : ℕ) (c : Bit) → IsKnown c → r < p → i + y + 1 ≡ p → r + p * digit_of c ≡ x + i + 1 → x < p → not_of c ≡ bit_of (nat_lt x y)
carry_tells p x y i r S0 k h e f s = let t : nat_lt x y ≡ true = grind (arith, nat_tests) in ap bit_of (sym t)
carry_tells p x y i r S1 k h e f s = let t : nat_lt x y ≡ false = grind (arith, nat_tests) in ap bit_of (sym t)
carry_tells p x y i r X k h e f s = absurd k
carry_tells p x y i r Z k h e f s = absurd k
carry_tells p x y i r M k h e f s = absurd k
carry_tells p x y i r Dash k h e f s = absurd k

pub less_number : (n : ℕ) (u v : ℕ → Bit) → AreKnown (low_of u n) → AreKnown (low_of v n)
    → not_of (carry_at u (λ i. not_of (v i)) S1 n) ≡ bit_of (nat_lt (number_of (low_of u n)) (number_of (low_of v n)))
less_number n u v j k =
    let h = sums n u (λ i. not_of (v i)) S1 j (inverse_known n v k) tt in
    let bits : List Bit = low_of (λ at. sum_bit (u at) (not_of (v at)) (carry_at u (λ i. not_of (v i)) S1 at)) n in
    let fits : number_of bits < 2 ^ n = subst (λ z. number_of bits < 2 ^ z) (low-length (λ at. sum_bit (u at) (not_of (v at)) (carry_at u (λ i. not_of (v i)) S1 at)) n) (number_of_small bits) in
    let small : number_of (low_of u n) < 2 ^ n = subst (λ z. number_of (low_of u n) < 2 ^ z) (low-length u n) (number_of_small (low_of u n)) in
    carry_tells (2 ^ n) (number_of (low_of u n)) (number_of (low_of v n)) (number_of (low_of (λ i. not_of (v i)) n)) (number_of bits) (carry_at u (λ i. not_of (v i)) S1 n) h.carry fits (inverse_number n v k) h.adds small

-- the number of a word with its top bit inverted
flipped_number : (n : ℕ) (u : ℕ → Bit) → AreKnown (low_of u (suc n)) → number_of (low_of (flipped (suc n) u) (suc n)) + digit_of (u n) * 2 ^ suc n ≡ number_of (low_of u (suc n)) + 2 ^ n
flipped_number zero u k = omega (arith, inverse_digit (u 0) k.0)
flipped_number (suc n) u k =
    let e : 2 ^ suc (suc n) ≡ 2 * 2 ^ suc n = omega arith in
    let f : 2 ^ suc n ≡ 2 * 2 ^ n = omega arith in
    omega (arith, flipped_number n (λ i. u (suc i)) k.1, doubled (digit_of (u (suc n))) (2 ^ suc n) (2 ^ suc (suc n)) e, f)

flipped_known : (n : ℕ) (u : ℕ → Bit) → AreKnown (low_of u n) → AreKnown (low_of (flipped n u) n)
flipped_known zero u k = tt
flipped_known (suc zero) u k = (inverse_known 1 u k)
flipped_known (suc (suc n)) u k = (k.0, flipped_known (suc n) (λ i. u (suc i)) k.1)

-- how far ranks lie above integers: half of the numbers of a width where they are signed
abbrev pub offset_of : Bool → ℕ → ℕ
offset_of true zero = 0
offset_of true (suc n) = 2 ^ n
offset_of false n = 0

-- the rank of an operand at a width that it fits
pub rank_number : (signed : Bool) (n : ℕ) (bits : List Bit) → length bits ≤ n → AreKnown (low_of (extended_at signed bits) n)
    → pos (number_of (low_of (ranked signed n (extended_at signed bits)) n)) ≡ integer_in signed bits +ℤ pos (offset_of signed n)
rank_number false n bits h k = omega (arith, ints, exact_number n S0 bits h, going_integer false bits)
rank_number true zero [] h k = refl
rank_number true zero (b ∷ bits) h k = absurd (omega arith)
rank_number true (suc n) bits h k =
    let d : Bit = top_of bits in
    let last : digit_of (slice_index_or bits n d) ≡ digit_of d = ap digit_of (last_bit bits n h) in
    let flip : number_of (low_of (flipped (suc n) (extended_at true bits)) (suc n)) + digit_of d * 2 ^ suc n ≡ number_of (low_of (extended_at true bits) (suc n)) + 2 ^ n =
    subst (λ z. number_of (low_of (flipped (suc n) (extended_at true bits)) (suc n)) + z * 2 ^ suc n ≡ number_of (low_of (extended_at true bits) (suc n)) + 2 ^ n) last (flipped_number n (extended_at true bits) k) in
    omega (arith, ints, flip, exact_number (suc n) d bits h, going_integer true bits)

ranked_known : (signed : Bool) (n : ℕ) (u : ℕ → Bit) → AreKnown (low_of u n) → AreKnown (low_of (ranked signed n u) n)
ranked_known true n u k = flipped_known n u k
ranked_known false n u k = k

-- integers stand in the order of their ranks
int_rank : (x y : ℤ) (p q h : ℕ) → pos p ≡ x +ℤ pos h → pos q ≡ y +ℤ pos h → nat_lt p q ≡ int_lt x y
int_rank (pos a) (pos b) p q h d e =
    let i : p ≡ a + h = omega (arith, ints, d) in
    let j : q ≡ b + h = omega (arith, ints, e) in
    grind (arith, nat_tests)
int_rank (pos a) (negsuc b) p q h d e =
    let i : p ≡ a + h = omega (arith, ints, d) in
    let j : q + b + 1 ≡ h = omega (arith, ints, e) in
    grind (arith, nat_tests)
int_rank (negsuc a) (pos b) p q h d e =
    let i : p + a + 1 ≡ h = omega (arith, ints, d) in
    let j : q ≡ b + h = omega (arith, ints, e) in
    grind (arith, nat_tests)
int_rank (negsuc a) (negsuc b) p q h d e =
    let i : p + a + 1 ≡ h = omega (arith, ints, d) in
    let j : q + b + 1 ≡ h = omega (arith, ints, e) in
    grind (arith, nat_tests)

-- the bit of two known operands at a width that both fit
pub less_integer : (signed : Bool) (n : ℕ) (a b : List Bit) → length a ≤ n → length b ≤ n → AreKnown (low_of (extended_at signed a) n) → AreKnown (low_of (extended_at signed b) n)
    → less_bit signed n (extended_at signed a) (extended_at signed b) ≡ bit_of (int_lt (integer_in signed a) (integer_in signed b))
less_integer signed n a b d e j k =
    let u : ℕ → Bit = ranked signed n (extended_at signed a) in
    let v : ℕ → Bit = ranked signed n (extended_at signed b) in
    less_number n u v (ranked_known signed n (extended_at signed a) j) (ranked_known signed n (extended_at signed b) k)
    ∙ ap bit_of (int_rank (integer_in signed a) (integer_in signed b) (number_of (low_of u n)) (number_of (low_of v n)) (offset_of signed n) (rank_number signed n a d j) (rank_number signed n b e k))
