-- Words of ports: what is written is read, and what is read is written.
use Rattle.std.proofs.Common.{◌≡◌, ℕ, zero, suc, ◌+◌, ◌≤◌, Bool, true, false, ◌&&◌, ◌||◌, ◌==◌, List, [], ◌∷◌, ◌++◌, length, map, reverse, take, drop, refl, sym, ap, ◌∙◌, arith, sum, flat_map, if◌then◌else◌}
use Rattle.std.proofs.lemmas.Bool.{eqb-true}
use Rattle.std.proofs.lemmas.Bool.Decides.{nat_tests}
use Rattle.std.proofs.lemmas.List.{reverse-append, reverse-reverse, length-map, length-reverse, length-take-le, length-drop, take_at, drop_at, take-append-drop, map-append}
use Rattle.std.proofs.lemmas.List.Sums.{sum_by-cons}
use Rattle.std.specs.List.{list_all}
use Rattle.rtl_bits.specs.declared.bit.Bit.{Bit}
use Rattle.rtl_bits.specs.declared.bit.Bit.TheVariants.{S0, S1, X, Z, M, Dash}
use Rattle.sim_text.specs.Digits.{AreDigits, HasDigit, bit_of, digit_of, is_digit}
use Rattle.sim_text.specs.Lines.{are_port_words, is_port_word, port_words, word_bits, word_of}

pub false_is_not : false ≡ true → ⊥
false_is_not e = grind (arith, nat_tests)

both : (a b : Bool) → (a && b) ≡ true → (a ≡ true) × (b ≡ true)
both true b h = (refl, h)
both false b h = absurd (false_is_not h)

map-reverse : {A B : Type 0} (f : A → B) (xs : List A) → map f (reverse xs) ≡ reverse (map f xs)
map-reverse f [] = refl
map-reverse f (x ∷ xs) =
    ap (map f) (reverse-append (x ∷ []) xs) ∙ map-append f (reverse xs) (x ∷ []) ∙ ap (λ ys. ys ++ f x ∷ []) (map-reverse f xs)
    ∙ sym (reverse-append (f x ∷ []) (map f xs))

-- a bit is that of its digit
digit_bit : (b : Bit) → HasDigit b → bit_of (digit_of b) ≡ b
unfolding bit_of
digit_bit S0 h = refl
digit_bit S1 h = refl
digit_bit X h = refl
digit_bit Z h = refl
digit_bit M h = absurd h
digit_bit Dash h = absurd h

digit_bits : (bits : List Bit) → AreDigits bits → map bit_of (map digit_of bits) ≡ bits
digit_bits [] h = refl
digit_bits (b ∷ bits) h = (λ i. digit_bit b h.0 i ∷ digit_bits bits h.1 i)

-- a digit is that of its bit
bit_digit : (c : ℕ) → is_digit c ≡ true → digit_of (bit_of c) ≡ c
unfolding is_digit bit_of
bit_digit c h = by (c == 48) (c == 49) (c == 120) (c == 122) (eqb-true c 48) (eqb-true c 49) (eqb-true c 120) (eqb-true c 122) h
  where
    by : (a b x z : Bool) → (a ≡ true → c ≡ 48) → (b ≡ true → c ≡ 49) → (x ≡ true → c ≡ 120) → (z ≡ true → c ≡ 122)
        → (a || (b || (x || z))) ≡ true → digit_of (if a then S0 else if b then S1 else if z then Z else X) ≡ c
    by true b x z is0 is1 isx isz h = sym (is0 refl)
    by false true x z is0 is1 isx isz h = sym (is1 refl)
    by false false x true is0 is1 isx isz h = sym (isz refl)
    by false false true false is0 is1 isx isz h = sym (isx refl)
    by false false false false is0 is1 isx isz h = grind (arith, nat_tests)

bit_digits : (word : List ℕ) → list_all is_digit word ≡ true → map digit_of (map bit_of word) ≡ word
bit_digits [] h = refl
bit_digits (c ∷ word) h =
    let parts = both (is_digit c) (list_all is_digit word) h in
    (λ i. bit_digit c parts.0 i ∷ bit_digits word parts.1 i)

-- a word is read as its bits, and bits are written as their word
word_bits-word_of : (bits : List Bit) → AreDigits bits → word_bits (word_of bits) ≡ bits
word_bits-word_of bits h =
    ap (λ w. map bit_of (reverse w)) (map-reverse digit_of bits) ∙ ap (map bit_of) (reverse-reverse (map digit_of bits)) ∙ digit_bits bits h

word_of-word_bits : (word : List ℕ) → list_all is_digit word ≡ true → word_of (word_bits word) ≡ word
word_of-word_bits word h =
    ap (λ w. map digit_of (reverse w)) (map-reverse bit_of word) ∙ ap (map digit_of) (reverse-reverse (map bit_of word)) ∙ bit_digits word h

AreDigits-take : (n : ℕ) (bits : List Bit) → AreDigits bits → AreDigits (take n bits)
AreDigits-take zero bits h = tt
AreDigits-take (suc n) [] h = tt
AreDigits-take (suc n) (b ∷ bits) h = (h.0, AreDigits-take n bits h.1)

AreDigits-drop : (n : ℕ) (bits : List Bit) → AreDigits bits → AreDigits (drop n bits)
AreDigits-drop zero bits h = h
AreDigits-drop (suc n) [] h = tt
AreDigits-drop (suc n) (b ∷ bits) h = AreDigits-drop n bits h.1

word_of-digits : (bits : List Bit) → list_all is_digit (map digit_of bits) ≡ true
unfolding is_digit
word_of-digits [] = refl
word_of-digits (S0 ∷ bits) = word_of-digits bits
word_of-digits (S1 ∷ bits) = word_of-digits bits
word_of-digits (X ∷ bits) = word_of-digits bits
word_of-digits (Z ∷ bits) = word_of-digits bits
word_of-digits (M ∷ bits) = word_of-digits bits
word_of-digits (Dash ∷ bits) = word_of-digits bits

same_number : (n : ℕ) → (n == n) ≡ true
same_number n = grind (arith, nat_tests)

pub length-word_of : (bits : List Bit) → length (word_of bits) ≡ length bits
length-word_of bits = length-map (reverse bits) digit_of ∙ length-reverse bits

length-word_bits : (word : List ℕ) → length (word_bits word) ≡ length word
length-word_bits word = length-map (reverse word) bit_of ∙ length-reverse word

-- a word that is written of so many bits is the word of a port of this width
fits : (bits : List Bit) (width : ℕ) → length bits ≡ width → is_port_word width (word_of bits) ≡ true
fits bits width is =
    let long : (length (word_of bits) == width) ≡ true = ap (λ n. n == width) (length-word_of bits ∙ is) ∙ same_number width in
    rw (long, word_of-digits (reverse bits)) refl

-- the first width of a list is no more than the bits
pub within : (width : ℕ) (widths : List ℕ) (bits : List Bit) → length bits ≡ sum (width ∷ widths) → (width ≤ length bits) × (length (drop width bits) ≡ sum widths)
within width widths bits is =
    let whole : sum (width ∷ widths) ≡ width + sum widths = sum_by-cons (λ x. x) width widths in
    let some : width ≤ length bits = omega (arith, is, whole) in
    (some, omega (arith, is, whole, length-drop width bits))

-- words that are written of bits are those of the ports, and are read as the bits
pub written_fit : (widths : List ℕ) (bits : List Bit) → length bits ≡ sum widths → are_port_words widths (port_words widths bits) ≡ true
written_fit [] bits is = refl
written_fit (width ∷ widths) bits is =
    let parts = within width widths bits is in
    rw (fits (take width bits) width (length-take-le width bits parts.0), written_fit widths (drop width bits) parts.1) refl

pub written_bits : (widths : List ℕ) (bits : List Bit) → length bits ≡ sum widths → AreDigits bits → flat_map word_bits (port_words widths bits) ≡ bits
written_bits [] [] is h = refl
written_bits [] (b ∷ bits) is h = absurd (no_bits is)
  where
    no_bits : suc (length bits) ≡ 0 → ⊥
    no_bits e = omega (arith, e)
written_bits (width ∷ widths) bits is h =
    let parts = within width widths bits is in
    (λ i. word_bits-word_of (take width bits) (AreDigits-take width bits h) i ++ written_bits widths (drop width bits) parts.1 (AreDigits-drop width bits h) i)
    ∙ take-append-drop width bits

-- words of ports are those that are written of their bits
pub read_words : (widths : List ℕ) (words : List (List ℕ)) → are_port_words widths words ≡ true → port_words widths (flat_map word_bits words) ≡ words
read_words [] [] h = refl
read_words [] (word ∷ words) h = absurd (false_is_not h)
read_words (width ∷ widths) [] h = absurd (false_is_not h)
read_words (width ∷ widths) (word ∷ words) h =
    let here = both (is_port_word width word) (are_port_words widths words) h in
    let parts = both (length word == width) (list_all is_digit word) here.0 in
    let long : length (word_bits word) ≡ width = length-word_bits word ∙ eqb-true (length word) width parts.0 in
    let bits = flat_map word_bits words in
    (λ i. word_of (take_at (word_bits word) bits width long i) ∷ port_words widths (drop_at (word_bits word) bits width long i))
    ∙ (λ i. word_of-word_bits word parts.1 i ∷ read_words widths words here.1 i)
