-- Bytes that are no mark.
use Rattle.std.proofs.Common.{◌≡◌, ℕ, suc, ◌+◌, ◌/◌, ◌%◌, ◌<◌, ◌^◌, List, [], ◌∷◌, ◌++◌, length, map, reverse, Bool, true, false, refl, arith}
use Rattle.std.specs.Prelude.{◌==◌, ◌&&◌, nat_lt, nat_le, ℤ, pos, negsuc, if◌then◌else◌}
use Rattle.std.specs.List.{All, list_all, flat_map}
use Rattle.std.specs.Fmt.{decimal, signed_decimal}
use Rattle.std.proofs.lemmas.Bool.{and_parts, ltb-true}
use Rattle.std.proofs.lemmas.Bool.Decides.{nat_tests}
use Rattle.std.proofs.lemmas.List.Elements.{All-nil, All-cons, All-append}
use Rattle.rtl_bits.specs.declared.bit.Bit.{Bit}
use Rattle.rtl_bits.specs.declared.bit.Bit.TheVariants.{S0, S1, X, Z, M, Dash}
use Rattle.rtl_lex.specs.Bytes.{is_digit, is_sigil, is_name}
use Rattle.rtl_ir.specs.declared.value.Value.{Value}
use Rattle.rtl_ir.specs.declared.value.Value.TheVariants as values
use Rattle.rtl_write.specs.Constant.{bit_letter, letters_of, sign_mark, bits_text, escaped, string_text, value_text}
use Rattle.rtl_write.specs.Constant as constants
use Rattle.rtl_readable.specs.Readable.{IsName, IsInteger, IsConstant}
use Rattle.rtl_write.proofs.Integers.{decimal_digits}

-- no byte of these is the mark
abbrev pub Lacks : ℕ → List ℕ → Type 0
Lacks mark bytes = All (λ b. (b == mark) ≡ false) bytes

-- what each byte of a test is not, no byte of them is
pub lacks_by : (p : ℕ → Bool) (mark : ℕ) → ((b : ℕ) → p b ≡ true → (b == mark) ≡ false) → (bytes : List ℕ) → list_all p bytes ≡ true → Lacks mark bytes
lacks_by p mark each [] all = All-nil (λ b. (b == mark) ≡ false)
lacks_by p mark each (b ∷ bs) all =
    let parts = and_parts (p b) (list_all p bs) all in
    All-cons (λ b. (b == mark) ≡ false) b bs (each b parts.0) (lacks_by p mark each bs parts.1)

-- LF and blank
abbrev pub Separates : ℕ → Type 0
Separates mark = (mark < 33)

digit_no : (mark : ℕ) → Separates mark → (b : ℕ) → is_digit b ≡ true → (b == mark) ≡ false
digit_no mark lt b e = grind (arith, nat_tests)

name_no : (mark : ℕ) → Separates mark → (b : ℕ) → is_name b ≡ true → (b == mark) ≡ false
name_no mark lt b e = grind (arith, nat_tests)

sigil_no : (mark : ℕ) → Separates mark → (b : ℕ) → is_sigil b ≡ true → (b == mark) ≡ false
sigil_no mark lt b e = grind (arith, nat_tests)

minus_no : (mark : ℕ) → Separates mark → (45 == mark) ≡ false
minus_no mark lt = grind (arith, nat_tests)

pub number_lacks : (mark n : ℕ) → Separates mark → n < 2 ^ 64 → Lacks mark (decimal n)
number_lacks mark n lt small = lacks_by is_digit mark (digit_no mark lt) (decimal n) (decimal_digits n small).digits

small_of : (n : ℕ) → nat_lt n (2 ^ 31) ≡ true → n < 2 ^ 64
small_of n e =
    let lt = ltb-true n (2 ^ 31) e in
    omega arith

pub integer_lacks : (mark : ℕ) (z : ℤ) → Separates mark → IsInteger z → Lacks mark (signed_decimal z)
integer_lacks mark (pos n) lt is = number_lacks mark n lt (small_of n is)
integer_lacks mark (negsuc n) lt is =
    let small = ltb-true n (2 ^ 31) is in
    All-cons (λ b. (b == mark) ≡ false) 45 (decimal (suc n)) (minus_no mark lt) (number_lacks mark (suc n) lt (omega arith))

pub name_lacks : (mark : ℕ) (text : List ℕ) → Separates mark → IsName text → Lacks mark text
name_lacks mark [] lt is = absurd cc
name_lacks mark (b ∷ bs) lt is =
    let one = and_parts (is_sigil b) (nat_lt 0 (length bs) && list_all is_name bs) is in
    let two = and_parts (nat_lt 0 (length bs)) (list_all is_name bs) one.1 in
    All-cons (λ b. (b == mark) ≡ false) b bs (sigil_no mark lt b one.0) (lacks_by is_name mark (name_no mark lt) bs two.1)

-- ---- constants have no LF

abbrev pub NoLine : List ℕ → Type 0
NoLine bytes = Lacks 10 bytes

pub lacks_both : (xs ys : List ℕ) → NoLine xs → NoLine ys → NoLine (xs ++ ys)
lacks_both xs ys f g = All-append (λ b. (b == 10) ≡ false) xs ys f g

pub lacks_first : (b : ℕ) (bs : List ℕ) → (b == 10) ≡ false → NoLine bs → NoLine (b ∷ bs)
lacks_first b bs e f = All-cons (λ b. (b == 10) ≡ false) b bs e f

pub lacks_none : NoLine []
lacks_none = All-nil (λ b. (b == 10) ≡ false)

letter_no : (bit : Bit) → (bit_letter bit == 10) ≡ false
letter_no S0 = refl
letter_no S1 = refl
letter_no X = refl
letter_no Z = refl
letter_no M = refl
letter_no Dash = refl

letters_lack : (bits : List Bit) → NoLine (map bit_letter bits)
letters_lack [] = lacks_none
letters_lack (bit ∷ bits) = lacks_first (bit_letter bit) (map bit_letter bits) (letter_no bit) (letters_lack bits)

sign_lacks : (signed : Bool) → NoLine (sign_mark signed)
sign_lacks true = lacks_first 115 [] refl lacks_none
sign_lacks false = lacks_none

plain_no : (c : ℕ) → (nat_le 32 c && nat_le c 126) ≡ true → (c == 10) ≡ false
plain_no c e = grind (arith, nat_tests)

above_no : (k : ℕ) → (48 + k == 10) ≡ false
above_no k = grind (arith, nat_tests)

octal_lacks : (c : ℕ) → NoLine (constants.octal c)
octal_lacks c =
    let third : NoLine ((48 + c % 8) ∷ []) = lacks_first (48 + c % 8) [] (above_no (c % 8)) lacks_none in
    let second : NoLine ((48 + c / 8 % 8) ∷ (48 + c % 8) ∷ []) = lacks_first (48 + c / 8 % 8) ((48 + c % 8) ∷ []) (above_no (c / 8 % 8)) third in
    lacks_first 92 ((48 + c / 64) ∷ (48 + c / 8 % 8) ∷ (48 + c % 8) ∷ []) refl (lacks_first (48 + c / 64) ((48 + c / 8 % 8) ∷ (48 + c % 8) ∷ []) (above_no (c / 64)) second)

two_lack : (a b : ℕ) → (a == 10) ≡ false → (b == 10) ≡ false → NoLine (a ∷ b ∷ [])
two_lack a b e f = lacks_first a (b ∷ []) e (lacks_first b [] f lacks_none)

escaped_by_lacks : (quote slash line tab plain : Bool) (c : ℕ) → (nat_le 32 c && nat_le c 126) ≡ plain
    → NoLine (if quote then 92 ∷ 34 ∷ [] else if slash then 92 ∷ 92 ∷ [] else if line then 92 ∷ 110 ∷ [] else if tab then 92 ∷ 116 ∷ [] else if plain then c ∷ [] else constants.octal c)
escaped_by_lacks true slash line tab plain c e = two_lack 92 34 refl refl
escaped_by_lacks false true line tab plain c e = two_lack 92 92 refl refl
escaped_by_lacks false false true tab plain c e = two_lack 92 110 refl refl
escaped_by_lacks false false false true plain c e = two_lack 92 116 refl refl
escaped_by_lacks false false false false true c e = lacks_first c [] (plain_no c e) lacks_none
escaped_by_lacks false false false false false c e = octal_lacks c

chars_lack : (chars : List ℕ) → NoLine (flat_map escaped chars)
chars_lack [] = lacks_none
chars_lack (c ∷ cs) = lacks_both (escaped c) (flat_map escaped cs) (escaped_by_lacks (c == 34) (c == 92) (c == 10) (c == 9) (nat_le 32 c && nat_le c 126) c refl) (chars_lack cs)

-- a constant stands on one line
pub constant_lacks : (v : Value) → IsConstant v → Lacks 10 (value_text v)
unfolding value_text bits_text string_text
constant_lacks (values.Bits bits signed) is =
    lacks_both (decimal (length bits) ++ 39 ∷ sign_mark signed) (letters_of bits)
    (lacks_both (decimal (length bits)) (39 ∷ sign_mark signed) (number_lacks 10 (length bits) (omega arith) (omega arith)) (lacks_first 39 (sign_mark signed) refl (sign_lacks signed)))
    (letters_lack (reverse bits))
constant_lacks (values.Int z) is = integer_lacks 10 z (omega arith) is
constant_lacks (values.Chars chars) is = lacks_both (34 ∷ flat_map escaped chars) (34 ∷ []) (lacks_first 34 (flat_map escaped chars) refl (chars_lack chars)) (lacks_first 34 [] refl lacks_none)
