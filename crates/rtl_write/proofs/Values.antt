-- Values as they are printed.
use Rattle.std.proofs.Common.{◌≡◌, ℕ, ◌+◌, ◌<◌, ◌^◌, List, [], ◌∷◌, ◌++◌, length, take, drop, append_assoc, append-nil, map, reverse, Option, Some, Bool, true, false, refl, sym, ap, subst, ◌∙◌, arith}
use Rattle.std.specs.Prelude.{◌==◌, ◌||◌, if◌then◌else◌, replicate, slice_index}
use Rattle.std.specs.List.{prefix_len, list_all}
use Rattle.std.specs.Fmt.{decimal}
use Rattle.std.proofs.lemmas.Bool.{and_from}
use Rattle.std.proofs.lemmas.Bool.Decides.{nat_tests}
use Rattle.std.proofs.lemmas.List.{take_at, drop_at, length-map, length-reverse, length-append, map-append, reverse-reverse, reverse-append}
use Rattle.rtl_bits.specs.declared.bit.Bit.{Bit}
use Rattle.rtl_bits.specs.declared.bit.Bit.TheVariants.{S0, S1, X, Z, M, Dash}
use Rattle.rtl_lex.specs.declared.token.TokenKind.{TokenKind}
use Rattle.rtl_lex.specs.declared.token.TokenKind.TheVariants.{Int, Value}
use Rattle.rtl_lex.specs.Bytes.{is_digit, is_bit}
use Rattle.rtl_lex.specs.Numbers as numbers
use Rattle.rtl_lex.specs.Tokens.{front, number_front, tail_len}
use Rattle.rtl_lex.specs.Values.{width_of, tail_of, sign_len, is_signed, written_of, bit_of, fill_of, fitted, bits_of}
use Rattle.rtl_write.specs.Constant.{bit_letter, letters_of, sign_mark, bits_text}
use Rattle.rtl_write.proofs.Printed.{IsToken}
use Rattle.rtl_write.proofs.Forms.{run_is}
use Rattle.rtl_write.proofs.Integers.{AreDigits, decimal_digits, digits_front, digits_starts, at_seam}

-- ---- letters of bits

letter_back : (bit : Bit) → bit_of (bit_letter bit) ≡ bit
letter_back S0 = refl
letter_back S1 = refl
letter_back X = refl
letter_back Z = refl
letter_back M = refl
letter_back Dash = refl

letter_is : (bit : Bit) → is_bit (bit_letter bit) ≡ true
letter_is S0 = refl
letter_is S1 = refl
letter_is X = refl
letter_is Z = refl
letter_is M = refl
letter_is Dash = refl

no_sign : (bit : Bit) → (bit_letter bit == 115) ≡ false
no_sign S0 = refl
no_sign S1 = refl
no_sign X = refl
no_sign Z = refl
no_sign M = refl
no_sign Dash = refl

letters_are : (bits : List Bit) → list_all is_bit (map bit_letter bits) ≡ true
letters_are [] = refl
letters_are (bit ∷ bits) = and_from (is_bit (bit_letter bit)) (list_all is_bit (map bit_letter bits)) (letter_is bit) (letters_are bits)

letters_back : (bits : List Bit) → map bit_of (map bit_letter bits) ≡ bits
letters_back [] = refl
letters_back (bit ∷ bits) = ap (λ (b : Bit). b ∷ map bit_of (map bit_letter bits)) (letter_back bit) ∙ ap (λ (l : List Bit). bit ∷ l) (letters_back bits)

reverse_first : (x : ℕ) (xs : List ℕ) → reverse (x ∷ xs) ≡ reverse xs ++ x ∷ []
reverse_first x xs = reverse-append (x ∷ []) xs

-- the letters from below, as bits
turned_letters : (bits : List Bit) → map bit_of (reverse (map bit_letter bits)) ≡ reverse bits
turned_letters [] = refl
turned_letters (bit ∷ bits) =
    ap (map bit_of) (reverse_first (bit_letter bit) (map bit_letter bits))
    ∙ map-append bit_of (reverse (map bit_letter bits)) (bit_letter bit ∷ [])
    ∙ ap (λ (l : List Bit). l ++ bit_of (bit_letter bit) ∷ []) (turned_letters bits)
    ∙ ap (λ (b : Bit). reverse bits ++ b ∷ []) (letter_back bit)
    ∙ sym (reverse-append (bit ∷ []) bits)

-- so many letters as there are bits write them
letters_fit : (bits : List Bit) → fitted (length bits) (letters_of bits) ≡ bits
letters_fit bits =
    let all : map bit_of (reverse (letters_of bits)) ≡ bits = turned_letters (reverse bits) ∙ reverse-reverse bits in
    ap (λ (l : List Bit). take (length bits) (l ++ replicate (length bits) (fill_of (letters_of bits)))) all ∙ take_at bits (replicate (length bits) (fill_of (letters_of bits))) (length bits) refl

letters_len : (bits : List Bit) → length (letters_of bits) ≡ length bits
letters_len bits = length-map (reverse bits) bit_letter ∙ length-reverse bits

-- ---- the tail behind the apostrophe

-- the first byte behind the mark of a sign is no `s`
no_mark : (letters : List Bit) (rest : List ℕ) → (slice_index rest 0 == 115) ≡ false → sign_len (map bit_letter letters ++ rest) ≡ 0
no_mark [] rest e = ap (λ (b : Bool). if b then 1 else 0) e
no_mark (bit ∷ bits) rest e = ap (λ (b : Bool). if b then 1 else 0) (no_sign bit)

sign_of : Bool → ℕ
sign_of true = 1
sign_of false = 0

mark_len : (signed : Bool) (bits : List Bit) (rest : List ℕ) → (slice_index rest 0 == 115) ≡ false → sign_len (sign_mark signed ++ letters_of bits ++ rest) ≡ length (sign_mark signed)
mark_len true bits rest e = refl
mark_len false bits rest e = no_mark (reverse bits) rest e

abbrev tail_text : List Bit → Bool → List ℕ
tail_text bits signed = sign_mark signed ++ letters_of bits

bit_stops : (c : ℕ) → (c == 32 || c == 10) ≡ true → is_bit c ≡ false
bit_stops c e = grind (arith, nat_tests)

no_s : (c : ℕ) → (c == 32 || c == 10) ≡ true → (c == 115) ≡ false
no_s c e = grind (arith, nat_tests)

tail_is : (bits : List Bit) (signed : Bool) (c : ℕ) (rest : List ℕ) → (c == 32 || c == 10) ≡ true → tail_len (tail_text bits signed ++ c ∷ rest) ≡ length (tail_text bits signed)
tail_is bits signed c rest stop =
    let bytes = tail_text bits signed ++ c ∷ rest in
    let sign : sign_len bytes ≡ length (sign_mark signed) = mark_len signed bits (c ∷ rest) (no_s c stop) in
    let behind : drop (length (sign_mark signed)) bytes ≡ letters_of bits ++ c ∷ rest = ap (drop (length (sign_mark signed))) (append_assoc (sign_mark signed) (letters_of bits) (c ∷ rest)) ∙ drop_at (sign_mark signed) (letters_of bits ++ c ∷ rest) (length (sign_mark signed)) refl in
    let run : prefix_len is_bit (letters_of bits ++ c ∷ rest) ≡ length (letters_of bits) = run_is is_bit (letters_of bits) c rest (letters_are (reverse bits)) (bit_stops c stop) in
    ap (λ (n : ℕ). n + prefix_len is_bit (drop n bytes)) sign
    ∙ ap (λ (l : List ℕ). length (sign_mark signed) + prefix_len is_bit l) behind
    ∙ ap (λ (n : ℕ). length (sign_mark signed) + n) run
    ∙ sym (length-append (sign_mark signed) (letters_of bits))

-- ---- the whole value

-- its digits, the apostrophe, and the tail
value_parts : (bits : List Bit) (signed : Bool) → bits_text bits signed ≡ decimal (length bits) ++ 39 ∷ tail_text bits signed
unfolding bits_text
value_parts bits signed = append_assoc (decimal (length bits)) (39 ∷ sign_mark signed) (letters_of bits)

quote_stops : is_digit 39 ≡ false
quote_stops = refl

value_front : (ds tail rest : List ℕ) (c : ℕ) → list_all is_digit ds ≡ true → tail_len (tail ++ c ∷ rest) ≡ length tail → number_front (ds ++ 39 ∷ (tail ++ c ∷ rest)) ≡ (Value, length (ds ++ 39 ∷ tail))
value_front ds tail rest c all len =
    let bytes = ds ++ 39 ∷ (tail ++ c ∷ rest) in
    let count : prefix_len is_digit bytes ≡ length ds = run_is is_digit ds 39 (tail ++ c ∷ rest) all refl in
    let behind : drop (length ds + 1) bytes ≡ tail ++ c ∷ rest = ap (drop (length ds + 1)) (sym (append_assoc ds (39 ∷ []) (tail ++ c ∷ rest))) ∙ drop_at (ds ++ 39 ∷ []) (tail ++ c ∷ rest) (length ds + 1) (length-append ds (39 ∷ [])) in
    let size : length ds + 1 + length tail ≡ length (ds ++ 39 ∷ tail) = omega (arith, length-append ds (39 ∷ tail)) in
    let value : ℕ → TokenKind × ℕ = λ (n : ℕ). (Value, n) in
    let other : ℕ → TokenKind × ℕ = λ (n : ℕ). (Int, n) in
    ap (λ (n : ℕ). if slice_index bytes n == 39 then value (n + 1 + tail_len (drop (n + 1) bytes)) else other n) count
    ∙ ap (λ (x : ℕ). if x == 39 then value (length ds + 1 + tail_len (drop (length ds + 1) bytes)) else other (length ds)) (at_seam ds (tail ++ c ∷ rest) 39)
    ∙ ap (λ (l : List ℕ). value (length ds + 1 + tail_len l)) behind
    ∙ ap (λ (n : ℕ). value (length ds + 1 + n)) len
    ∙ ap value size

abbrev some_found : TokenKind × ℕ → Option (TokenKind × ℕ)
some_found p = Some p

pub value_token : (bits : List Bit) (signed : Bool) → length bits < 2 ^ 31 → IsToken Value (bits_text bits signed)
value_token bits signed lt =
    let ds = decimal (length bits) in
    let tail = tail_text bits signed in
    let are = decimal_digits (length bits) (omega arith) in
    let parts : bits_text bits signed ≡ ds ++ 39 ∷ tail = value_parts bits signed in
    subst (IsToken Value) (sym parts) (record {
      some = omega (arith, length-append ds (39 ∷ tail));
      starts = digits_starts ds (39 ∷ tail) (length bits) are;
      whole = λ c rest stop. ap front (append_assoc ds (39 ∷ tail) (c ∷ rest))
          ∙ digits_front ds (39 ∷ (tail ++ c ∷ rest)) (length bits) are
          ∙ ap some_found (value_front ds tail rest c are.digits (tail_is bits signed c rest stop));
      small = refl;
    })

-- ---- what it stands for

digits_run : (ds tail : List ℕ) → list_all is_digit ds ≡ true → prefix_len is_digit (ds ++ 39 ∷ tail) ≡ length ds
digits_run ds tail all = run_is is_digit ds 39 tail all refl

width_back : (ds tail : List ℕ) (n : ℕ) → AreDigits ds n → width_of (ds ++ 39 ∷ tail) ≡ n
width_back ds tail n are =
    ap (λ (k : ℕ). numbers.decimal (take k (ds ++ 39 ∷ tail))) (digits_run ds tail are.digits) ∙ ap numbers.decimal (take_at ds (39 ∷ tail) (length ds) refl) ∙ are.number

tail_back : (ds tail : List ℕ) → list_all is_digit ds ≡ true → tail_of (ds ++ 39 ∷ tail) ≡ tail
tail_back ds tail all =
    ap (λ (k : ℕ). drop (k + 1) (ds ++ 39 ∷ tail)) (digits_run ds tail all)
    ∙ ap (drop (length ds + 1)) (sym (append_assoc ds (39 ∷ []) tail)) ∙ drop_at (ds ++ 39 ∷ []) tail (length ds + 1) (length-append ds (39 ∷ []))

-- a value as printed gives its width, its bits and its sign again
pub record GivesBack (text : List ℕ) (bits : List Bit) (signed : Bool) : Type 0 where
  pub width_is : width_of text ≡ length bits
  pub bits_are : bits_of text ≡ bits
  pub sign_is : is_signed text ≡ signed

is_mark_len : (signed : Bool) → (length (sign_mark signed) == 1) ≡ signed
is_mark_len true = refl
is_mark_len false = refl

pub value_back : (bits : List Bit) (signed : Bool) → length bits < 2 ^ 31 → GivesBack (bits_text bits signed) bits signed
value_back bits signed lt =
    let ds = decimal (length bits) in
    let tail = tail_text bits signed in
    let are = decimal_digits (length bits) (omega arith) in
    let width : width_of (ds ++ 39 ∷ tail) ≡ length bits = width_back ds tail (length bits) are in
    let tails : tail_of (ds ++ 39 ∷ tail) ≡ tail = tail_back ds tail are.digits in
    let sign : sign_len tail ≡ length (sign_mark signed) = ap sign_len (ap (λ (l : List ℕ). sign_mark signed ++ l) (sym (append-nil (letters_of bits))) ∙ sym (append_assoc (sign_mark signed) (letters_of bits) [])) ∙ mark_len signed bits [] refl in
    let written : written_of (ds ++ 39 ∷ tail) ≡ letters_of bits = ap (λ (l : List ℕ). drop (sign_len l) l) tails ∙ ap (λ (n : ℕ). drop n tail) sign ∙ drop_at (sign_mark signed) (letters_of bits) (length (sign_mark signed)) refl in
    subst (λ (t : List ℕ). GivesBack t bits signed) (sym (value_parts bits signed)) (record {
      width_is = width;
      bits_are = ap (λ (n : ℕ). fitted n (written_of (ds ++ 39 ∷ tail))) width ∙ ap (fitted (length bits)) written ∙ letters_fit bits;
      sign_is = ap (λ (l : List ℕ). sign_len l == 1) tails ∙ ap (λ (n : ℕ). n == 1) sign ∙ is_mark_len signed;
    })
