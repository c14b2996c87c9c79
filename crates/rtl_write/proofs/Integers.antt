-- Integers as they are printed.
use Rattle.std.proofs.Common.{◌≡◌, ℕ, suc, ◌+◌, ◌*◌, ◌-◌, ◌<◌, ◌^◌, List, [], ◌∷◌, ◌++◌, length, drop, append-nil, Option, Some, None, Bool, true, false, refl, sym, ap, subst, ◌∙◌, arith}
use Rattle.std.specs.Prelude.{ℤ, pos, negsuc, neg_ℤ, ◌==◌, ◌||◌, nat_lt, is_none, if◌then◌else◌, slice_index}
use Rattle.std.specs.List.{fold, prefix_len, list_all}
use Rattle.std.specs.Fmt.{decimal, signed_decimal}
use Rattle.std.specs.Str.Parse.{AllDigits}
use Rattle.std.specs.Int.{IsInRange}
use Rattle.std.proofs.lemmas.Bool.{and_from, and_parts}
use Rattle.std.proofs.lemmas.Bool.Decides.{nat_tests}
use Rattle.std.proofs.lemmas.Fmt.{decimal_is_IsNumeral, digits_value-decimal}
use Rattle.std.proofs.lemmas.List.{get_or_at}
use Rattle.std.proofs.lemmas.Str.Parse.{numerals_by_fold, tells_digits, digit_from_value}
use Rattle.rtl_lex.specs.declared.token.TokenKind.TheVariants.{Int, Value}
use Rattle.rtl_lex.specs.declared.token.TokenKind.{TokenKind}
use Rattle.rtl_lex.specs.Bytes.{is_digit}
use Rattle.rtl_lex.specs.Gaps.{in_gap}
use Rattle.rtl_lex.specs.Numbers as numbers
use Rattle.rtl_lex.specs.Tokens.{front, number_front, minus_front, tail_len}
use Rattle.rtl_write.proofs.Printed.{IsToken}
use Rattle.rtl_write.proofs.Forms.{run_is, found, nothing, some_found}

-- ---- digits

digit_is : (c : ℕ) → IsInRange 48 57 c → is_digit c ≡ true
digit_is c r = grind (arith, nat_tests)

all_digits : (ds : List ℕ) → AllDigits 10 ds → list_all is_digit ds ≡ true
all_digits [] all = refl
all_digits (d ∷ ds) all = and_from (is_digit d) (list_all is_digit ds) (digit_is d (digit_from_value d all.0)) (all_digits ds all.1)

-- the digits of a number
pub record AreDigits (ds : List ℕ) (n : ℕ) : Type 0 where
  pub first : ℕ
  pub others : List ℕ
  pub parts : ds ≡ first ∷ others
  pub digits : list_all is_digit ds ≡ true
  pub number : numbers.decimal ds ≡ n

digits_parts : (ds : List ℕ) (n : ℕ) → 0 < length ds → list_all is_digit ds ≡ true → numbers.decimal ds ≡ n → AreDigits ds n
digits_parts [] n lt all is = absurd (omega arith)
digits_parts (d ∷ ds) n lt all is = record { first = d; others = ds; parts = refl; digits = all; number = is }

decimal_back : (n : ℕ) → n < 2 ^ 64 → numbers.decimal (decimal n) ≡ n
decimal_back n lt = digits_value-decimal (numerals_by_fold (AllDigits 10) tells_digits (λ (a : ℕ) (ds : List ℕ). fold (λ k b. k * 10 + (b - 48)) a ds) (record { empty = λ a. refl; more = λ a c cs k. refl })) n lt

pub decimal_digits : (n : ℕ) → n < 2 ^ 64 → AreDigits (decimal n) n
decimal_digits n lt =
    let is = decimal_is_IsNumeral n lt in
    digits_parts (decimal n) n is.0.0 (all_digits (decimal n) is.0.1) (decimal_back n lt)

-- ---- what digits begin

digit_front : (b : ℕ) (bs : List ℕ) → is_digit b ≡ true → front (b ∷ bs) ≡ Some (number_front (b ∷ bs))
digit_front b bs e = grind (arith, nat_tests)

pub digits_front : (ds rest : List ℕ) (n : ℕ) → AreDigits ds n → front (ds ++ rest) ≡ Some (number_front (ds ++ rest))
digits_front ds rest n are =
    let first : is_digit are.first ≡ true = (and_parts (is_digit are.first) (list_all is_digit are.others) (subst (λ (l : List ℕ). list_all is_digit l ≡ true) are.parts are.digits)).0 in
    ap (λ (l : List ℕ). front (l ++ rest)) are.parts ∙ digit_front are.first (are.others ++ rest) first ∙ ap (λ (l : List ℕ). Some (number_front (l ++ rest))) (sym are.parts)

digit_starts : (b : ℕ) → is_digit b ≡ true → in_gap true false b ≡ false
digit_starts b e = grind (arith, nat_tests)

pub digits_starts : (ds rest : List ℕ) (n : ℕ) → AreDigits ds n → in_gap true false (slice_index (ds ++ rest) 0) ≡ false
digits_starts ds rest n are =
    let first : is_digit are.first ≡ true = (and_parts (is_digit are.first) (list_all is_digit are.others) (subst (λ (l : List ℕ). list_all is_digit l ≡ true) are.parts are.digits)).0 in
    ap (λ (l : List ℕ). in_gap true false (slice_index (l ++ rest) 0)) are.parts ∙ digit_starts are.first first

int_stops : (c : ℕ) → (c == 32 || c == 10 || c == 58 || c == 93) ≡ true → is_digit c ≡ false
int_stops c e = grind (arith, nat_tests)

no_quote : (c : ℕ) → (c == 32 || c == 10 || c == 58 || c == 93) ≡ true → (c == 39) ≡ false
no_quote c e = grind (arith, nat_tests)

pub at_seam : (xs rest : List ℕ) (c : ℕ) → slice_index (xs ++ c ∷ rest) (length xs) ≡ c
at_seam xs rest c = get_or_at xs c rest 0 (length xs) refl

-- digits before a byte that ends an integer
int_front : (ds rest : List ℕ) (c : ℕ) → list_all is_digit ds ≡ true → (c == 32 || c == 10 || c == 58 || c == 93) ≡ true → number_front (ds ++ c ∷ rest) ≡ (Int, length ds)
int_front ds rest c all stop =
    let bytes = ds ++ c ∷ rest in
    let count : prefix_len is_digit bytes ≡ length ds = run_is is_digit ds c rest all (int_stops c stop) in
    let value : ℕ → TokenKind × ℕ = λ (n : ℕ). (Value, n + 1 + tail_len (drop (n + 1) bytes)) in
    let int : ℕ → TokenKind × ℕ = λ (n : ℕ). (Int, n) in
    ap (λ (n : ℕ). if slice_index bytes n == 39 then value n else int n) count
    ∙ ap (λ (b : Bool). if b then value (length ds) else int (length ds)) (ap (λ (x : ℕ). x == 39) (at_seam ds rest c) ∙ no_quote c stop)

-- ---- signed numbers

-- digits of a number in range, with or without a minus
in_range_is : (z : ℤ) (o : Option ℤ) → numbers.in_range z ≡ true → (if numbers.in_range z then Some z else o) ≡ Some z
in_range_is z o e = ap (λ (b : Bool). if b then Some z else o) e

minus_is : (n : ℕ) (ds : List ℕ) → numbers.decimal ds ≡ suc n → numbers.integer (45 ∷ ds) ≡ negsuc n
minus_is n ds is = ap (λ (k : ℕ). neg_ℤ (pos k)) is

not_minus : (b : ℕ) → is_digit b ≡ true → (b == 45) ≡ false
not_minus b e = grind (arith, nat_tests)

plus_is : (n : ℕ) (ds : List ℕ) → AreDigits ds n → numbers.integer ds ≡ pos n
plus_is n ds are =
    let first : is_digit are.first ≡ true = (and_parts (is_digit are.first) (list_all is_digit are.others) (subst (λ (l : List ℕ). list_all is_digit l ≡ true) are.parts are.digits)).0 in
    ap numbers.integer are.parts
    ∙ ap (λ (b : Bool). if b then neg_ℤ (pos (numbers.decimal are.others)) else pos (numbers.decimal (are.first ∷ are.others))) (not_minus are.first first)
    ∙ ap (λ (l : List ℕ). pos (numbers.decimal l)) (sym are.parts) ∙ ap pos are.number

small_of : (n : ℕ) → nat_lt n (2 ^ 31) ≡ true → n < 2 ^ 31
small_of n e = grind (arith, nat_tests)

-- a number in range is printed as the text that stands for it
pub integer_back : (z : ℤ) → numbers.in_range z ≡ true → numbers.int_of (signed_decimal z) ≡ Some z
integer_back (pos n) e =
    ap (λ (k : ℤ). if numbers.in_range k then Some k else None) (plus_is n (decimal n) (decimal_digits n (omega (arith, small_of n e)))) ∙ in_range_is (pos n) None e
integer_back (negsuc n) e =
    ap (λ (k : ℤ). if numbers.in_range k then Some k else None) (minus_is n (decimal (suc n)) (decimal_digits (suc n) (omega (arith, small_of n e))).number) ∙ in_range_is (negsuc n) None e

minus_front_is : (ds rest : List ℕ) (c n : ℕ) → AreDigits ds n → (c == 32 || c == 10 || c == 58 || c == 93) ≡ true → minus_front (ds ++ c ∷ rest) ≡ Some (Int, suc (length ds))
minus_front_is ds rest c n are stop =
    let count : prefix_len is_digit (ds ++ c ∷ rest) ≡ length ds = run_is is_digit ds c rest are.digits (int_stops c stop) in
    ap (λ (k : ℕ). if k == 0 then nothing else found Int (k + 1)) count ∙ some_found Int (length ds) (subst (λ (l : List ℕ). 0 < length l) (sym are.parts) (omega arith))

pub digits_some : (ds : List ℕ) (n : ℕ) → AreDigits ds n → 0 < length ds
digits_some ds n are = subst (λ (l : List ℕ). 0 < length l) (sym are.parts) (omega arith)

pub integer_token : (z : ℤ) → numbers.in_range z ≡ true → IsToken Int (signed_decimal z)
integer_token (pos n) e =
    let are = decimal_digits n (omega (arith, small_of n e)) in
    record {
      some = digits_some (decimal n) n are;
      starts = subst (λ (l : List ℕ). in_gap true false (slice_index l 0) ≡ false) (append-nil (decimal n)) (digits_starts (decimal n) [] n are);
      whole = λ c rest stop. digits_front (decimal n) (c ∷ rest) n are ∙ ap (λ (p : TokenKind × ℕ). Some p) (int_front (decimal n) rest c are.digits stop);
      small = ap is_none (integer_back (pos n) e);
    }
integer_token (negsuc n) e =
    let are = decimal_digits (suc n) (omega (arith, small_of n e)) in
    record {
      some = omega arith;
      starts = refl;
      whole = λ c rest stop. minus_front_is (decimal (suc n)) rest c (suc n) are stop;
      small = ap is_none (integer_back (negsuc n) e);
    }
