-- Numbers in the words of a call.
use Rattle.std.proofs.Common.{◌≡◌, ℕ, ◌<◌, ◌≤◌, ◌^◌, List, [], ◌∷◌, Bool, true, false, Some, None, Err, length, refl, sym, ap, ◌∙◌, arith, true≢false}
use Rattle.std.specs.Prelude.{◌&&◌, ◌==◌, not, nat_le, if◌then◌else◌}
use Rattle.std.specs.Char.{is_ascii_digit}
use Rattle.std.specs.List.{list_all}
use Rattle.std.specs.Str.{all_ascii_digits}
use Rattle.std.specs.Str.Parse.{ParsesUnsigned, digits_value}
use Rattle.std.proofs.lemmas.Bool.Decides.{nat_tests}
use Rattle.std.proofs.lemmas.Str.Parse.{IsNumeralModel, numerals_by_value, parse_digits, tells_all_ascii_digits}
use Rattle.synth_run.specs.Words.{is_number, number_of}

own : IsNumeralModel (λ ds. all_ascii_digits ds ≡ true) (digits_value 10)
own = numerals_by_value (λ ds. all_ascii_digits ds ≡ true) tells_all_ascii_digits

digits_all : (text : List ℕ) → list_all is_ascii_digit text ≡ all_ascii_digits text
digits_all [] = refl
digits_all (byte ∷ bytes) = ap (λ (t : Bool). is_ascii_digit byte && t) (digits_all bytes)

-- a number has a digit, and digits alone
number_digits : (text : List ℕ) → is_number text ≡ true → (all_ascii_digits text ≡ true) × (0 < length text)
number_digits [] h = absurd (true≢false (sym h))
number_digits (digit ∷ digits) h = by (not (digit == 48)) h
  where
    by : (t : Bool) → (t && list_all is_ascii_digit (digit ∷ digits)) ≡ true → (all_ascii_digits (digit ∷ digits) ≡ true) × (0 < length (digit ∷ digits))
    by true h = (sym (digits_all (digit ∷ digits)) ∙ h, omega arith)
    by false h = absurd (true≢false (sym h))

-- a number that could not be read is greater
pub number_lost : {E : Type 0} (most : ℕ) (text : List ℕ) (e : E) → ParsesUnsigned 32 10 text (Err e) → is_number text ≡ true → most < 2 ^ 32 → number_of most text ≡ None
number_lost {E = E} most text e read h few =
    let d = number_digits text h in
    let p = parse_digits own {E = E} 32 text (Err e) read d.0 in
    by (nat_le (digits_value 10 text) most) refl (λ lt. p (d.1, lt)) few
  where
    no : (v : ℕ) (t : Bool) → (if t && false then Some v else None) ≡ None
    no v true = refl
    no v false = refl

    by : (t : Bool) → nat_le (digits_value 10 text) most ≡ t → (digits_value 10 text < 2 ^ 32 → ⊥) → most < 2 ^ 32 → number_of most text ≡ None
    by true f over few =
        let within : digits_value 10 text ≤ most = grind (arith, nat_tests) in
        absurd (over (omega (arith, within, few)))
    by false f over few =
        ap (λ (t : Bool). if t && nat_le 1 (digits_value 10 text) && nat_le (digits_value 10 text) most then Some (digits_value 10 text) else None) h
        ∙ ap (λ (t : Bool). if nat_le 1 (digits_value 10 text) && t then Some (digits_value 10 text) else None) f
        ∙ no (digits_value 10 text) (nat_le 1 (digits_value 10 text))
