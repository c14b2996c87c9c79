-- The words of a line that says something of desks.
use Rattle.std.proofs.Common.{◌≡◌, ℕ, zero, suc, ◌<◌, ◌≤◌, List, [], ◌∷◌, Bool, true, false, true≢false, None, get_or, length, map, take, refl, sym, arith}
use Rattle.std.specs.Prelude.{◌&&◌, ◌==◌, not, slice_index}
use Rattle.std.specs.Char.{is_ascii_digit}
use Rattle.std.specs.List.{list_all}
use Rattle.std.specs.Str.{IsUtf8}
use Rattle.std.proofs.lemmas.Bool.Decides.{nat_tests}
use Rattle.std.proofs.lemmas.Str.{IsUtf8-from_ascii}
use Rattle.synth_run.specs.Desks.{aim_by, desk_by}
use Rattle.synth_run.specs.Words.{is_number, number_of}

-- more words than five say no more
pub aim_five : (count : ℕ) (words : List (List ℕ)) → aim_by count (take 5 words) ≡ aim_by count words
aim_five count [] = refl
aim_five count (word ∷ []) = refl
aim_five count (word ∷ number ∷ []) = refl
aim_five count (word ∷ number ∷ more ∷ words) = refl

digit_ascii : (byte : ℕ) → is_ascii_digit byte ≡ true → byte < 128
digit_ascii byte h = grind (arith, nat_tests)

and_left : (a b : Bool) → (a && b) ≡ true → a ≡ true
and_left true b h = refl
and_left false b h = absurd (true≢false (sym h))

and_right : (a b : Bool) → (a && b) ≡ true → b ≡ true
and_right true b h = h
and_right false b h = absurd (true≢false (sym h))

digits_ascii : (bytes : List ℕ) → list_all is_ascii_digit bytes ≡ true → (i : ℕ) → slice_index bytes i < 128
digits_ascii [] h zero = omega arith
digits_ascii [] h (suc i) = omega arith
digits_ascii (byte ∷ bytes) h zero = digit_ascii byte (and_left (is_ascii_digit byte) (list_all is_ascii_digit bytes) h)
digits_ascii (byte ∷ bytes) h (suc i) = digits_ascii bytes (and_right (is_ascii_digit byte) (list_all is_ascii_digit bytes) h) i

-- digits are a text
number_utf8 : (bytes : List ℕ) → is_number bytes ≡ true → IsUtf8 bytes
number_utf8 [] h = absurd (true≢false (sym h))
number_utf8 (digit ∷ digits) h =
    IsUtf8-from_ascii (digit ∷ digits) (digits_ascii (digit ∷ digits) (and_right (not (digit == 48)) (list_all is_ascii_digit (digit ∷ digits)) h))

-- bytes that are no text write no number
pub not_text : (most : ℕ) (bytes : List ℕ) → (IsUtf8 bytes → ⊥) → number_of most bytes ≡ None
not_text most bytes never = by (is_number bytes) refl
  where
    by : (t : Bool) → is_number bytes ≡ t → number_of most bytes ≡ None
    by true e = absurd (never (number_utf8 bytes e))
    by false e = rw e refl

-- one word that is no text names no desk
pub no_desk : {R : Type 0} (now : R → List ℕ) (count : ℕ) (words : List R) (d : R) → 1 ≤ length words → length words < 2 → (IsUtf8 (now (get_or words 0 d)) → ⊥)
    → None ≡ desk_by count (map now words)
no_desk now count [] d some few never = absurd (omega (arith, some))
no_desk now count (word ∷ []) d some few never = sym (not_text count (now word) never)
no_desk now count (word ∷ more ∷ words) d some few never = absurd (omega (arith, few))
