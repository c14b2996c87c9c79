-- Lines of words: what is between blanks.
use Rattle.std.proofs.Common.{◌≡◌, ℕ, suc, ◌<◌, Bool, true, false, not, ◌==◌, List, [], ◌∷◌, All, Some, None, is_some, codes, length, map, reverse, take, drop, refl, sym, ap, ◌∙◌, arith, sum, if◌then◌else◌}
use Rattle.std.proofs.lemmas.Bool.Decides.{nat_tests}
use Rattle.std.proofs.lemmas.List.{length-take-le}
use Rattle.std.proofs.lemmas.List.Elements.{All-cons, All-nil}
use Rattle.std.proofs.lemmas.List.Splits.{slice_split_at, slice_split_none}
use Rattle.std.specs.Prelude.{unwrap_or}
use Rattle.std.proofs.lemmas.Slice.Eq.{bytes_eq-Decides}
use Rattle.std.specs.List.{join_with_byte}
use Rattle.rtl_bits.specs.declared.bit.Bit.{Bit}
use Rattle.rtl_bits.specs.declared.bit.Bit.TheVariants.{S0, S1, X, Z, M, Dash}
use Rattle.sim_text.specs.Digits.{AreDigits, digit_of}
use Rattle.sim_text.specs.Lines.{are_step_words, is_blank, is_dash, line_words, port_words, step_bits, step_line, step_of, word_of, words_of}
use Rattle.sim_text.specs.Ports.{AreWidths}
use Rattle.sim_text.proofs.Words.{false_is_not, length-word_of, read_words, within, written_bits, written_fit}

-- no character of a word is a blank, and there is one
pub record IsWord (word : List ℕ) : Type 0 where
  pub some : 0 < length word
  pub solid : All (λ c. is_blank c ≡ false) word

abbrev pub AreWords : List (List ℕ) → Type 0
AreWords [] = Unit {0}
AreWords (word ∷ words) = IsWord word × AreWords words

kept : (word : List ℕ) → 0 < length word → not (length word == 0) ≡ true
kept word some = grind (arith, nat_tests)

blank_is : is_blank 32 ≡ true
unfolding is_blank
blank_is = refl

-- words with a blank between two are the words of their line
pub joined_words : (word : List ℕ) (words : List (List ℕ)) → AreWords (word ∷ words) → words_of (join_with_byte 32 (word ∷ words)) ≡ word ∷ words
joined_words word [] h =
    rw (slice_split_none is_blank word h.0.solid, kept word h.0.some) refl
joined_words word (next ∷ words) h =
    rw (slice_split_at is_blank word 32 (join_with_byte 32 (next ∷ words)) h.0.solid blank_is, kept word h.0.some)
    (ap (λ ws. word ∷ ws) (joined_words next words h.1))

solid_digit : (b : Bit) → is_blank (digit_of b) ≡ false
unfolding is_blank
solid_digit S0 = refl
solid_digit S1 = refl
solid_digit X = refl
solid_digit Z = refl
solid_digit M = refl
solid_digit Dash = refl

solid_digits : (bits : List Bit) → All (λ c. is_blank c ≡ false) (map digit_of bits)
solid_digits [] = All-nil (λ c. is_blank c ≡ false)
solid_digits (b ∷ bits) = All-cons (λ c. is_blank c ≡ false) (digit_of b) (map digit_of bits) (solid_digit b) (solid_digits bits)

are_words : (widths : List ℕ) (bits : List Bit) → AreWidths widths → length bits ≡ sum widths → AreWords (port_words widths bits)
are_words [] bits wide is = tt
are_words (width ∷ widths) bits wide is =
    let parts = within width widths bits is in
    let long = length-word_of (take width bits) ∙ length-take-le width bits parts.0 in
    (record { some = omega (arith, wide.0, long); solid = solid_digits (reverse (take width bits)) }, are_words widths (drop width bits) wide.1 parts.1)

-- a line that is written is read
pub written : (widths : List ℕ) (bits : List Bit) → AreWidths widths → length bits ≡ sum widths → AreDigits bits → step_of widths (step_line widths bits) ≡ Some bits
unfolding is_blank
written [] [] wide is h = refl
written [] (b ∷ bits) wide is h = absurd (no_bits is)
  where
    no_bits : suc (length bits) ≡ 0 → ⊥
    no_bits e = omega (arith, e)
written (width ∷ widths) bits wide is h =
    rw (joined_words (word_of (take width bits)) (port_words widths (drop width bits)) (are_words (width ∷ widths) bits wide is), written_fit (width ∷ widths) bits is)
    (ap Some (written_bits (width ∷ widths) bits is h))

dash_is : (words : List (List ℕ)) → is_dash words ≡ true → words ≡ codes "-" ∷ []
dash_is [] h = absurd (false_is_not h)
dash_is (word ∷ []) h = ap (λ w. w ∷ []) ((bytes_eq-Decides word (codes "-")).0 h)
dash_is (word ∷ next ∷ words) h = absurd (false_is_not h)

-- the words of a line that is read are those that are written
pub read : (widths line : List ℕ) (bits : List Bit) → step_of widths line ≡ Some bits → words_of line ≡ line_words widths bits
read widths line bits h = by widths (words_of line) (are_step_words widths (words_of line)) refl h
  where
    by : (widths : List ℕ) (words : List (List ℕ)) (b : Bool) → are_step_words widths words ≡ b
        → (if b then Some (step_bits widths words) else None) ≡ Some bits → words ≡ line_words widths bits
    by [] words true fit is = dash_is words fit
    by (width ∷ widths) words true fit is =
        sym (read_words (width ∷ widths) words fit) ∙ ap (port_words (width ∷ widths)) (ap (λ o. unwrap_or o []) is)
    by widths words false fit is = absurd (false_is_not (ap is_some is))
