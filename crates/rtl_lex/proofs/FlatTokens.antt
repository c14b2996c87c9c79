-- Tokens in which no line ends.
use Rattle.std.proofs.Common.{◌≡◌, ℕ, zero, suc, ◌+◌, Bool, true, false, not, cond, List, [], ◌∷◌, take, drop, Option, Some, None, refl, sym, ap, ◌∙◌, arith, add-one}
use Rattle.std.specs.Prelude.{◌&&◌, ◌==◌, ◌||◌, option_map, slice_index}
use Rattle.std.specs.List.{prefix_len}
use Rattle.std.proofs.Math.Seq.{take-add}
use Rattle.std.proofs.lemmas.Bool.Decides.{nat_tests}
use Rattle.std.proofs.lemmas.List.Folds.{list_all-append}
use Rattle.rtl_lex.specs.declared.token.TokenKind.{TokenKind}
use Rattle.rtl_lex.specs.declared.token.TokenKind.TheVariants.{Word, Mark, Id, Value, Int, Chars, Line}
use Rattle.rtl_lex.specs.Bytes.{is_bit, is_blank, is_digit, is_end, is_lower, is_mark, is_name, is_sigil}
use Rattle.rtl_lex.specs.Gaps.{gap, note_after}
use Rattle.rtl_lex.specs.Place.{is_flat}
use Rattle.rtl_lex.specs.Strings.{string_len}
use Rattle.rtl_lex.specs.Values.{sign_len}
use Rattle.rtl_lex.specs.Tokens.{front, is_plain, minus_front, name_front, number_front, string_front, tail_len}

-- the bytes that pass a test which no end of line passes
prefix_flat : (q : ℕ → Bool) → ((b : ℕ) → q b ≡ true → (b == 10) ≡ false) → (bytes : List ℕ) → is_flat (take (prefix_len q bytes) bytes) ≡ true
prefix_flat q apart [] = refl
prefix_flat q apart (b ∷ bs) = by (q b) refl (prefix_flat q apart bs)
  where
    by : (t : Bool) → q b ≡ t → is_flat (take (prefix_len q bs) bs) ≡ true → is_flat (take (cond t (1 + prefix_len q bs) 0) (b ∷ bs)) ≡ true
    by true e so =
        let next : 1 + prefix_len q bs ≡ suc (prefix_len q bs) = omega arith in
        ap (λ n. is_flat (take n (b ∷ bs))) next ∙ ap (λ t. not t && is_flat (take (prefix_len q bs) bs)) (apart b e) ∙ so
    by false e so = refl

lower_apart : (b : ℕ) → is_lower b ≡ true → (b == 10) ≡ false
lower_apart b e = grind (arith, nat_tests)

digit_apart : (b : ℕ) → is_digit b ≡ true → (b == 10) ≡ false
digit_apart b e = grind (arith, nat_tests)

name_apart : (b : ℕ) → is_name b ≡ true → (b == 10) ≡ false
name_apart b e = grind (arith, nat_tests)

end_apart : (b : ℕ) → is_end b ≡ false → (b == 10) ≡ false
end_apart b e = by (b == 10) e
  where
    by : (t : Bool) → (t || b == 13) ≡ false → t ≡ false
    by true f = f
    by false f = refl

bit_apart : (b : ℕ) → is_bit b ≡ true → (b == 10) ≡ false
bit_apart b e = grind (arith, nat_tests)

-- a byte before bytes
one_more : (b n : ℕ) (bs : List ℕ) → (b == 10) ≡ false → is_flat (take n bs) ≡ true → is_flat (take (n + 1) (b ∷ bs)) ≡ true
one_more b n bs e so = ap (λ k. is_flat (take k (b ∷ bs))) (add-one n) ∙ ap (λ t. not t && is_flat (take n bs)) e ∙ so

-- the bytes of a gap within a line
pub flat_gap : (note : Bool) (bytes : List ℕ) → is_flat (take (gap false note bytes) bytes) ≡ true
flat_gap note [] = refl
flat_gap note (b ∷ bs) = by (is_end b) refl (note || is_blank b || b == 35) (flat_gap (note_after note b) bs)
  where
    by : (t : Bool) → is_end b ≡ t → (u : Bool) → is_flat (take (gap false (note_after note b) bs) bs) ≡ true
        → is_flat (take (cond (cond t false u) (gap false (note_after note b) bs + 1) 0) (b ∷ bs)) ≡ true
    by true e u so = refl
    by false e true so = one_more b (gap false (note_after note b) bs) bs (end_apart b e) so
    by false e false so = refl

-- bytes behind bytes
both_flat : (m n : ℕ) (bytes : List ℕ) → is_flat (take m bytes) ≡ true → is_flat (take n (drop m bytes)) ≡ true → is_flat (take (m + n) bytes) ≡ true
both_flat m n bytes e f =
    ap is_flat (take-add m n bytes) ∙ list_all-append (λ b. not (b == 10)) (take m bytes) (take n (drop m bytes)) ∙ ap (λ t. t && is_flat (take n (drop m bytes))) e ∙ f

-- one byte that passes a test which no end of line passes
one_flat : (q : ℕ → Bool) → ((b : ℕ) → q b ≡ true → (b == 10) ≡ false) → (k : ℕ) (bytes : List ℕ) → q (slice_index bytes k) ≡ true → is_flat (take 1 (drop k bytes)) ≡ true
one_flat q apart zero [] e = refl
one_flat q apart (suc k) [] e = refl
one_flat q apart zero (b ∷ bs) e = ap (λ t. not t && true) (apart b e)
one_flat q apart (suc k) (b ∷ bs) e = one_flat q apart k bs e

mark_apart : (b : ℕ) → (b == 39) ≡ true → (b == 10) ≡ false
mark_apart b e = grind (arith, nat_tests)

sign_apart : (b : ℕ) → (b == 115) ≡ true → (b == 10) ≡ false
sign_apart b e = grind (arith, nat_tests)

sign_flat : (bytes : List ℕ) → is_flat (take (sign_len bytes) bytes) ≡ true
sign_flat bytes = by (slice_index bytes 0 == 115) refl
  where
    by : (t : Bool) → (slice_index bytes 0 == 115) ≡ t → is_flat (take (cond t 1 0) bytes) ≡ true
    by true e = one_flat (λ b. b == 115) sign_apart 0 bytes e
    by false e = refl

tail_flat : (bytes : List ℕ) → is_flat (take (tail_len bytes) bytes) ≡ true
tail_flat bytes =
    both_flat (sign_len bytes) (prefix_len is_bit (drop (sign_len bytes) bytes)) bytes (sign_flat bytes) (prefix_flat is_bit bit_apart (drop (sign_len bytes) bytes))

-- digits, an apostrophe, and what stands behind it
value_flat : (k : ℕ) (bytes : List ℕ) → (slice_index bytes k == 39) ≡ true → is_flat (take k bytes) ≡ true → is_flat (take (k + 1 + tail_len (drop (k + 1) bytes)) bytes) ≡ true
value_flat k bytes e so =
    both_flat (k + 1) (tail_len (drop (k + 1) bytes)) bytes (both_flat k 1 bytes so (one_flat (λ b. b == 39) mark_apart k bytes e)) (tail_flat (drop (k + 1) bytes))

-- what a token is and how long it is
abbrev sized : TokenKind → ℕ → TokenKind × ℕ
sized kind n = (kind, n)

same_kind : (a b : TokenKind) (m n : ℕ) → Some (sized a m) ≡ Some (sized b n) → a ≡ b
same_kind a b m n e = let pair : sized a m ≡ sized b n = cc in ap (λ (x : TokenKind × ℕ). x.0) pair

same_length : (a b : TokenKind) (m n : ℕ) → Some (sized a m) ≡ Some (sized b n) → m ≡ n
same_length a b m n e = let pair : sized a m ≡ sized b n = cc in ap (λ (x : TokenKind × ℕ). x.1) pair

module _ (kind : TokenKind) (n : ℕ) (plain : is_plain kind ≡ true) where
  -- no such token
  other : (k : TokenKind) (m : ℕ) → is_plain k ≡ false → Some (sized k m) ≡ Some (sized kind n) → ⊥
  other k m e f = let same : false ≡ true = sym e ∙ ap is_plain (same_kind k kind m n f) ∙ plain in cc

  module _ (b : ℕ) (bs : List ℕ) where
    abbrev Flat : Type 0
    Flat = is_flat (take n (b ∷ bs)) ≡ true

    long : (k : TokenKind) (m : ℕ) → Some (sized k m) ≡ Some (sized kind n) → is_flat (take m (b ∷ bs)) ≡ true → Flat
    long k m e so = ap (λ z. is_flat (take z (b ∷ bs))) (sym (same_length k kind m n e)) ∙ so

    digits : (k : ℕ) → cond (slice_index (b ∷ bs) k == 39) (sized Value (k + 1 + tail_len (drop (k + 1) (b ∷ bs)))) (sized Int k) ≡ sized kind n → is_flat (take k (b ∷ bs)) ≡ true → Flat
    digits k e so = by (slice_index (b ∷ bs) k == 39) refl e
      where
        by : (t : Bool) → (slice_index (b ∷ bs) k == 39) ≡ t → cond t (sized Value (k + 1 + tail_len (drop (k + 1) (b ∷ bs)))) (sized Int k) ≡ sized kind n → Flat
        by true m f = long Value (k + 1 + tail_len (drop (k + 1) (b ∷ bs))) (ap Some f) (value_flat k (b ∷ bs) m so)
        by false m f = long Int k (ap Some f) so

    module _ (apart : (b == 10) ≡ false) where
      behind : (k : TokenKind) (q : ℕ → Bool) → ((c : ℕ) → q c ≡ true → (c == 10) ≡ false) → cond (prefix_len q bs == 0) None (Some (sized k (prefix_len q bs + 1))) ≡ Some (sized kind n) → Flat
      behind k q away e = by (prefix_len q bs == 0) e
        where
          by : (t : Bool) → cond t None (Some (sized k (prefix_len q bs + 1))) ≡ Some (sized kind n) → Flat
          by true f = absurd (cc)
          by false f = long k (prefix_len q bs + 1) f (one_more b (prefix_len q bs) bs apart (prefix_flat q away bs))

      abbrev r7 : Option (TokenKind × ℕ)
      r7 = cond (is_digit b) (Some (number_front (b ∷ bs))) None

      abbrev r6 : Option (TokenKind × ℕ)
      r6 = cond (b == 45) (minus_front bs) r7

      abbrev r5 : Option (TokenKind × ℕ)
      r5 = cond (b == 34) (string_front bs) r6

      abbrev r4 : Option (TokenKind × ℕ)
      r4 = cond (is_sigil b) (name_front bs) r5

      abbrev r3 : Option (TokenKind × ℕ)
      r3 = cond (is_mark b) (Some (sized Mark 1)) r4

      abbrev r2 : Option (TokenKind × ℕ)
      r2 = cond (is_lower b) (Some (sized Word (prefix_len is_lower (b ∷ bs)))) r3

      on_digit : (t : Bool) → cond t (Some (number_front (b ∷ bs))) None ≡ Some (sized kind n) → Flat
      on_digit true e = let pair : number_front (b ∷ bs) ≡ sized kind n = cc in digits (prefix_len is_digit (b ∷ bs)) pair (prefix_flat is_digit digit_apart (b ∷ bs))
      on_digit false e = absurd (cc)

      on_minus : (t : Bool) → cond t (minus_front bs) r7 ≡ Some (sized kind n) → Flat
      on_minus true e = behind Int is_digit digit_apart e
      on_minus false e = on_digit (is_digit b) e

      on_quote : (t : Bool) → cond t (string_front bs) r6 ≡ Some (sized kind n) → Flat
      on_quote true e = by (string_len bs) e
        where
          by : (o : Option ℕ) → option_map (λ count. sized Chars (count + 1)) o ≡ Some (sized kind n) → Flat
          by None f = absurd (cc)
          by (Some k) f = absurd (other Chars (k + 1) refl f)
      on_quote false e = on_minus (b == 45) e

      on_sigil : (t : Bool) → cond t (name_front bs) r5 ≡ Some (sized kind n) → Flat
      on_sigil true e = behind Id is_name name_apart e
      on_sigil false e = on_quote (b == 34) e

      on_mark : (t : Bool) → cond t (Some (sized Mark 1)) r4 ≡ Some (sized kind n) → Flat
      on_mark true e = long Mark 1 e (ap (λ t. not t && true) apart)
      on_mark false e = on_sigil (is_sigil b) e

      on_lower : (t : Bool) → cond t (Some (sized Word (prefix_len is_lower (b ∷ bs)))) r3 ≡ Some (sized kind n) → Flat
      on_lower true e = long Word (prefix_len is_lower (b ∷ bs)) e (prefix_flat is_lower lower_apart (b ∷ bs))
      on_lower false e = on_mark (is_mark b) e

    on_end : (t : Bool) → is_end b ≡ t → cond t (Some (sized Line (gap true false (b ∷ bs)))) (cond (is_lower b) (Some (sized Word (prefix_len is_lower (b ∷ bs)))) (cond (is_mark b) (Some (sized Mark 1)) (cond (is_sigil b) (name_front bs) (cond (b == 34) (string_front bs) (cond (b == 45) (minus_front bs) (cond (is_digit b) (Some (number_front (b ∷ bs))) None)))))) ≡ Some (sized kind n) → Flat
    on_end true f e = absurd (other Line (gap true false (b ∷ bs)) refl e)
    on_end false f e = on_lower (end_apart b f) (is_lower b) e

  pub flat_token : (bytes : List ℕ) → front bytes ≡ Some (sized kind n) → is_flat (take n bytes) ≡ true
  flat_token [] e = absurd (other Line 0 refl e)
  flat_token (b ∷ bs) e = on_end b bs (is_end b) refl e
