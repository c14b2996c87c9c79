-- The forms of tokens: words, marks, identifiers.
use Rattle.std.proofs.Common.{◌≡◌, ℕ, zero, suc, ◌+◌, ◌<◌, List, [], ◌∷◌, ◌++◌, length, Option, Some, None, Bool, true, false, refl, ap, ◌∙◌, arith, cond}
use Rattle.std.specs.Prelude.{◌==◌, ◌||◌, if◌then◌else◌}
use Rattle.std.specs.List.{prefix_len, list_all}
use Rattle.std.proofs.lemmas.Bool.{and_parts}
use Rattle.std.proofs.lemmas.Bool.Decides.{nat_tests}
use Rattle.rtl_lex.specs.declared.token.TokenKind.{TokenKind}
use Rattle.rtl_lex.specs.declared.token.TokenKind.TheVariants.{Word, Mark, Id}
use Rattle.rtl_lex.specs.Bytes.{is_lower, is_mark, is_sigil, is_name}
use Rattle.rtl_lex.specs.Gaps.{in_gap}
use Rattle.rtl_lex.specs.Tokens.{front, name_front}
use Rattle.rtl_write.proofs.Printed.{IsToken}

-- a run of bytes that pass, up to one that does not
pub run_is : (p : ℕ → Bool) (xs : List ℕ) (b : ℕ) (rest : List ℕ) → list_all p xs ≡ true → p b ≡ false → prefix_len p (xs ++ b ∷ rest) ≡ length xs
run_is p [] b rest all stop = ap (λ c. cond c (1 + prefix_len p rest) 0) stop
run_is p (x ∷ xs) b rest all stop =
    let parts = and_parts (p x) (list_all p xs) all in
    let more = run_is p xs b rest parts.1 stop in
    ap (λ c. cond c (1 + prefix_len p (xs ++ b ∷ rest)) 0) parts.0 ∙ omega (arith, more)

-- what was found
abbrev pub found : TokenKind → ℕ → Option (TokenKind × ℕ)
found kind n = Some (kind, n)

abbrev pub nothing : Option (TokenKind × ℕ)
nothing = None

not_zero : (n : ℕ) → (suc n == 0) ≡ false
not_zero n = grind (arith, nat_tests)

-- at least one more byte
pub some_found : (kind : TokenKind) (n : ℕ) → 0 < n → (if n == 0 then nothing else found kind (n + 1)) ≡ found kind (suc n)
some_found kind zero lt = absurd (omega arith)
some_found kind (suc n) lt =
    let more : suc n + 1 ≡ suc (suc n) = omega arith in
    ap (λ (b : Bool). if b then nothing else found kind (suc n + 1)) (not_zero n) ∙ ap (found kind) more

-- ---- words

lower_front : (b : ℕ) (bs : List ℕ) → is_lower b ≡ true → front (b ∷ bs) ≡ Some (Word, prefix_len is_lower (b ∷ bs))
lower_front b bs e = grind (arith, nat_tests)

lower_starts : (b : ℕ) → is_lower b ≡ true → in_gap true false b ≡ false
lower_starts b e = grind (arith, nat_tests)

lower_stops : (b : ℕ) → (b == 32 || b == 10) ≡ true → is_lower b ≡ false
lower_stops b e = grind (arith, nat_tests)

-- lower-case letters are a word
pub word_token : (text : List ℕ) → list_all is_lower text ≡ true → 0 < length text → IsToken Word text
word_token [] all lt = absurd (omega arith)
word_token (b ∷ bs) all lt =
    let first = (and_parts (is_lower b) (list_all is_lower bs) all).0 in
    record {
      some = lt;
      starts = lower_starts b first;
      whole = λ c rest stop. lower_front b (bs ++ c ∷ rest) first ∙ ap (found Word) (run_is is_lower (b ∷ bs) c rest all (lower_stops c stop));
      small = refl;
    }

-- ---- marks

mark_front : (b : ℕ) (bs : List ℕ) → is_mark b ≡ true → front (b ∷ bs) ≡ Some (Mark, 1)
mark_front b bs e = grind (arith, nat_tests)

mark_starts : (b : ℕ) → is_mark b ≡ true → in_gap true false b ≡ false
mark_starts b e = grind (arith, nat_tests)

pub mark_token : (b : ℕ) → is_mark b ≡ true → IsToken Mark (b ∷ [])
mark_token b e = record {
  some = omega arith;
  starts = mark_starts b e;
  whole = λ c rest stop. mark_front b (c ∷ rest) e;
  small = refl;
}

-- ---- identifiers

sigil_front : (b : ℕ) (bs : List ℕ) → is_sigil b ≡ true → front (b ∷ bs) ≡ name_front bs
sigil_front b bs e = grind (arith, nat_tests)

sigil_starts : (b : ℕ) → is_sigil b ≡ true → in_gap true false b ≡ false
sigil_starts b e = grind (arith, nat_tests)

name_stops : (b : ℕ) → (b == 32 || b == 10) ≡ true → is_name b ≡ false
name_stops b e = grind (arith, nat_tests)

-- a backslash or a dollar sign, and bytes above 32, are an identifier
pub name_token : (b : ℕ) (bs : List ℕ) → is_sigil b ≡ true → 0 < length bs → list_all is_name bs ≡ true → IsToken Id (b ∷ bs)
name_token b bs first lt all = record {
  some = omega arith;
  starts = sigil_starts b first;
  whole = λ c rest stop. sigil_front b (bs ++ c ∷ rest) first
      ∙ ap (λ (n : ℕ). if n == 0 then nothing else found Id (n + 1)) (run_is is_name bs c rest all (name_stops c stop))
      ∙ some_found Id (length bs) lt;
  small = refl;
}
