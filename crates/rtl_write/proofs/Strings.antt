-- Strings as they are printed.
use Rattle.std.proofs.Common.{◌≡◌, ℕ, zero, suc, ◌+◌, ◌-◌, ◌/◌, ◌%◌, ◌<◌, List, [], ◌∷◌, ◌++◌, length, take, drop, map, append_assoc, Option, Some, None, Bool, true, false, refl, sym, ap, ◌∙◌, arith, cond}
use Rattle.std.specs.Prelude.{◌==◌, ◌&&◌, nat_lt, nat_le, if◌then◌else◌, slice_index, option_map}
use Rattle.std.specs.List.{flat_map, prefix_len, list_all}
use Rattle.std.specs.Option.{option_map_or}
use Rattle.std.proofs.lemmas.Bool.{eqb-true, and_parts, and_from, ltb-true}
use Rattle.std.proofs.lemmas.Bool.Decides.{nat_tests}
use Rattle.std.proofs.lemmas.List.{drop_at, length-append, get_or_at}
use Rattle.std.proofs.lemmas.List.Sums.{sum_by-cons}
use Rattle.std.proofs.Math.Nat.{div-div-eq-div-mul}
use Rattle.rtl_lex.specs.declared.token.TokenKind.TheVariants.{Chars}
use Rattle.rtl_lex.specs.Bytes.{is_octal}
use Rattle.rtl_lex.specs.Numbers.{octal}
use Rattle.rtl_lex.specs.Strings.{char_by, octals, escape, char_front, spelt, spelt_len, string_len, chars_of}
use Rattle.rtl_lex.specs.Tokens.{string_front}
use Rattle.rtl_write.specs.Constant.{escaped, string_text}
use Rattle.rtl_write.specs.Constant as constants
use Rattle.rtl_write.proofs.Printed.{IsToken}

-- ---- one character

-- a byte that a string may have
abbrev pub is_char : ℕ → Bool
is_char c = nat_lt 0 c && nat_lt c 256

char_by_is : (c n : ℕ) → is_char c ≡ true → char_by c n ≡ Some (c, n)
char_by_is c n e = ap (λ (b : Bool). if b then Some (c, n) else None) e

below_256 : (c : ℕ) → is_char c ≡ true → c < 256
below_256 c e = ltb-true c 256 (and_parts (nat_lt 0 c) (nat_lt c 256) e).1

run_all : (p : ℕ → Bool) (xs : List ℕ) → list_all p xs ≡ true → prefix_len p xs ≡ length xs
run_all p [] all = refl
run_all p (x ∷ xs) all =
    let parts = and_parts (p x) (list_all p xs) all in
    let more = run_all p xs parts.1 in
    ap (λ c. cond c (1 + prefix_len p xs) 0) parts.0 ∙ omega (arith, more)

octal_is : (k : ℕ) → k < 8 → is_octal (48 + k) ≡ true
octal_is k lt = grind (arith, nat_tests)

-- three octal digits are read, whatever follows
three_octals : (a b c : ℕ) (rest : List ℕ) → is_octal a ≡ true → is_octal b ≡ true → is_octal c ≡ true → octals (a ∷ b ∷ c ∷ rest) ≡ a ∷ b ∷ c ∷ []
three_octals a b c rest ea eb ec =
    let all : list_all is_octal (a ∷ b ∷ c ∷ []) ≡ true = and_from (is_octal a) (list_all is_octal (b ∷ c ∷ [])) ea (and_from (is_octal b) (list_all is_octal (c ∷ [])) eb (and_from (is_octal c) true ec refl)) in
    ap (λ (n : ℕ). take n (a ∷ b ∷ c ∷ [])) (run_all is_octal (a ∷ b ∷ c ∷ []) all)

octal_back : (c : ℕ) → c < 256 → octal ((48 + c / 64) ∷ (48 + c / 8 % 8) ∷ (48 + c % 8) ∷ []) ≡ c
octal_back c lt = omega (arith, div-div-eq-div-mul c 8 8)

escape_octal : (c : ℕ) (rest : List ℕ) → is_char c ≡ true → escape ((48 + c / 64) ∷ (48 + c / 8 % 8) ∷ (48 + c % 8) ∷ rest) ≡ Some (c, 4)
escape_octal c rest e =
    let lt = below_256 c e in
    let a = 48 + c / 64 in
    let bytes : List ℕ = a ∷ (48 + c / 8 % 8) ∷ (48 + c % 8) ∷ rest in
    let other : Option (ℕ × ℕ) = if a == 110 then char_by 10 2 else (if a == 116 then char_by 9 2 else char_by a 2) in
    let first : is_octal a ≡ true = octal_is (c / 64) (omega arith) in
    let three = three_octals a (48 + c / 8 % 8) (48 + c % 8) rest first (octal_is (c / 8 % 8) (omega arith)) (octal_is (c % 8) (omega arith)) in
    ap (λ (b : Bool). if b then char_by (octal (octals bytes)) (length (octals bytes) + 1) else other) first
    ∙ ap (λ (l : List ℕ). char_by (octal l) (length l + 1)) three
    ∙ ap (λ (n : ℕ). char_by n 4) (octal_back c lt)
    ∙ char_by_is c 4 e

-- the escapes, by the tests that choose them
abbrev escaped_by : Bool → Bool → Bool → Bool → Bool → ℕ → List ℕ
escaped_by quote slash line tab plain c =
    if quote then 92 ∷ 34 ∷ []
    else if slash then 92 ∷ 92 ∷ []
    else if line then 92 ∷ 110 ∷ []
    else if tab then 92 ∷ 116 ∷ []
    else if plain then c ∷ []
    else constants.octal c

abbrev found : ℕ → ℕ → Option (ℕ × ℕ)
found c n = Some (c, n)

front_by : (quote slash line tab plain : Bool) (c : ℕ) (more : List ℕ) → (c == 34) ≡ quote → (c == 92) ≡ slash → (c == 10) ≡ line → (c == 9) ≡ tab → is_char c ≡ true
    → char_front (escaped_by quote slash line tab plain c ++ more) ≡ Some (c, length (escaped_by quote slash line tab plain c))
front_by true slash line tab plain c more q s l t e = ap (λ (k : ℕ). found k 2) (sym (eqb-true c 34 q))
front_by false true line tab plain c more q s l t e = ap (λ (k : ℕ). found k 2) (sym (eqb-true c 92 s))
front_by false false true tab plain c more q s l t e = ap (λ (k : ℕ). found k 2) (sym (eqb-true c 10 l))
front_by false false false true plain c more q s l t e = ap (λ (k : ℕ). found k 2) (sym (eqb-true c 9 t))
front_by false false false false true c more q s l t e =
    ap (λ (b : Bool). if b then None else (if c == 92 then escape more else char_by c 1)) q
    ∙ ap (λ (b : Bool). if b then escape more else char_by c 1) s ∙ char_by_is c 1 e
front_by false false false false false c more q s l t e = escape_octal c more e

escaped_front : (c : ℕ) (more : List ℕ) → is_char c ≡ true → char_front (escaped c ++ more) ≡ Some (c, length (escaped c))
escaped_front c more e = front_by (c == 34) (c == 92) (c == 10) (c == 9) (nat_le 32 c && nat_le c 126) c more refl refl refl refl e

some_by : (quote slash line tab plain : Bool) (c : ℕ) → 0 < length (escaped_by quote slash line tab plain c)
some_by true slash line tab plain c = omega arith
some_by false true line tab plain c = omega arith
some_by false false true tab plain c = omega arith
some_by false false false true plain c = omega arith
some_by false false false false true c = omega arith
some_by false false false false false c = omega arith

escaped_some : (c : ℕ) → 0 < length (escaped c)
escaped_some c = some_by (c == 34) (c == 92) (c == 10) (c == 9) (nat_le 32 c && nat_le c 126) c

-- ---- all characters

spelt_skip : (k : ℕ) (bs : List ℕ) → spelt k bs ≡ spelt 0 (drop k bs)
spelt_skip zero bs = refl
spelt_skip (suc k) [] = refl
spelt_skip (suc k) (b ∷ bs) = spelt_skip k bs

-- a character, and those behind it
spelt_first : (front more : List ℕ) (c : ℕ) → 0 < length front → char_front (front ++ more) ≡ Some (c, length front) → spelt 0 (front ++ more) ≡ (c, length front) ∷ spelt 0 more
spelt_first [] more c lt e = absurd (omega arith)
spelt_first (b ∷ bs) more c lt e =
    let len : length (b ∷ bs) - 1 ≡ length bs = omega arith in
    ap (λ (o : Option (ℕ × ℕ)). option_map_or (λ d. d ∷ spelt (d.1 - 1) (bs ++ more)) o []) e
    ∙ ap (λ (n : ℕ). (c, length (b ∷ bs)) ∷ spelt n (bs ++ more)) len
    ∙ ap (λ (l : List (ℕ × ℕ)). (c, length (b ∷ bs)) ∷ l) (spelt_skip (length bs) (bs ++ more) ∙ ap (spelt 0) (drop_at bs more (length bs) refl))

abbrev written : List ℕ → List (ℕ × ℕ)
written chars = map (λ c. (c, length (escaped c))) chars

spelt_chars : (chars rest : List ℕ) → list_all is_char chars ≡ true → spelt 0 (flat_map escaped chars ++ 34 ∷ rest) ≡ written chars
spelt_chars [] rest all = refl
spelt_chars (c ∷ cs) rest all =
    let parts = and_parts (is_char c) (list_all is_char cs) all in
    let more = flat_map escaped cs ++ 34 ∷ rest in
    ap (spelt 0) (append_assoc (escaped c) (flat_map escaped cs) (34 ∷ rest))
    ∙ spelt_first (escaped c) more c (escaped_some c) (escaped_front c more parts.0)
    ∙ ap (λ (l : List (ℕ × ℕ)). (c, length (escaped c)) ∷ l) (spelt_chars cs rest parts.1)

written_len : (chars : List ℕ) → spelt_len (written chars) ≡ length (flat_map escaped chars)
written_len [] = refl
written_len (c ∷ cs) =
    sum_by-cons (λ (d : ℕ × ℕ). d.1) (c, length (escaped c)) (written cs)
    ∙ ap (λ (n : ℕ). length (escaped c) + n) (written_len cs)
    ∙ sym (length-append (escaped c) (flat_map escaped cs))

written_chars : (chars : List ℕ) → map (λ d. d.0) (written chars) ≡ chars
written_chars [] = refl
written_chars (c ∷ cs) = ap (λ (l : List ℕ). c ∷ l) (written_chars cs)

string_len_is : (chars rest : List ℕ) → list_all is_char chars ≡ true → string_len (flat_map escaped chars ++ 34 ∷ rest) ≡ Some (length (flat_map escaped chars) + 1)
string_len_is chars rest all =
    let body = flat_map escaped chars in
    let bytes = body ++ 34 ∷ rest in
    let count : spelt_len (spelt 0 bytes) ≡ length body = ap spelt_len (spelt_chars chars rest all) ∙ written_len chars in
    ap (λ (n : ℕ). if slice_index bytes n == 34 then Some (n + 1) else None) count
    ∙ ap (λ (x : ℕ). if x == 34 then Some (length body + 1) else None) (get_or_at body 34 rest 0 (length body) refl)

-- ---- the whole string

pub string_token : (chars : List ℕ) → list_all is_char chars ≡ true → IsToken Chars (string_text chars)
unfolding string_text
string_token chars all =
    let body = flat_map escaped chars in
    let size : length body + 1 + 1 ≡ suc (length (body ++ 34 ∷ [])) = omega (arith, length-append body (34 ∷ [])) in
    record {
      some = omega arith;
      starts = refl;
      whole = λ c rest stop. ap (λ (l : List ℕ). string_front l) (append_assoc body (34 ∷ []) (c ∷ rest))
          ∙ ap (λ (o : Option ℕ). option_map (λ count. (Chars, count + 1)) o) (string_len_is chars (c ∷ rest) all)
          ∙ ap (λ (n : ℕ). Some (Chars, n)) size;
      small = refl;
    }

-- a string as printed gives its characters again
pub string_back : (chars : List ℕ) → list_all is_char chars ≡ true → chars_of (string_text chars) ≡ chars
unfolding string_text
string_back chars all = ap (λ (l : List (ℕ × ℕ)). map (λ d. d.0) l) (spelt_chars chars [] all) ∙ written_chars chars
