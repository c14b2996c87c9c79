-- What the items of a text are like: names have the form of names, and numbers are in range.
use Rattle.std.proofs.Common.{◌≡◌, ℕ, zero, suc, ◌+◌, ◌-◌, ◌<◌, List, [], ◌∷◌, length, take, drop, map, Option, Some, None, Result, Ok, Err, Bool, true, false, refl, sym, ap, subst, ◌∙◌, arith, cond}
use Rattle.std.specs.Prelude.{◌==◌, ◌&&◌, nat_lt, ℤ, unwrap_or, option_map, if◌then◌else◌, slice_index}
use Rattle.std.specs.List.{All, list_all, prefix_len}
use Rattle.std.specs.Option.{option_or, option_map_or}
use Rattle.std.specs.Str.{bytes_eq}
use Rattle.std.specs.Prelude.{codes}
use Rattle.std.proofs.lemmas.Bool.{true≢false, and_from, and_parts, lt-ltb, ltb-true}
use Rattle.std.proofs.lemmas.List.{length-take}
use Rattle.std.proofs.lemmas.List.Elements.{All-nil, All-cons}
use Rattle.std.proofs.lemmas.List.Sums.{prefix_len-le-length}
use Rattle.rtl_lex.specs.declared.place.Place.{Place}
use Rattle.rtl_lex.specs.declared.sort.Sort.{Sort}
use Rattle.rtl_lex.specs.declared.sort.Sort.TheVariants as sorts
use Rattle.rtl_lex.specs.declared.token.TokenKind.{TokenKind}
use Rattle.rtl_lex.specs.declared.token.TokenKind.TheVariants as kinds
use Rattle.rtl_lex.specs.declared.token.LexFault.{LexFault}
use Rattle.rtl_lex.specs.declared.token.LexFault.TheVariants as faults
use Rattle.rtl_lex.specs.Bytes.{is_end, is_lower, is_digit, is_mark, is_sigil, is_name}
use Rattle.rtl_lex.specs.Gaps.{gap}
use Rattle.rtl_lex.specs.Numbers.{in_range, integer}
use Rattle.rtl_lex.specs.Place.{moved}
use Rattle.rtl_lex.specs.Sorts.{sort_of, word_sort, module_word, option_word, process_word, event_word, mark_sort}
use Rattle.rtl_lex.specs.Strings.{char_by, escape, char_front, spelt, chars_of, octals}
use Rattle.rtl_lex.specs.Numbers as numbers
use Rattle.rtl_lex.specs.Tokens.{Piece, token_at, begun, front, name_front, string_front, minus_front, number_front, is_over}
use Rattle.rtl_lex.specs.Items.{Seen, item_of, last_item, number_of, is_line, IsFirst, AreItems}
use Rattle.rtl_readable.specs.Readable.{IsName, IsInteger, IsChar}

-- a name is one, and a number is in range
pub record IsGood (i : Seen) : Type 0 where
  pub name : i.sort ≡ sorts.Id → IsName i.text
  pub number : (z : ℤ) → i.number ≡ Some z → IsInteger z

-- ---- sorts

abbrev other : Sort → Bool
other sorts.Id = false
other sort = true

abbrev others : Option Sort → Bool
others None = true
others (Some s) = other s

picks : (c : Bool) (s : Sort) (o : Option Sort) → other s ≡ true → others o ≡ true → others (if c then Some s else o) ≡ true
picks true s o e f = e
picks false s o e f = f

either : (a b : Option Sort) → others a ≡ true → others b ≡ true → others (option_or a b) ≡ true
either None b e f = f
either (Some s) b e f = e

module_others : (text : List ℕ) → others (module_word text) ≡ true
unfolding module_word
module_others text =
    picks (bytes_eq text (codes "autoidx")) sorts.Autoidx _ refl (picks (bytes_eq text (codes "attribute")) sorts.Attribute _ refl (picks (bytes_eq text (codes "module")) sorts.Module _ refl
    (picks (bytes_eq text (codes "parameter")) sorts.Parameter _ refl (picks (bytes_eq text (codes "wire")) sorts.Wire _ refl (picks (bytes_eq text (codes "memory")) sorts.Memory _ refl
    (picks (bytes_eq text (codes "cell")) sorts.Cell _ refl (picks (bytes_eq text (codes "connect")) sorts.Connect _ refl (picks (bytes_eq text (codes "end")) sorts.End None refl refl))))))))

option_others : (text : List ℕ) → others (option_word text) ≡ true
unfolding option_word
option_others text =
    picks (bytes_eq text (codes "width")) sorts.Width _ refl (picks (bytes_eq text (codes "offset")) sorts.Offset _ refl (picks (bytes_eq text (codes "size")) sorts.Size _ refl
    (picks (bytes_eq text (codes "input")) sorts.Input _ refl (picks (bytes_eq text (codes "output")) sorts.Output _ refl (picks (bytes_eq text (codes "inout")) sorts.Inout _ refl
    (picks (bytes_eq text (codes "upto")) sorts.Upto _ refl (picks (bytes_eq text (codes "signed")) sorts.Signed None refl refl)))))))

process_others : (text : List ℕ) → others (process_word text) ≡ true
unfolding process_word
process_others text =
    picks (bytes_eq text (codes "process")) sorts.Process _ refl (picks (bytes_eq text (codes "assign")) sorts.Assign _ refl (picks (bytes_eq text (codes "switch")) sorts.Switch _ refl
    (picks (bytes_eq text (codes "case")) sorts.Case _ refl (picks (bytes_eq text (codes "sync")) sorts.Sync _ refl (picks (bytes_eq text (codes "update")) sorts.Update _ refl
    (picks (bytes_eq text (codes "memwr")) sorts.Memwr None refl refl))))))

event_others : (text : List ℕ) → others (event_word text) ≡ true
unfolding event_word
event_others text =
    picks (bytes_eq text (codes "low")) sorts.Low _ refl (picks (bytes_eq text (codes "high")) sorts.High _ refl (picks (bytes_eq text (codes "posedge")) sorts.Posedge _ refl
    (picks (bytes_eq text (codes "negedge")) sorts.Negedge _ refl (picks (bytes_eq text (codes "edge")) sorts.Edge _ refl (picks (bytes_eq text (codes "global")) sorts.Global _ refl
    (picks (bytes_eq text (codes "init")) sorts.Init _ refl (picks (bytes_eq text (codes "always")) sorts.Always None refl refl)))))))

taken : (o : Option Sort) → others o ≡ true → other (unwrap_or o sorts.Other) ≡ true
taken None e = refl
taken (Some s) e = e

word_other : (text : List ℕ) → other (word_sort text) ≡ true
unfolding word_sort
word_other text =
    taken (option_or (module_word text) (option_or (option_word text) (option_or (process_word text) (event_word text))))
    (either (module_word text) _ (module_others text) (either (option_word text) _ (option_others text) (either (process_word text) (event_word text) (process_others text) (event_others text))))

pick : (c : Bool) (s t : Sort) → other s ≡ true → other t ≡ true → other (if c then s else t) ≡ true
pick true s t e f = e
pick false s t e f = f

mark_other : (text : List ℕ) → other (mark_sort text) ≡ true
unfolding mark_sort
mark_other text =
    pick (bytes_eq text (codes "[")) sorts.OpenIndex _ refl (pick (bytes_eq text (codes "]")) sorts.CloseIndex _ refl (pick (bytes_eq text (codes "{")) sorts.OpenBrace _ refl
    (pick (bytes_eq text (codes "}")) sorts.CloseBrace _ refl (pick (bytes_eq text (codes ":")) sorts.Colon sorts.Comma refl refl))))

not_id : (s : Sort) → other s ≡ true → s ≡ sorts.Id → ⊥
not_id s e f = absurd (cc (ap other f ∙ refl, e))

-- ---- kinds

-- only identifiers have the sort of a name
name_kind : (kind : TokenKind) (text : List ℕ) → sort_of kind text ≡ sorts.Id → kind ≡ kinds.Id
name_kind kinds.Word text e = absurd (not_id (word_sort text) (word_other text) e)
name_kind kinds.Mark text e = absurd (not_id (mark_sort text) (mark_other text) e)
name_kind kinds.Id text e = refl
name_kind kinds.Value text e = absurd cc
name_kind kinds.Int text e = absurd cc
name_kind kinds.Chars text e = absurd cc
name_kind kinds.Line text e = absurd cc

-- the front of a run that passes
front_passes : (p : ℕ → Bool) (xs : List ℕ) → list_all p (take (prefix_len p xs) xs) ≡ true
front_passes p [] = refl
front_passes p (x ∷ xs) = by (front_passes p xs) (p x) refl
  where
    by : list_all p (take (prefix_len p xs) xs) ≡ true → (b : Bool) → p x ≡ b → list_all p (take (cond b (1 + prefix_len p xs) 0) (x ∷ xs)) ≡ true
    by more true e =
        let one : 1 + prefix_len p xs ≡ suc (prefix_len p xs) = omega arith in
        ap (λ (n : ℕ). list_all p (take n (x ∷ xs))) one ∙ and_from (p x) (list_all p (take (prefix_len p xs) xs)) e more
    by more false e = refl

-- ---- what begins an identifier

abbrev id_kind : TokenKind → Bool
id_kind kinds.Id = true
id_kind kind = false

-- whether a name was found, or nothing
abbrev names_it : Option (TokenKind × ℕ) → Bool
names_it None = true
names_it (Some p) = id_kind p.0

abbrev found : TokenKind → ℕ → Option (TokenKind × ℕ)
found kind n = Some (kind, n)

wrong : (o : Option (TokenKind × ℕ)) (n : ℕ) → names_it o ≡ false → o ≡ found kinds.Id n → ⊥
wrong o n e f = true≢false (sym (ap names_it f) ∙ e)

no_chars : (o : Option ℕ) (n : ℕ) → option_map (λ count. (kinds.Chars, count + 1)) o ≡ found kinds.Id n → ⊥
no_chars None n e = absurd cc
no_chars (Some k) n e = wrong (found kinds.Chars (k + 1)) n refl e

no_minus : (c : Bool) (k n : ℕ) → (if c then None else found kinds.Int k) ≡ found kinds.Id n → ⊥
no_minus true k n e = absurd cc
no_minus false k n e = wrong (found kinds.Int k) n refl e

abbrev some_found : TokenKind × ℕ → Option (TokenKind × ℕ)
some_found p = Some p

no_number : (c : Bool) (j k n : ℕ) → some_found (if c then (kinds.Value, j) else (kinds.Int, k)) ≡ found kinds.Id n → ⊥
no_number true j k n e = wrong (found kinds.Value j) n refl e
no_number false j k n e = wrong (found kinds.Int k) n refl e

-- where a name stands, its first byte begins one
by_tests : (end lower mark sigil quote minus digit : Bool) (a b : ℕ) (name string sign : Option (TokenKind × ℕ)) (value : TokenKind × ℕ) (n : ℕ)
    → (string ≡ found kinds.Id n → ⊥) → (sign ≡ found kinds.Id n → ⊥) → (some_found value ≡ found kinds.Id n → ⊥)
    → (if end then found kinds.Line a else (if lower then found kinds.Word b else (if mark then found kinds.Mark 1 else (if sigil then name else (if quote then string else (if minus then sign else (if digit then some_found value else None))))))) ≡ found kinds.Id n
    → (sigil ≡ true) × (name ≡ found kinds.Id n)
by_tests true lower mark sigil quote minus digit a b name string sign value n f g h e = absurd (wrong (found kinds.Line a) n refl e)
by_tests false true mark sigil quote minus digit a b name string sign value n f g h e = absurd (wrong (found kinds.Word b) n refl e)
by_tests false false true sigil quote minus digit a b name string sign value n f g h e = absurd (wrong (found kinds.Mark 1) n refl e)
by_tests false false false true quote minus digit a b name string sign value n f g h e = (refl, e)
by_tests false false false false true minus digit a b name string sign value n f g h e = absurd (f e)
by_tests false false false false false true digit a b name string sign value n f g h e = absurd (g e)
by_tests false false false false false false true a b name string sign value n f g h e = absurd (h e)
by_tests false false false false false false false a b name string sign value n f g h e = absurd cc

name_front_is : (b : ℕ) (bs : List ℕ) (n : ℕ) → front (b ∷ bs) ≡ found kinds.Id n → (is_sigil b ≡ true) × (name_front bs ≡ found kinds.Id n)
name_front_is b bs n e =
    by_tests (is_end b) (is_lower b) (is_mark b) (is_sigil b) (b == 34) (b == 45) (is_digit b) (gap true false (b ∷ bs)) (prefix_len is_lower (b ∷ bs)) (name_front bs) (string_front bs) (minus_front bs) (number_front (b ∷ bs)) n
    (no_chars _ n) (no_minus (prefix_len is_digit bs == 0) (prefix_len is_digit bs + 1) n) (no_number (slice_index (b ∷ bs) (prefix_len is_digit (b ∷ bs)) == 39) _ _ n) e

abbrev length_of : Option (TokenKind × ℕ) → ℕ
length_of None = 0
length_of (Some p) = p.1

-- the length of a name
name_len : (c : Bool) (k n : ℕ) → (if c then None else found kinds.Id k) ≡ found kinds.Id n → (c ≡ false) × (k ≡ n)
name_len true k n e = absurd cc
name_len false k n e = (refl, ap length_of e)

-- the text of a name is one
name_text : (b : ℕ) (bs : List ℕ) (n : ℕ) → front (b ∷ bs) ≡ found kinds.Id n → IsName (take n (b ∷ bs))
name_text b bs n e =
    let is = name_front_is b bs n e in
    let count = prefix_len is_name bs in
    let len = name_len (count == 0) (count + 1) n is.1 in
    let size : n ≡ suc count = sym len.1 ∙ omega arith in
    let some : 0 < count = positive count len.0 in
    let body = take count bs in
    let whole : length body ≡ count = omega (arith, length-take count bs, prefix_len-le-length is_name bs) in
    subst (λ (k : ℕ). IsName (take k (b ∷ bs))) (sym size)
    (and_from (is_sigil b) (nat_lt 0 (length body) && list_all is_name body) is.0 (and_from (nat_lt 0 (length body)) (list_all is_name body) (lt-ltb 0 (length body) (omega arith)) (front_passes is_name bs)))
  where
    positive : (k : ℕ) → (k == 0) ≡ false → 0 < k
    positive zero e = absurd cc
    positive (suc k) e = omega arith

-- ---- tokens

-- a token that is there was found, and has its text
begun_text : (rest : List ℕ) (place : Place) (o : Option (TokenKind × ℕ)) (t : Piece) → begun rest place o ≡ Ok t → (p : TokenKind × ℕ) × (o ≡ Some p) × (p.0 ≡ t.kind) × (take p.1 rest ≡ t.text)
begun_text rest place None t e = absurd cc
begun_text rest place (Some p) t e = (p, refl, ap (λ (x : Piece). x.kind) (same (is_over p.0 (take p.1 rest)) e), ap (λ (x : Piece). x.text) (same (is_over p.0 (take p.1 rest)) e))
  where
    same : (c : Bool) → (if c then Err (faults.Int place) else Ok (record { kind = p.0; text = take p.1 rest; place = place; next = moved place (take p.1 rest) })) ≡ Ok t → record { kind = p.0; text = take p.1 rest; place = place; next = moved place (take p.1 rest) } ≡ t
    same true f = absurd cc
    same false f = cc

found_name : (rest : List ℕ) (p : TokenKind × ℕ) → front rest ≡ Some p → p.0 ≡ kinds.Id → IsName (take p.1 rest)
found_name [] p e f = absurd (wrong (found kinds.Line 0) p.1 refl (e ∙ ap (λ (k : TokenKind). found k p.1) f))
found_name (b ∷ bs) p e f = name_text b bs p.1 (e ∙ ap (λ (k : TokenKind). found k p.1) f)

token_name : (bytes : List ℕ) (from : Place) (t : Piece) → token_at bytes from ≡ Ok t → t.kind ≡ kinds.Id → IsName t.text
unfolding token_at
token_name bytes from t e f =
    let skip = gap false false bytes in
    let rest = drop skip bytes in
    let is = begun_text rest (moved from (take skip bytes)) (front rest) t e in
    subst IsName is.3 (found_name rest is.0 is.1 (is.2 ∙ f))

int_in_range : (c : Bool) (y z : ℤ) → in_range y ≡ c → (if c then Some y else None) ≡ Some z → IsInteger z
int_in_range true y z e f =
    let same : y ≡ z = cc in
    subst IsInteger same e
int_in_range false y z e f = absurd cc

number_in_range : (kind : TokenKind) (text : List ℕ) (z : ℤ) → number_of kind text ≡ Some z → IsInteger z
number_in_range kinds.Int text z e = int_in_range (in_range (integer text)) (integer text) z refl e
number_in_range kinds.Word text z e = absurd cc
number_in_range kinds.Mark text z e = absurd cc
number_in_range kinds.Id text z e = absurd cc
number_in_range kinds.Value text z e = absurd cc
number_in_range kinds.Chars text z e = absurd cc
number_in_range kinds.Line text z e = absurd cc

good_token : (bytes : List ℕ) (from : Place) (t : Piece) → token_at bytes from ≡ Ok t → IsGood (item_of t)
good_token bytes from t e = record {
  name = λ is. token_name bytes from t e (name_kind t.kind t.text is);
  number = λ z is. number_in_range t.kind t.text z is;
}

good_last : (sort : Sort) (place : Place) → other sort ≡ true → IsGood (last_item sort place)
good_last sort place e = record { name = λ is. absurd (not_id sort e is); number = λ z is. absurd cc }

-- ---- items

abbrev Rest : List Seen → List ℕ → Place → Piece → Type 0
Rest others bytes from t = AreItems others (drop (t.next.at - from.at) bytes) t.next (is_line t.kind)

good_first : (i : Seen) (is : List Seen) (bytes : List ℕ) (from : Place) (b : Bool) (read : Result Piece LexFault) → token_at bytes from ≡ read → IsFirst b read from i is (Rest is bytes from)
    → ((t : Piece) → Rest is bytes from t → All IsGood is) → All IsGood (i ∷ is)
good_first i is bytes from true read e f on = All-cons IsGood i is (subst IsGood (sym f.0) (good_last sorts.Finish from refl)) (subst (All IsGood) (sym f.1) (All-nil IsGood))
good_first i is bytes from false (Err (faults.Lex place)) e f on = All-cons IsGood i is (subst IsGood (sym f.0) (good_last sorts.Bad place refl)) (subst (All IsGood) (sym f.1) (All-nil IsGood))
good_first i is bytes from false (Err (faults.Int place)) e f on = All-cons IsGood i is (subst IsGood (sym f.0) (good_last sorts.Int place refl)) (subst (All IsGood) (sym f.1) (All-nil IsGood))
good_first i is bytes from false (Ok t) e f on = All-cons IsGood i is (subst IsGood (sym f.0) (good_token bytes from t e)) (on t f.1)

-- the items of a text are good
pub good_items : (items : List Seen) (bytes : List ℕ) (from : Place) (line : Bool) → AreItems items bytes from line → All IsGood items
good_items [] bytes from line are = All-nil IsGood
good_items (i ∷ is) bytes from line are = good_first i is bytes from (line && length bytes == 0) (token_at bytes from) refl are (λ t rest. good_items is (drop (t.next.at - from.at) bytes) t.next (is_line t.kind) rest)

-- ---- strings

test_char : (c : Bool) (char n : ℕ) (p : ℕ × ℕ) → (nat_lt 0 char && nat_lt char 256) ≡ c → (if c then Some (char, n) else None) ≡ Some p → IsChar p.0
test_char true char n p e f =
    let parts = and_parts (nat_lt 0 char) (nat_lt char 256) e in
    let some : ℕ × ℕ → ℕ = λ (q : ℕ × ℕ). q.0 in
    let same : char ≡ p.0 = ap (λ (o : Option (ℕ × ℕ)). option_map_or some o 0) f in
    subst IsChar same (ltb-true 0 char parts.0, ltb-true char 256 parts.1)
test_char false char n p e f = absurd cc

by_char : (char n : ℕ) (p : ℕ × ℕ) → char_by char n ≡ Some p → IsChar p.0
by_char char n p e = test_char (nat_lt 0 char && nat_lt char 256) char n p refl e

choose : (c : Bool) (x y : Option (ℕ × ℕ)) (p : ℕ × ℕ) → (x ≡ Some p → IsChar p.0) → (y ≡ Some p → IsChar p.0) → (if c then x else y) ≡ Some p → IsChar p.0
choose true x y p f g e = f e
choose false x y p f g e = g e

escape_char : (bytes : List ℕ) (p : ℕ × ℕ) → escape bytes ≡ Some p → IsChar p.0
escape_char [] p e = absurd cc
escape_char (b ∷ bs) p e =
    choose _ (char_by (numbers.octal (octals (b ∷ bs))) (length (octals (b ∷ bs)) + 1)) _ p (by_char (numbers.octal (octals (b ∷ bs))) (length (octals (b ∷ bs)) + 1) p)
    (choose (b == 110) (char_by 10 2) _ p (by_char 10 2 p) (choose (b == 116) (char_by 9 2) (char_by b 2) p (by_char 9 2 p) (by_char b 2 p))) e

none_char : (p : ℕ × ℕ) → None ≡ Some p → IsChar p.0
none_char p e = absurd cc

front_char : (bytes : List ℕ) (p : ℕ × ℕ) → char_front bytes ≡ Some p → IsChar p.0
front_char [] p e = absurd cc
front_char (b ∷ bs) p e = choose (b == 34) None _ p (none_char p) (choose (b == 92) (escape bs) (char_by b 1) p (escape_char bs p) (by_char b 1 p)) e

abbrev chars : List (ℕ × ℕ) → List ℕ
chars cs = map (λ c. c.0) cs

spelt_chars : (skip : ℕ) (bytes : List ℕ) → All IsChar (chars (spelt skip bytes))
spelt_chars zero [] = All-nil IsChar
spelt_chars (suc skip) [] = All-nil IsChar
spelt_chars (suc skip) (b ∷ bs) = spelt_chars skip bs
spelt_chars zero (b ∷ bs) = by (λ k. spelt_chars k bs) (char_front (b ∷ bs)) refl
  where
    by : ((k : ℕ) → All IsChar (chars (spelt k bs))) → (o : Option (ℕ × ℕ)) → char_front (b ∷ bs) ≡ o → All IsChar (chars (option_map_or (λ c. c ∷ spelt (c.1 - 1) bs) o []))
    by more None e = All-nil IsChar
    by more (Some c) e = All-cons IsChar c.0 (chars (spelt (c.1 - 1) bs)) (front_char (b ∷ bs) c e) (more (c.1 - 1))

-- what a string stands for has no NUL
pub all_chars : (text : List ℕ) → All IsChar (chars_of text)
all_chars text = spelt_chars 0 (drop 1 text)
