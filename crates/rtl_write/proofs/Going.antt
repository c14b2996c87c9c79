-- Reading goes over what is printed: one token, one line, constants and attributes.
use Rattle.std.proofs.Common.{◌≡◌, ℕ, ◌*◌, ◌≤◌, List, [], ◌∷◌, ◌++◌, length, map, append_assoc, append-nil, Option, Some, Result, Ok, Err, Bool, false, refl, sym, ap, subst, ◌∙◌, arith}
use Rattle.std.specs.Prelude.{ℤ, nat_lt, replicate, codes, slice_set, if◌then◌else◌}
use Rattle.std.specs.List.{All, flat_map}
use Rattle.std.specs.Fmt.{signed_decimal}
use Rattle.std.proofs.lemmas.Bool.{le-ltb}
use Rattle.std.proofs.lemmas.List.{map-append, length-map}
use Rattle.std.proofs.lemmas.List.Elements.{All-head, All-tail}
use Rattle.rtl_lex.specs.declared.place.Place.{Place}
use Rattle.rtl_lex.specs.declared.sort.Sort.TheVariants as sorts
use Rattle.rtl_lex.specs.declared.token.TokenKind.{TokenKind}
use Rattle.rtl_lex.specs.declared.token.TokenKind.TheVariants as kinds
use Rattle.rtl_lex.specs.Place.{behind, moved}
use Rattle.rtl_lex.specs.Sorts.{sort_of, word_sort, module_word, option_word, process_word, event_word}
use Rattle.rtl_lex.specs.Items.{Seen}
use Rattle.rtl_lex.specs.Strings.{chars_of}
use Rattle.rtl_lex.specs.Values.{width_of, is_signed, bits_of}
use Rattle.rtl_bits.specs.declared.bit.Bit.{Bit}
use Rattle.rtl_sig.specs.Names.{AreDistinct, with_name}
use Rattle.rtl_ir.specs.declared.value.Value.{Value}
use Rattle.rtl_ir.specs.declared.value.Value.TheVariants as values
use Rattle.rtl_ir.specs.declared.value.Attribute.{Attribute}
use Rattle.rtl_grammar.specs.declared.expect.Expect.{Expect}
use Rattle.rtl_grammar.specs.declared.expect.Expect.TheVariants as expects
use Rattle.rtl_grammar.specs.Grammar.{after}
use Rattle.rtl_grammar.specs.Uses.{◌>>=◌}
use Rattle.rtl_grammar.proofs.ReadOn.{read_on}
use Rattle.rtl_grammar.proofs.Reading.{stepped}
use Rattle.rtl_read.specs.declared.draft.Draft.{Draft}
use Rattle.rtl_ir.specs.declared.limits.TheConstants.{MAX_WIDTH}
use Rattle.rtl_read.specs.declared.read_fault.ReadFault.{ReadFault}
use Rattle.rtl_read.specs.declared.read_fault.ReadFault.TheVariants as faults
use Rattle.rtl_read.specs.declared.attributes.Attributes.{Attributes}
use Rattle.rtl_read.specs.Constant as reading
use Rattle.rtl_read.specs.Meaning.Attribute.{put_at, with_attribute}
use Rattle.rtl_read.specs.Act.{act}
use Rattle.rtl_write.specs.Constant.{bits_text, string_text}
use Rattle.rtl_readable.specs.Readable.{IsConstant, IsAttribute, AreAttributes, IsChar}
use Rattle.rtl_write.proofs.Printed.{Printed, Piece, EndLine}
use Rattle.rtl_write.proofs.Lexing.{seen_at, items_at, lead}
use Rattle.rtl_write.proofs.Integers.{integer_back}
use Rattle.rtl_write.proofs.Values.{value_back}
use Rattle.rtl_write.proofs.Strings.{string_back}
use Rattle.rtl_write.proofs.WholeText.{chars_are}
use Rattle.rtl_write.proofs.Names.{not_before, is_new}
use Rattle.rtl_write.proofs.Tokens as tokens

-- ---- reading goes from here to there over these tokens, whatever follows

pub refused : Seen → ReadFault
refused i = faults.Syntax i.place

abbrev pub reads : List Seen → List Expect → Draft → Result Draft ReadFault
reads is roles d = read_on act refused faults.Memory is roles d

pub record Goes (ps : List Printed) (roles : List Expect) (d : Draft) (back : List Expect) (e : Draft) : Type 0 where
  pub goes : (from : Place) (others : List Printed) → (there : Place) × (reads (items_at from (ps ++ others)) roles d ≡ reads (items_at there others) back e)

pub goes_none : {roles : List Expect} {d : Draft} → Goes [] roles d roles d
goes_none = record { goes = λ from others. (from, refl) }

pub goes_then : {a b c : List Expect} {d e f : Draft} (ps qs : List Printed) → Goes ps a d b e → Goes qs b e c f → Goes (ps ++ qs) a d c f
goes_then {a = a} {d = d} ps qs g h = record {
  goes = λ from others.
      let one = g.goes from (qs ++ others) in
      let two = h.goes one.0 others in
      (two.0, ap (λ (x : List Printed). reads (items_at from x) a d) (append_assoc ps qs others) ∙ one.1 ∙ two.1);
}

-- a token, after which reading goes on
pub goes_on : {n : ℕ} {kind : TokenKind} {text : List ℕ} {qs : List Printed} {role : Expect} {roles back : List Expect} {d e : Draft} (body : List Expect) (next : Place → Draft)
    → after role (sort_of kind text) ≡ Some body → ((place : Place) → act role (seen_at kind text place) d ≡ Ok (next place)) → ((place : Place) → Goes qs (body ++ roles) (next place) back e)
    → Goes (Piece n kind text ∷ qs) (role ∷ roles) d back e
goes_on {n = n} {kind = kind} {text = text} {qs = qs} {role = role} {roles = roles} {d = d} body next can does more = record {
  goes = λ from others.
      let place = moved from (replicate n 32) in
      let there = moved place text in
      let rest = (more place).goes there others in
      let one = stepped act refused faults.Memory (seen_at kind text place) (items_at there (qs ++ others)) role roles body d can in
      (rest.0, one ∙ ap (λ (r : Result Draft ReadFault). r >>= λ n. reads (items_at there (qs ++ others)) (body ++ roles) n) (does place) ∙ rest.1);
}

-- the end of a line, after which reading goes on
pub goes_line : {qs : List Printed} {role : Expect} {roles back : List Expect} {d e : Draft} (body : List Expect) (next : Draft)
    → after role sorts.Line ≡ Some body → ((text : List ℕ) (place : Place) → act role (seen_at kinds.Line text place) d ≡ Ok next) → Goes qs (body ++ roles) next back e
    → Goes (EndLine ∷ qs) (role ∷ roles) d back e
goes_line {qs = qs} {role = role} {roles = roles} {d = d} body next can does more = record {
  goes = λ from others.
      let text : List ℕ = 10 ∷ replicate (lead (qs ++ others)) 32 in
      let there = behind from 10 in
      let rest = more.goes there others in
      let one = stepped act refused faults.Memory (seen_at kinds.Line text from) (items_at there (qs ++ others)) role roles body d can in
      (rest.0, one ∙ ap (λ (r : Result Draft ReadFault). r >>= λ n. reads (items_at there (qs ++ others)) (body ++ roles) n) (does text from) ∙ rest.1);
}

-- items one after another; `state` is what there is behind those that were read
pub goes_each : {X : Type 0} (f : X → List Printed) (roles : List Expect) (state : List X → Draft) (before rest : List X)
    → ((front : List X) (x : X) (back : List X) → front ++ x ∷ back ≡ before ++ rest → Goes (f x) roles (state front) roles (state (front ++ x ∷ [])))
    → Goes (flat_map f rest) roles (state before) roles (state (before ++ rest))
goes_each f roles state before [] each = subst (λ (xs : List _). Goes [] roles (state before) roles (state xs)) (sym (append-nil before)) goes_none
goes_each f roles state before (x ∷ rest) each =
    let same : (before ++ x ∷ []) ++ rest ≡ before ++ x ∷ rest = append_assoc before (x ∷ []) rest in
    goes_then (f x) (flat_map f rest) (each before x rest refl)
    (subst (λ (xs : List _). Goes (flat_map f rest) roles (state (before ++ x ∷ [])) roles (state xs)) same
    (goes_each f roles state (before ++ x ∷ []) rest (λ front y back e. each front y back (e ∙ same))))

-- ---- constants

within : (m n : ℕ) → n ≤ m → nat_lt m n ≡ false
within m n le = le-ltb m n le

abbrev pub okay : {A : Type 0} → A → Result A ReadFault
okay x = Ok x

pub value_read : (bits : List Bit) (signed : Bool) (place : Place) → length bits ≤ MAX_WIDTH → reading.constant sorts.Value (seen_at kinds.Value (bits_text bits signed) place) ≡ Ok (values.Bits bits signed)
value_read bits signed place le =
    let text = bits_text bits signed in
    let back = value_back bits signed (omega arith) in
    let fits : nat_lt MAX_WIDTH (width_of text) ≡ false = ap (nat_lt MAX_WIDTH) back.width_is ∙ within MAX_WIDTH (length bits) le in
    ap (λ (b : Bool). if b then Err (faults.Limit place) else Ok (values.Bits (bits_of text) (is_signed text))) fits
    ∙ ap (λ (l : List Bit). okay (values.Bits l (is_signed text))) back.bits_are ∙ ap (λ (b : Bool). okay (values.Bits bits b)) back.sign_is

string_read : (chars : List ℕ) (place : Place) → All IsChar chars → 8 * length chars ≤ MAX_WIDTH → reading.constant sorts.Chars (seen_at kinds.Chars (string_text chars) place) ≡ Ok (values.Chars chars)
string_read chars place all le =
    let text = string_text chars in
    let back : chars_of text ≡ chars = string_back chars (chars_are chars all) in
    let fits : nat_lt MAX_WIDTH (8 * length (chars_of text)) ≡ false = ap (λ (l : List ℕ). nat_lt MAX_WIDTH (8 * length l)) back ∙ within MAX_WIDTH (8 * length chars) le in
    ap (λ (b : Bool). if b then Err (faults.Limit place) else Ok (values.Chars (chars_of text))) fits ∙ ap (λ (l : List ℕ). okay (values.Chars l)) back

-- what a place does with a constant of this kind that is read as this value
abbrev pub Takes : Expect → Draft → Draft → Value → TokenKind → Type 0
Takes role d next v kind = (text : List ℕ) (place : Place) → reading.constant (sort_of kind text) (seen_at kind text place) ≡ Ok v → act role (seen_at kind text place) d ≡ Ok next

-- a constant, after which reading goes on
pub goes_constant : {qs : List Printed} {role : Expect} {roles back : List Expect} {d e : Draft} (v : Value) (body : List Expect) (next : Draft) → IsConstant v
    → after role sorts.Value ≡ Some body → after role sorts.Int ≡ Some body → after role sorts.Chars ≡ Some body
    → Takes role d next v kinds.Value → Takes role d next v kinds.Int → Takes role d next v kinds.Chars → Goes qs (body ++ roles) next back e
    → Goes (tokens.constant v ∷ qs) (role ∷ roles) d back e
goes_constant (values.Bits bits signed) body next is can_value can_int can_chars value int chars more =
    goes_on body (λ place. next) can_value (λ place. value (bits_text bits signed) place (value_read bits signed place is)) (λ place. more)
goes_constant (values.Int z) body next is can_value can_int can_chars value int chars more =
    goes_on body (λ place. next) can_int
    (λ place. int (signed_decimal z) place (ap (λ (o : Option ℤ). reading.integer o (seen_at kinds.Int (signed_decimal z) place) >>= λ n. Ok (values.Int n)) (integer_back z is))) (λ place. more)
goes_constant (values.Chars text) body next is can_value can_int can_chars value int chars more =
    goes_on body (λ place. next) can_chars (λ place. chars (string_text text) place (string_read text place is.0 is.1)) (λ place. more)

-- ---- attributes

-- a draft in which these attributes wait
abbrev pub waiting : List Attribute → Draft → Draft
waiting remarks d = record d { attributes = record { items = remarks; names = map (λ a. a.name) remarks }; name = [] }

-- one attribute more waits
adds_attribute : (before : List Attribute) (a : Attribute) (after : List Attribute) → AreDistinct (map (λ a. a.name) (before ++ a ∷ after))
    → with_attribute a.name a.value (record { items = before; names = map (λ a. a.name) before }) ≡ record { items = before ++ a ∷ []; names = map (λ a. a.name) (before ++ a ∷ []) }
adds_attribute before a after distinct =
    let names = map (λ (b : Attribute). b.name) before in
    let new = is_new names a.name (not_before names a.name (map (λ b. b.name) after) (subst AreDistinct (map-append (λ (b : Attribute). b.name) before (a ∷ after)) distinct)) in
    let past : nat_lt (length names) (length before) ≡ false = within (length names) (length before) (omega (arith, length-map before (λ (b : Attribute). b.name))) in
    let of : List Attribute → List (List ℕ) → Attributes = λ (items : List Attribute) (ns : List (List ℕ)). record { items = items; names = ns } in
    let put : put_at (length names) a before ≡ before ++ a ∷ [] = ap (λ (b : Bool). if b then slice_set before (length names) a else before ++ a ∷ []) past in
    ap (λ (n : ℕ). of (put_at n a before) (with_name names a.name)) new.next
    ∙ ap (λ (items : List Attribute). of items (with_name names a.name)) put
    ∙ ap (of (before ++ a ∷ [])) (new.added ∙ sym (map-append (λ (b : Attribute). b.name) before (a ∷ [])))

-- the line of an attribute; `next` is expected behind it
goes_attribute : (n : ℕ) (before : List Attribute) (a : Attribute) (after_it : List Attribute) (role next : Expect) (roles tail : List Expect) (d : Draft) → IsAttribute a → AreDistinct (map (λ a. a.name) (before ++ a ∷ after_it))
    → after role sorts.Attribute ≡ Some (expects.AttributeName ∷ next ∷ tail) → ((place : Place) → act role (seen_at kinds.Word (codes "attribute") place) (waiting before d) ≡ Ok (waiting before d))
    → Goes (tokens.attribute n a) (role ∷ roles) (waiting before d) (next ∷ (tail ++ roles)) (waiting (before ++ a ∷ []) d)
unfolding word_sort module_word option_word process_word event_word
goes_attribute n before a after_it role next roles tail d is distinct can does =
    let back : List Expect = next ∷ (tail ++ roles) in
    let named : Draft = record (waiting before d) { name = a.name } in
    let last = waiting (before ++ a ∷ []) d in
    let with_it : Attributes → Draft = λ (s : Attributes). record d { attributes = s; name = [] } in
    let put : (v : Value) → v ≡ a.value → okay (with_it (with_attribute a.name v named.attributes)) ≡ Ok last = λ v e. ap (λ (x : Value). okay (with_it (with_attribute a.name x named.attributes))) e ∙ ap (λ (s : Attributes). okay (with_it s)) (adds_attribute before a after_it distinct) in
    let takes : (kind : TokenKind) → (text : List ℕ) (place : Place) (r : Result Value ReadFault) → r ≡ Ok a.value → (r >>= λ v. okay (with_it (with_attribute a.name v named.attributes))) ≡ Ok last = λ kind text place r e. ap (λ (x : Result Value ReadFault). x >>= λ v. okay (with_it (with_attribute a.name v named.attributes))) e ∙ put a.value refl in
    goes_on (expects.AttributeName ∷ next ∷ tail) (λ place. waiting before d) can does (λ place.
    goes_on (expects.AttributeValue ∷ []) (λ place. named) refl (λ place. refl) (λ place.
    goes_constant a.value (expects.EndOfLine ∷ []) last is.value refl refl refl
    (λ text place e. takes kinds.Value text place _ e) (λ text place e. takes kinds.Int text place _ e) (λ text place e. takes kinds.Chars text place _ e)
    (goes_line [] last refl (λ text place. refl) goes_none)))

-- what holds of each holds of one in the middle
pub all_at : {X : Type 0} (P : X → Type 0) (front : List X) (x : X) (back all : List X) → front ++ x ∷ back ≡ all → All P all → P x
all_at P front x back all e h = middle front (subst (All P) (sym e) h)
  where
    middle : (front : List _) → All P (front ++ x ∷ back) → P x
    middle [] h = All-head P x back h
    middle (y ∷ ys) h = middle ys (All-tail P y (ys ++ x ∷ back) h)

-- where attributes may stand: before an item that is expected here, and behind one another
pub record TakesAttributes (here next : Expect) (tail : List Expect) (d : Draft) : Type 0 where
  pub first : after here sorts.Attribute ≡ Some (expects.AttributeName ∷ next ∷ tail)
  pub later : after next sorts.Attribute ≡ Some (expects.AttributeName ∷ next ∷ [])
  pub keeps_first : (remarks : List Attribute) (place : Place) → act here (seen_at kinds.Word (codes "attribute") place) (waiting remarks d) ≡ Ok (waiting remarks d)
  pub keeps_later : (remarks : List Attribute) (place : Place) → act next (seen_at kinds.Word (codes "attribute") place) (waiting remarks d) ≡ Ok (waiting remarks d)

abbrev names_of : List Attribute → List (List ℕ)
names_of remarks = map (λ a. a.name) remarks

goes_more_attributes : (n : ℕ) (before rest : List Attribute) (here next : Expect) (tail stack : List Expect) (d : Draft) → AreAttributes (before ++ rest) → TakesAttributes here next tail d
    → Goes (tokens.attributes n rest) (next ∷ stack) (waiting before d) (next ∷ stack) (waiting (before ++ rest) d)
goes_more_attributes n before rest here next tail stack d are takes =
    goes_each (tokens.attribute n) (next ∷ stack) (λ remarks. waiting remarks d) before rest (λ front a back e.
    goes_attribute n front a back next next stack [] d (all_at IsAttribute front a back (before ++ rest) e are.each) (subst (λ (l : List Attribute). AreDistinct (names_of l)) (sym e) are.distinct) takes.later (λ place. takes.keeps_later front place))

-- attributes, and the item that they stand before
pub goes_attributes : {qs : List Printed} {back : List Expect} {e : Draft} (n : ℕ) (remarks : List Attribute) (here next : Expect) (tail roles : List Expect) (d : Draft) → AreAttributes remarks → TakesAttributes here next tail d
    → Goes qs (here ∷ roles) (waiting remarks d) back e → Goes qs (next ∷ (tail ++ roles)) (waiting remarks d) back e → Goes (tokens.attributes n remarks ++ qs) (here ∷ roles) (waiting [] d) back e
goes_attributes n [] here next tail roles d are takes bare remarked = bare
goes_attributes {qs = qs} n (a ∷ rest) here next tail roles d are takes bare remarked =
    let one = goes_attribute n [] a rest here next roles tail d (All-head IsAttribute a rest are.each) are.distinct takes.first (λ place. takes.keeps_first [] place) in
    let more = goes_more_attributes n (a ∷ []) rest here next tail (tail ++ roles) d are takes in
    goes_then (tokens.attributes n (a ∷ rest)) qs (goes_then (tokens.attribute n a) (tokens.attributes n rest) one more) remarked
