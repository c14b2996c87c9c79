-- What `clap` reads where words follow the rule of options.
use Rattle.std.proofs.Common.{◌≡◌, ◌∙◌, ℕ, Bool, true, false, cond, refl, sym, ap, ap₂, subst, List, [], ◌∷◌, ◌++◌, Option, Some, None, true≢false, append-nil, length, codes, eqb-true, ltb-true}
use Rattle.std.specs.Prelude.{◌==◌, ◌&&◌, ◌||◌, not, is_some, option_map, option_and_then, find, fold, if◌then◌else◌, nat_lt, unwrap_or, ⊤, slice_get}
use Rattle.std.specs.List.{position_or_len, before_first, after_first}
use Rattle.std.specs.Option.{option_map_or}
use Rattle.std.specs.Str.{bytes_eq}
use Rattle.std.proofs.lemmas.List.Sums.{passes_at_first, split_at_first}
use Rattle.std.proofs.lemmas.Slice.Eq.{bytes_eq-Decides}
use Rattle.clap.specs.Lexer.{long_of, long_of_rest, short_of, short_of_rest, strip_byte}
use Rattle.clap.specs.Values.{bool_text}
use Rattle.clap.specs.Simple.{Shape, built, filled, is_simple, matches_of}
use Rattle.clap.specs.Takes.{bundle_passes, flag_word_passes, settle_passes, step_passes, takes, turn_passes, use_passes, values_pass, walk_passes, word_passes}
use Rattle.clap.specs.Walk.{Held, Row, Rule, Text, Walk, Step, after_step, at_row, default_rows, finished, first_of, has_row, long_or_other, more_values, nothing_held, one_of, option, plain_word, reacted, reading_by, row_text, rows_of, settled, short_or_plain, trailing, used, walk, walk_from, walked, with_default, with_values, without, word_met}
use Rattle.clap.specs.declared.builder.value_parser.Reading.TheVariants.{AsWritten}
use Rattle.clap.specs.declared.parser.matches.ValueSource.{ValueSource}
use Rattle.clap.specs.declared.parser.matches.ValueSource.TheVariants.{CommandLine, DefaultValue}
use Rattle.clap.proofs.TakesLemmas.{leaf_takes}
use Rattle.clap.proofs.WalkLemmas.{first_value-rows, one_text-rows}
use Rattle.clap.specs.Matches.{first_value, one_text}
use Rattle.clap.specs.declared.parser.matches.Found.{Found}
use Rattle.synth_run.specs.Options.{Form, Given, before, form_of, given_by, given_from, holds, holds_by, is_equals, is_value, nothing, nothing_given, one_word, session, value_from, with_session, with_value}
use Rattle.synth_run.specs.declared.options.Name.{Name}
use Rattle.synth_run.specs.declared.options.Name.TheVariants.{Script, Workers, Generate, Desks}
use Rattle.synth_run.specs.Values.{options_app, switch_rule, value_rule}

-- ---- tests

some≢none : {X : Type 0} (x : X) → Some x ≡ None → ⊥
some≢none x e = true≢false (ap (λ o. is_some o) e)

and_true : (a b : Bool) → a ≡ true → b ≡ true → (a && b) ≡ true
and_true a b e f = ap₂ (λ x y. x && y) e f

-- what an answer comes from
then_some : {X Y : Type 0} (f : X → Option Y) (o : Option X) (y : Y) → option_and_then f o ≡ Some y → (x : X) × (o ≡ Some x) × (f x ≡ Some y)
then_some f None y e = absurd (some≢none y (sym e))
then_some f (Some x) y e = (x, refl, e)

-- ---- rows

abbrev row_at : Text → List Row → Option Row
row_at id rows = find (λ r. bytes_eq r.id id) rows

has_row-at : (id : Text) (rows : List Row) → has_row id rows ≡ is_some (row_at id rows)
has_row-at id [] = refl
has_row-at id (r ∷ rs) = go (bytes_eq r.id id) (has_row-at id rs)
  where
    go : (b : Bool) → has_row id rs ≡ is_some (row_at id rs) → (b || has_row id rs) ≡ is_some (cond b (Some r) (row_at id rs))
    go true rest = refl
    go false rest = rest

no_row : (id : Text) (rows : List Row) → row_at id rows ≡ None → has_row id rows ≡ false
no_row id rows e = has_row-at id rows ∙ ap (λ o. is_some o) e

-- where no row has the id, a row of it comes behind the others
behind : (id : Text) (change : Row → List Row) (missing rows : List Row) → row_at id rows ≡ None → at_row id change missing rows ≡ rows ++ missing
behind id change missing [] e = refl
behind id change missing (r ∷ rs) e = go (bytes_eq r.id id) (behind id change missing rs) e
  where
    go : (b : Bool) → (row_at id rs ≡ None → at_row id change missing rs ≡ rs ++ missing) → cond b (Some r) (row_at id rs) ≡ None
        → (if b then change r ++ rs else r ∷ at_row id change missing rs) ≡ r ∷ (rs ++ missing)
    go true rest e = absurd (some≢none r e)
    go false rest e = ap (λ l. r ∷ l) (rest e)

finds_new : (id : Text) (rows : List Row) (new : Row) → row_at id rows ≡ None → bytes_eq new.id id ≡ true → row_at id (rows ++ new ∷ []) ≡ Some new
finds_new id [] new e is = ap (λ b. cond b (Some new) None) is
finds_new id (r ∷ rs) new e is = go (bytes_eq r.id id) (λ none. finds_new id rs new none is) e
  where
    go : (b : Bool) → (row_at id rs ≡ None → row_at id (rs ++ new ∷ []) ≡ Some new) → cond b (Some r) (row_at id rs) ≡ None
        → cond b (Some r) (row_at id (rs ++ new ∷ [])) ≡ Some new
    go true rest e = absurd (some≢none r e)
    go false rest e = rest e

finds_old : (id : Text) (rows : List Row) (new : Row) → bytes_eq new.id id ≡ false → row_at id (rows ++ new ∷ []) ≡ row_at id rows
finds_old id [] new is = ap (λ b. cond b (Some new) None) is
finds_old id (r ∷ rs) new is = ap (λ o. cond (bytes_eq r.id id) (Some r) o) (finds_old id rs new is)

-- the row of an option that was used once
abbrev row_by : ValueSource → Text → Text → Row
row_by source id value = record { id = id; values = value ∷ []; count = None; source = Some source; reading = AsWritten }

first_use : (source : ValueSource) (id value : Text) (rows : List Row) → row_at id rows ≡ None
    → with_values id AsWritten source (value ∷ []) rows ≡ rows ++ row_by source id value ∷ []
first_use source id value rows e = behind id (more_values source (value ∷ [])) (row_by source id value ∷ []) rows e

used_once : (id value : Text) (rows : List Row) → row_at id rows ≡ None
    → with_values id AsWritten CommandLine (value ∷ []) (without id rows) ≡ rows ++ row_by CommandLine id value ∷ []
used_once id value rows e =
    ap (λ l. with_values id AsWritten CommandLine (value ∷ []) l) (behind id (λ _. []) [] rows e ∙ append-nil rows) ∙ first_use CommandLine id value rows e

-- ---- the options and the rows that they give

abbrev text_of : Name → Text
text_of Script = codes "script"
text_of Workers = codes "workers"
text_of Generate = codes "gen"
text_of Desks = codes "desks"

abbrev session_id : Text
session_id = codes "session"

abbrev value_of : Name → Given → Option Text
value_of Script given = given.script
value_of Workers given = given.workers
value_of Generate given = given.generate
value_of Desks given = given.desks

abbrev with_text : Name → Text → Given → Given
with_text Script value given = record given { script = Some value }
with_text Workers value given = record given { workers = Some value }
with_text Generate value given = record given { generate = Some value }
with_text Desks value given = record given { desks = Some value }

abbrev session_row : Bool → Option Row
session_row b = if b then Some (row_by CommandLine session_id (codes "true")) else None

record Holds (given : Given) (rows : List Row) : Type 0 where
  session : row_at session_id rows ≡ session_row given.session
  script : row_at (codes "script") rows ≡ option_map (row_by CommandLine (codes "script")) given.script
  workers : row_at (codes "workers") rows ≡ option_map (row_by CommandLine (codes "workers")) given.workers
  generate : row_at (codes "gen") rows ≡ option_map (row_by CommandLine (codes "gen")) given.generate
  desks : row_at (codes "desks") rows ≡ option_map (row_by CommandLine (codes "desks")) given.desks

holds_value : (name : Name) (given : Given) (rows : List Row) → Holds given rows → row_at (text_of name) rows ≡ option_map (row_by CommandLine (text_of name)) (value_of name given)
holds_value Script given rows h = h.script
holds_value Workers given rows h = h.workers
holds_value Generate given rows h = h.generate
holds_value Desks given rows h = h.desks

holds_session_too : (given : Given) (rows : List Row) → Holds given rows → given.session ≡ false
    → Holds (record given { session = true }) (rows ++ row_by CommandLine session_id (codes "true") ∷ [])
holds_session_too given rows h none = record {
  session = finds_new session_id rows _ (h.session ∙ ap session_row none) refl;
  script = finds_old (codes "script") rows _ refl ∙ h.script;
  workers = finds_old (codes "workers") rows _ refl ∙ h.workers;
  generate = finds_old (codes "gen") rows _ refl ∙ h.generate;
  desks = finds_old (codes "desks") rows _ refl ∙ h.desks;
}

holds_value_too : (name : Name) (value : Text) (given : Given) (rows : List Row) → Holds given rows → value_of name given ≡ None
    → Holds (with_text name value given) (rows ++ row_by CommandLine (text_of name) value ∷ [])
holds_value_too Script value given rows h none = record {
  session = finds_old session_id rows _ refl ∙ h.session;
  script = finds_new (codes "script") rows _ (h.script ∙ ap (option_map (row_by CommandLine (codes "script"))) none) refl;
  workers = finds_old (codes "workers") rows _ refl ∙ h.workers;
  generate = finds_old (codes "gen") rows _ refl ∙ h.generate;
  desks = finds_old (codes "desks") rows _ refl ∙ h.desks;
}
holds_value_too Workers value given rows h none = record {
  session = finds_old session_id rows _ refl ∙ h.session;
  script = finds_old (codes "script") rows _ refl ∙ h.script;
  workers = finds_new (codes "workers") rows _ (h.workers ∙ ap (option_map (row_by CommandLine (codes "workers"))) none) refl;
  generate = finds_old (codes "gen") rows _ refl ∙ h.generate;
  desks = finds_old (codes "desks") rows _ refl ∙ h.desks;
}
holds_value_too Generate value given rows h none = record {
  session = finds_old session_id rows _ refl ∙ h.session;
  script = finds_old (codes "script") rows _ refl ∙ h.script;
  workers = finds_old (codes "workers") rows _ refl ∙ h.workers;
  generate = finds_new (codes "gen") rows _ (h.generate ∙ ap (option_map (row_by CommandLine (codes "gen"))) none) refl;
  desks = finds_old (codes "desks") rows _ refl ∙ h.desks;
}
holds_value_too Desks value given rows h none = record {
  session = finds_old session_id rows _ refl ∙ h.session;
  script = finds_old (codes "script") rows _ refl ∙ h.script;
  workers = finds_old (codes "workers") rows _ refl ∙ h.workers;
  generate = finds_old (codes "gen") rows _ refl ∙ h.generate;
  desks = finds_new (codes "desks") rows _ (h.desks ∙ ap (option_map (row_by CommandLine (codes "desks"))) none) refl;
}

-- what one more option asks of those before it
some_is : {X : Type 0} (x y : X) → Some x ≡ Some y → x ≡ y
some_is x y e = ap (λ o. unwrap_or o x) e

asks_no : (b : Bool) (new more : Given) → (if b then None else Some new) ≡ Some more → (b ≡ false) × (more ≡ new)
asks_no true new more e = absurd (some≢none more (sym e))
asks_no false new more e = (refl, sym (some_is new more e))

session_asks : (given more : Given) → with_session given ≡ Some more → (given.session ≡ false) × (more ≡ record given { session = true })
session_asks given more e = asks_no given.session (record given { session = true }) more e

asks_none : (b : Bool) (o : Option Text) (new more : Given) → (if b && not (is_some o) then Some new else None) ≡ Some more
    → (b ≡ true) × (o ≡ None) × (more ≡ new)
asks_none true None new more e = (refl, refl, sym (some_is new more e))
asks_none true (Some text) new more e = absurd (some≢none more (sym e))
asks_none false o new more e = absurd (some≢none more (sym e))

value_asks : (name : Name) (value : Text) (given more : Given) → with_value name value given ≡ Some more
    → (is_value value ≡ true) × (value_of name given ≡ None) × (more ≡ with_text name value given)
value_asks Script value given more e = asks_none (is_value value) given.script (record given { script = Some value }) more e
value_asks Workers value given more e = asks_none (is_value value) given.workers (record given { workers = Some value }) more e
value_asks Generate value given more e = asks_none (is_value value) given.generate (record given { generate = Some value }) more e
value_asks Desks value given more e = asks_none (is_value value) given.desks (record given { desks = Some value }) more e

-- ---- words

-- a value is no flag
plain_value : (value : Text) → is_value value ≡ true → (bytes_eq value (45 ∷ 45 ∷ []) ≡ false) × (long_of value ≡ None) × (short_of value ≡ None)
plain_value [] e = absurd (true≢false (sym e))
plain_value (byte ∷ bytes) e = go (byte == 45) e
  where
    go : (b : Bool) → not b ≡ true
        → ((b && bytes_eq bytes (45 ∷ [])) ≡ false)
        × (option_and_then long_of_rest (option_and_then (strip_byte 45) (if b then Some bytes else None)) ≡ None)
        × (option_and_then short_of_rest (if b then Some bytes else None) ≡ None)
    go true e = absurd (true≢false (sym e))
    go false e = (refl, refl, refl)

abbrev dashed : Name → Text
dashed Script = codes "--script"
dashed Workers = codes "--workers"
dashed Generate = codes "--gen"
dashed Desks = codes "--desks"

-- the word of a form
abbrev Spells : Text → Form → Type 0
Spells word session = word ≡ codes "--session"
Spells word (before name) = word ≡ dashed name
Spells word (holds name value) = word ≡ dashed name ++ 61 ∷ value
Spells word nothing = ⊤

split_equals : (word : Text) → nat_lt (position_or_len is_equals word) (length word) ≡ true → word ≡ before_first is_equals word ++ 61 ∷ after_first is_equals word
split_equals word e =
    let lt = ltb-true (position_or_len is_equals word) (length word) e in
    let is = eqb-true _ 61 (passes_at_first is_equals word 0 lt) in
    split_at_first is_equals word 0 lt ∙ ap (λ (byte : ℕ). before_first is_equals word ++ byte ∷ after_first is_equals word) is

spelled_by : (word name value : Text) → word ≡ name ++ 61 ∷ value → Spells word (holds_by name value)
spelled_by word name value e = first (bytes_eq name (codes "--script")) refl
  where
    is : (text : Text) → bytes_eq name text ≡ true → word ≡ text ++ 61 ∷ value
    is text same = e ∙ ap (λ (t : Text). t ++ 61 ∷ value) ((bytes_eq-Decides name text).0 same)

    fourth : (b : Bool) → bytes_eq name (codes "--desks") ≡ b → Spells word (if b then holds Desks value else nothing)
    fourth true same = is (codes "--desks") same
    fourth false same = tt

    third : (b : Bool) → bytes_eq name (codes "--gen") ≡ b
        → Spells word (if b then holds Generate value else if bytes_eq name (codes "--desks") then holds Desks value else nothing)
    third true same = is (codes "--gen") same
    third false same = fourth (bytes_eq name (codes "--desks")) refl

    second : (b : Bool) → bytes_eq name (codes "--workers") ≡ b
        → Spells word (if b then holds Workers value else if bytes_eq name (codes "--gen") then holds Generate value
        else if bytes_eq name (codes "--desks") then holds Desks value else nothing)
    second true same = is (codes "--workers") same
    second false same = third (bytes_eq name (codes "--gen")) refl

    first : (b : Bool) → bytes_eq name (codes "--script") ≡ b
        → Spells word (if b then holds Script value else if bytes_eq name (codes "--workers") then holds Workers value
        else if bytes_eq name (codes "--gen") then holds Generate value else if bytes_eq name (codes "--desks") then holds Desks value else nothing)
    first true same = is (codes "--script") same
    first false same = second (bytes_eq name (codes "--workers")) refl

spelled_one : (word : Text) → Spells word (one_word word)
spelled_one word = go (nat_lt (position_or_len is_equals word) (length word)) refl
  where
    go : (b : Bool) → nat_lt (position_or_len is_equals word) (length word) ≡ b
        → Spells word (if b then holds_by (before_first is_equals word) (after_first is_equals word) else nothing)
    go true e = spelled_by word _ _ (split_equals word e)
    go false e = tt

spelled : (word : Text) → Spells word (form_of word)
spelled word = first (bytes_eq word (codes "--session")) refl
  where
    fifth : (b : Bool) → bytes_eq word (codes "--desks") ≡ b → Spells word (if b then before Desks else one_word word)
    fifth true same = (bytes_eq-Decides word (codes "--desks")).0 same
    fifth false same = spelled_one word

    fourth : (b : Bool) → bytes_eq word (codes "--gen") ≡ b
        → Spells word (if b then before Generate else if bytes_eq word (codes "--desks") then before Desks else one_word word)
    fourth true same = (bytes_eq-Decides word (codes "--gen")).0 same
    fourth false same = fifth (bytes_eq word (codes "--desks")) refl

    third : (b : Bool) → bytes_eq word (codes "--workers") ≡ b
        → Spells word (if b then before Workers else if bytes_eq word (codes "--gen") then before Generate else if bytes_eq word (codes "--desks") then before Desks else one_word word)
    third true same = (bytes_eq-Decides word (codes "--workers")).0 same
    third false same = fourth (bytes_eq word (codes "--gen")) refl

    second : (b : Bool) → bytes_eq word (codes "--script") ≡ b
        → Spells word (if b then before Script else if bytes_eq word (codes "--workers") then before Workers
        else if bytes_eq word (codes "--gen") then before Generate else if bytes_eq word (codes "--desks") then before Desks else one_word word)
    second true same = (bytes_eq-Decides word (codes "--script")).0 same
    second false same = third (bytes_eq word (codes "--workers")) refl

    first : (b : Bool) → bytes_eq word (codes "--session") ≡ b
        → Spells word (if b then session else if bytes_eq word (codes "--script") then before Script else if bytes_eq word (codes "--workers") then before Workers
        else if bytes_eq word (codes "--gen") then before Generate else if bytes_eq word (codes "--desks") then before Desks else one_word word)
    first true same = (bytes_eq-Decides word (codes "--session")).0 same
    first false same = second (bytes_eq word (codes "--script")) refl

-- ---- the command

abbrev shape : Shape
shape = (built options_app).top

abbrev known : List Rule
known = shape.rules

abbrev session_rule : Rule
session_rule = filled (switch_rule session_id)

abbrev rule_by : Name → Rule
rule_by name = filled (value_rule (text_of name))

pub is_simple_app : is_simple options_app ≡ true
is_simple_app = refl

-- ---- one use

session_use : (rows : List Row) → row_at session_id rows ≡ None → use_passes false session_rule [] rows ≡ true
session_use rows none = ap (λ b. (not b || false) && values_pass session_rule (codes "true" ∷ [])) (no_row session_id rows none)

session_used : (rows : List Row) → row_at session_id rows ≡ None → used session_rule [] rows ≡ rows ++ row_by CommandLine session_id (codes "true") ∷ []
session_used rows none = used_once session_id (codes "true") rows none

value_use : (name : Name) (value : Text) (rows : List Row) → row_at (text_of name) rows ≡ None → use_passes false (rule_by name) (value ∷ []) rows ≡ true
value_use Script value rows none = ap (λ b. (not b || false) && values_pass (rule_by Script) (value ∷ [])) (no_row (codes "script") rows none)
value_use Workers value rows none = ap (λ b. (not b || false) && values_pass (rule_by Workers) (value ∷ [])) (no_row (codes "workers") rows none)
value_use Generate value rows none = ap (λ b. (not b || false) && values_pass (rule_by Generate) (value ∷ [])) (no_row (codes "gen") rows none)
value_use Desks value rows none = ap (λ b. (not b || false) && values_pass (rule_by Desks) (value ∷ [])) (no_row (codes "desks") rows none)

value_used : (name : Name) (value : Text) (rows : List Row) → row_at (text_of name) rows ≡ None
    → used (rule_by name) (value ∷ []) rows ≡ rows ++ row_by CommandLine (text_of name) value ∷ []
value_used Script value rows none = used_once (codes "script") value rows none
value_used Workers value rows none = used_once (codes "workers") value rows none
value_used Generate value rows none = used_once (codes "gen") value rows none
value_used Desks value rows none = used_once (codes "desks") value rows none

-- ---- one word

-- the walk where the value of an option is the next word
abbrev waiting_at : Name → Held → Walk
waiting_at name h = record {
  held = record (settled known h) { pending = Some (text_of name, []) };
  waiting = option (text_of name);
  position = 1;
  is_trailing = false;
  stopped = None;
}

-- what is held once that word has come
abbrev held_with : Name → Text → Held → Held
held_with name value h = record (settled known h) { pending = Some (text_of name, value ∷ []) }

session_walked : (h : Held) → walked known [] (walk_from h) (codes "--session") ≡ walk_from (reacted known session_rule [] h)
unfolding walked
session_walked h = refl

session_turn : (h : Held) → settle_passes known false h ≡ true → row_at session_id (settled known h).rows ≡ None
    → turn_passes shape [] (walk_from h) (codes "--session") ≡ true
session_turn h settles none = and_true (settle_passes known false h && use_passes false session_rule [] (settled known h).rows) true
    (and_true (settle_passes known false h) _ settles (session_use (settled known h).rows none)) refl

attached_walked : (name : Name) (value : Text) (h : Held) → walked known [] (walk_from h) (dashed name ++ 61 ∷ value) ≡ walk_from (reacted known (rule_by name) (value ∷ []) h)
unfolding walked
attached_walked Script value h = refl
attached_walked Workers value h = refl
attached_walked Generate value h = refl
attached_walked Desks value h = refl

attached_turn : (name : Name) (value : Text) (h : Held) → settle_passes known false h ≡ true → row_at (text_of name) (settled known h).rows ≡ None
    → turn_passes shape [] (walk_from h) (dashed name ++ 61 ∷ value) ≡ true
attached_turn Script value h settles none = and_true (settle_passes known false h && use_passes false (rule_by Script) (value ∷ []) (settled known h).rows) true
    (and_true (settle_passes known false h) _ settles (value_use Script value (settled known h).rows none)) refl
attached_turn Workers value h settles none = and_true (settle_passes known false h && use_passes false (rule_by Workers) (value ∷ []) (settled known h).rows) true
    (and_true (settle_passes known false h) _ settles (value_use Workers value (settled known h).rows none)) refl
attached_turn Generate value h settles none = and_true (settle_passes known false h && use_passes false (rule_by Generate) (value ∷ []) (settled known h).rows) true
    (and_true (settle_passes known false h) _ settles (value_use Generate value (settled known h).rows none)) refl
attached_turn Desks value h settles none = and_true (settle_passes known false h && use_passes false (rule_by Desks) (value ∷ []) (settled known h).rows) true
    (and_true (settle_passes known false h) _ settles (value_use Desks value (settled known h).rows none)) refl

apart_walked : (name : Name) (h : Held) → walked known [] (walk_from h) (dashed name) ≡ waiting_at name h
unfolding walked
apart_walked Script h = refl
apart_walked Workers h = refl
apart_walked Generate h = refl
apart_walked Desks h = refl

apart_turn : (name : Name) (h : Held) → settle_passes known false h ≡ true → turn_passes shape [] (walk_from h) (dashed name) ≡ true
apart_turn Script h settles = and_true (settle_passes known false h) true settles refl
apart_turn Workers h settles = and_true (settle_passes known false h) true settles refl
apart_turn Generate h settles = and_true (settle_passes known false h) true settles refl
apart_turn Desks h settles = and_true (settle_passes known false h) true settles refl

-- a value goes to the option that waits for it
value_met : (id value : Text) (h : Held) → is_value value ≡ true → word_met known [] false (option id) 1 value h ≡ plain_word known (option id) value h
value_met id value h is =
    let plain = plain_value value is in
    ap (λ b. if b then (h, trailing 1) else long_or_other known (option id) value (long_of value) h) plain.0
    ∙ ap (λ o. long_or_other known (option id) value o h) plain.1
    ∙ ap (λ o. short_or_plain known (option id) value o h) plain.2

value_walked : (name : Name) (value : Text) (h : Held) → is_value value ≡ true → walked known [] (waiting_at name h) value ≡ walk_from (held_with name value h)
unfolding walked
value_walked Script value h is = ap (λ (met : Held × Step). after_step known value (waiting_at Script h) met.0 met.1) (value_met (codes "script") value (waiting_at Script h).held is)
value_walked Workers value h is = ap (λ (met : Held × Step). after_step known value (waiting_at Workers h) met.0 met.1) (value_met (codes "workers") value (waiting_at Workers h).held is)
value_walked Generate value h is = ap (λ (met : Held × Step). after_step known value (waiting_at Generate h) met.0 met.1) (value_met (codes "gen") value (waiting_at Generate h).held is)
value_walked Desks value h is = ap (λ (met : Held × Step). after_step known value (waiting_at Desks h) met.0 met.1) (value_met (codes "desks") value (waiting_at Desks h).held is)

value_passes_word : (s : Shape) (id value : Text) (h : Held) → is_value value ≡ true → word_passes s [] false (option id) value h ≡ true
value_passes_word s id value h is =
    let plain = plain_value value is in
    ap (λ b. b || flag_word_passes s.rules s.args_override_self (long_of value) value h) plain.0
    ∙ ap (λ o. flag_word_passes s.rules s.args_override_self o value h) plain.1
    ∙ ap (λ o. option_map_or (λ flags. bundle_passes s.rules s.args_override_self flags h) o true) plain.2

value_turn : (name : Name) (value : Text) (h : Held) → is_value value ≡ true → turn_passes shape [] (waiting_at name h) value ≡ true
value_turn Script value h is = and_true _ _ (value_passes_word shape (codes "script") value (waiting_at Script h).held is)
    (ap (λ (met : Held × Step). step_passes shape 1 met.0 met.1) (value_met (codes "script") value (waiting_at Script h).held is))
value_turn Workers value h is = and_true _ _ (value_passes_word shape (codes "workers") value (waiting_at Workers h).held is)
    (ap (λ (met : Held × Step). step_passes shape 1 met.0 met.1) (value_met (codes "workers") value (waiting_at Workers h).held is))
value_turn Generate value h is = and_true _ _ (value_passes_word shape (codes "gen") value (waiting_at Generate h).held is)
    (ap (λ (met : Held × Step). step_passes shape 1 met.0 met.1) (value_met (codes "gen") value (waiting_at Generate h).held is))
value_turn Desks value h is = and_true _ _ (value_passes_word shape (codes "desks") value (waiting_at Desks h).held is)
    (ap (λ (met : Held × Step). step_passes shape 1 met.0 met.1) (value_met (codes "desks") value (waiting_at Desks h).held is))

-- ---- the words in turn

-- what is held between two options, and what it comes to
record Stands (given : Given) (h : Held) : Type 0 where
  settles : settle_passes known false h ≡ true
  rows : Holds given (settled known h).rows

stands_with : (given : Given) (h : Held) (rows : List Row) → settle_passes known false h ≡ true → (settled known h).rows ≡ rows → Holds given rows → Stands given h
stands_with given h rows settles is held = record { settles = settles; rows = subst (λ (l : List Row). Holds given l) (sym is) held }

record Reads (words : List Text) (w : Walk) (end : Given) : Type 0 where
  passes : walk_passes shape [] w words ≡ true
  unstopped : (fold (walked known []) w words).stopped ≡ None
  stands : Stands end (fold (walked known []) w words).held

reads_nothing : (given : Given) (h : Held) → Stands given h → Reads [] (walk_from h) given
unfolding walk_passes
reads_nothing given h stands = record { passes = refl; unstopped = refl; stands = stands }

reads_word : (word : Text) (words : List Text) (w after : Walk) (end : Given) → walked known [] w word ≡ after → turn_passes shape [] w word ≡ true → Reads words after end
    → Reads (word ∷ words) w end
unfolding walk_passes
reads_word word words w after end is turn reads =
    let next = subst (λ (v : Walk). Reads words v end) (sym is) reads in
    record { passes = and_true _ _ turn next.passes; unstopped = next.unstopped; stands = next.stands }

abbrev Goes : List Text → Type 0
Goes words = (given end : Given) (h : Held) → Stands given h → given_from given words ≡ Some end → Reads words (walk_from h) end

abbrev GoesBy : List Text → Type 0
GoesBy words = (name : Name) (given end : Given) (h : Held) → Stands given h → value_from name given words ≡ Some end → Reads words (waiting_at name h) end

-- `--session`
goes_session : (words : List Text) → Goes words → (given end : Given) (h : Held) → Stands given h
    → option_and_then (λ g. given_from g words) (with_session given) ≡ Some end → Reads (codes "--session" ∷ words) (walk_from h) end
goes_session words goes given end h stands e =
    let by = then_some (λ g. given_from g words) (with_session given) end e in
    let asks = session_asks given by.0 by.1 in
    let none = stands.rows.session ∙ ap session_row asks.0 in
    let after = stands_with (record given { session = true }) (reacted known session_rule [] h) _ refl (session_used (settled known h).rows none)
    (holds_session_too given (settled known h).rows stands.rows asks.0) in
    reads_word (codes "--session") words (walk_from h) (walk_from (reacted known session_rule [] h)) end (session_walked h) (session_turn h stands.settles none)
    (goes (record given { session = true }) end (reacted known session_rule [] h) after (ap (λ (g : Given). given_from g words) (sym asks.1) ∙ by.2))

-- the rows have none of an option that was not given
no_value : (name : Name) (given : Given) (h : Held) → Stands given h → value_of name given ≡ None → row_at (text_of name) (settled known h).rows ≡ None
no_value name given h stands none = holds_value name given (settled known h).rows stands.rows ∙ ap (option_map (row_by CommandLine (text_of name))) none

-- an option and its value in one word
attached_stands : (name : Name) (value : Text) (given : Given) (h : Held) → Stands given h → value_of name given ≡ None
    → Stands (with_text name value given) (reacted known (rule_by name) (value ∷ []) h)
attached_stands name value given h stands none =
    stands_with (with_text name value given) (reacted known (rule_by name) (value ∷ []) h) _ refl (value_used name value (settled known h).rows (no_value name given h stands none))
    (holds_value_too name value given (settled known h).rows stands.rows none)

goes_attached : (name : Name) (value : Text) (words : List Text) → Goes words → (given end : Given) (h : Held) → Stands given h
    → option_and_then (λ g. given_from g words) (with_value name value given) ≡ Some end → Reads ((dashed name ++ 61 ∷ value) ∷ words) (walk_from h) end
goes_attached name value words goes given end h stands e =
    let by = then_some (λ g. given_from g words) (with_value name value given) end e in
    let asks = value_asks name value given by.0 by.1 in
    reads_word (dashed name ++ 61 ∷ value) words (walk_from h) (walk_from (reacted known (rule_by name) (value ∷ []) h)) end (attached_walked name value h)
    (attached_turn name value h stands.settles (no_value name given h stands asks.1))
    (goes (with_text name value given) end (reacted known (rule_by name) (value ∷ []) h) (attached_stands name value given h stands asks.1)
    (ap (λ (g : Given). given_from g words) (sym asks.2) ∙ by.2))

-- an option whose value is the next word
apart_stands : (name : Name) (value : Text) (given : Given) (h : Held) → Stands given h → value_of name given ≡ None → Stands (with_text name value given) (held_with name value h)
apart_stands Script value given h stands none =
    let no = no_value Script given h stands none in
    stands_with (with_text Script value given) (held_with Script value h) _ (value_use Script value (settled known h).rows no) (value_used Script value (settled known h).rows no)
    (holds_value_too Script value given (settled known h).rows stands.rows none)
apart_stands Workers value given h stands none =
    let no = no_value Workers given h stands none in
    stands_with (with_text Workers value given) (held_with Workers value h) _ (value_use Workers value (settled known h).rows no) (value_used Workers value (settled known h).rows no)
    (holds_value_too Workers value given (settled known h).rows stands.rows none)
apart_stands Generate value given h stands none =
    let no = no_value Generate given h stands none in
    stands_with (with_text Generate value given) (held_with Generate value h) _ (value_use Generate value (settled known h).rows no) (value_used Generate value (settled known h).rows no)
    (holds_value_too Generate value given (settled known h).rows stands.rows none)
apart_stands Desks value given h stands none =
    let no = no_value Desks given h stands none in
    stands_with (with_text Desks value given) (held_with Desks value h) _ (value_use Desks value (settled known h).rows no) (value_used Desks value (settled known h).rows no)
    (holds_value_too Desks value given (settled known h).rows stands.rows none)

goes_by : (value : Text) (words : List Text) → Goes words → GoesBy (value ∷ words)
goes_by value words goes name given end h stands e =
    let by = then_some (λ g. given_from g words) (with_value name value given) end e in
    let asks = value_asks name value given by.0 by.1 in
    reads_word value words (waiting_at name h) (walk_from (held_with name value h)) end (value_walked name value h asks.0) (value_turn name value h asks.0)
    (goes (with_text name value given) end (held_with name value h) (apart_stands name value given h stands asks.1) (ap (λ (g : Given). given_from g words) (sym asks.2) ∙ by.2))

goes_form : (form : Form) (word : Text) (words : List Text) → Goes words → GoesBy words → Spells word form → (given end : Given) (h : Held) → Stands given h
    → given_by form given (λ g. given_from g words) (λ name. value_from name given words) ≡ Some end → Reads (word ∷ words) (walk_from h) end
goes_form session word words goes goes_next is given end h stands e =
    subst (λ (w : Text). Reads (w ∷ words) (walk_from h) end) (sym is) (goes_session words goes given end h stands e)
goes_form (holds name value) word words goes goes_next is given end h stands e =
    subst (λ (w : Text). Reads (w ∷ words) (walk_from h) end) (sym is) (goes_attached name value words goes given end h stands e)
goes_form (before name) word words goes goes_next is given end h stands e =
    subst (λ (w : Text). Reads (w ∷ words) (walk_from h) end) (sym is)
    (reads_word (dashed name) words (walk_from h) (waiting_at name h) end (apart_walked name h) (apart_turn name h stands.settles) (goes_next name given end h stands e))
goes_form nothing word words goes goes_next is given end h stands e = absurd (some≢none end (sym e))

all_go : (words : List Text) → Goes words × GoesBy words
all_go [] = (
  λ given end h stands e. subst (λ (g : Given). Reads [] (walk_from h) g) (some_is given end e) (reads_nothing given h stands),
  λ name given end h stands e. absurd (some≢none end (sym e)),
)
all_go (word ∷ words) =
    let more = all_go words in (
      λ given end h stands e. goes_form (form_of word) word words more.0 more.1 (spelled word) given end h stands e,
      goes_by word words more.0,
    )

-- ---- the matches

nothing_stands : Stands nothing_given nothing_held
nothing_stands = record { settles = refl; rows = record { session = refl; script = refl; workers = refl; generate = refl; desks = refl } }

reads_all : (words : List Text) (given : Given) → given_from nothing_given words ≡ Some given → Reads words (walk_from nothing_held) given
reads_all words given e = (all_go words).0 nothing_given given nothing_held nothing_stands e

options_in : (o : Option Given) → is_some o ≡ true → (given : Given) × (o ≡ Some given)
options_in None e = absurd (true≢false (sym e))
options_in (Some given) e = (given, refl)

-- only want of memory refuses the words
pub words_taken : (words : List Text) → is_some (given_from nothing_given words) ≡ true → takes options_app words ≡ true
words_taken words meant =
    let by = options_in (given_from nothing_given words) meant in
    let reads = reads_all words by.0 by.1 in
    leaf_takes (built options_app) nothing_held words refl (and_true _ _ reads.passes (and_true _ _ reads.stands.settles refl))

no_default : (rule : Rule) (rows : List Row) → rule.defaults ≡ [] → with_default rows rule ≡ rows
no_default rule rows none = go (has_row rule.id rows)
  where
    go : (b : Bool) → (if b then rows else default_rows rule.id (reading_by rule) rule.defaults rows) ≡ rows
    go true = refl
    go false = ap (λ l. default_rows rule.id (reading_by rule) l rows) none

-- the rows with the default of `--session`, where that was not given
abbrev with_session_row : Bool → List Row → List Row
with_session_row b rows = if b then rows else rows ++ row_by DefaultValue session_id (codes "false") ∷ []

finished_rows : (given : Given) (h : Held) → Stands given h → finished known h ≡ with_session_row given.session (settled known h).rows
finished_rows given h stands =
    no_default (rule_by Desks)
    (with_default (with_default (with_default (with_default (settled known h).rows session_rule) (rule_by Script)) (rule_by Workers)) (rule_by Generate)) refl
    ∙ no_default (rule_by Generate) (with_default (with_default (with_default (settled known h).rows session_rule) (rule_by Script)) (rule_by Workers)) refl
    ∙ no_default (rule_by Workers) (with_default (with_default (settled known h).rows session_rule) (rule_by Script)) refl
    ∙ no_default (rule_by Script) (with_default (settled known h).rows session_rule) refl ∙ go given.session refl
  where
    rows : List Row
    rows = (settled known h).rows

    is : (b : Bool) → given.session ≡ b → row_at session_id rows ≡ session_row b
    is b e = stands.rows.session ∙ ap session_row e

    go : (b : Bool) → given.session ≡ b → with_default rows session_rule ≡ with_session_row given.session rows
    go true e = ap (λ t. if t then rows else with_values session_id AsWritten DefaultValue (codes "false" ∷ []) rows) (has_row-at session_id rows ∙ ap (λ o. is_some o) (is true e))
        ∙ ap (λ t. with_session_row t rows) (sym e)
    go false e = ap (λ t. if t then rows else with_values session_id AsWritten DefaultValue (codes "false" ∷ []) rows) (no_row session_id rows (is false e))
        ∙ first_use DefaultValue session_id (codes "false") rows (is false e) ∙ ap (λ t. with_session_row t rows) (sym e)

matched : (words : List Text) (given : Given) (e : given_from nothing_given words ≡ Some given)
    → matches_of options_app words ≡ with_session_row given.session (settled known (walk known [] nothing_held words).held).rows
matched words given e = finished_rows given (walk known [] nothing_held words).held (reads_all words given e).stands

-- the option `--session`
session_read : (words : List Text) (given : Given) → given_from nothing_given words ≡ Some given
    → one_of session_id (matches_of options_app words) ≡ Some (bool_text given.session)
session_read words given e = ap (one_of session_id) (matched words given e) ∙ go given.session refl
  where
    rows : List Row
    rows = (settled known (walk known [] nothing_held words).held).rows

    is : (b : Bool) → given.session ≡ b → row_at session_id rows ≡ session_row b
    is b e2 = (reads_all words given e).stands.rows.session ∙ ap session_row e2

    go : (b : Bool) → given.session ≡ b → one_of session_id (with_session_row b rows) ≡ Some (bool_text b)
    go true e2 = ap (option_and_then row_text) (is true e2)
    go false e2 = ap (option_and_then row_text) (finds_new session_id rows (row_by DefaultValue session_id (codes "false")) (is false e2) refl)

-- an option that has a value
first_of_row : (id : Text) (value : Option Text) (rows : List Row) → row_at id rows ≡ option_map (row_by CommandLine id) value → first_of id rows ≡ value
first_of_row id value rows e = ap (option_and_then (λ (r : Row). slice_get r.values 0)) e ∙ go value
  where
    go : (o : Option Text) → option_and_then (λ (r : Row). slice_get r.values 0) (option_map (row_by CommandLine id) o) ≡ o
    go None = refl
    go (Some text) = refl

not_session : (name : Name) → bytes_eq session_id (text_of name) ≡ false
not_session Script = refl
not_session Workers = refl
not_session Generate = refl
not_session Desks = refl

value_read : (name : Name) (words : List Text) (given : Given) → given_from nothing_given words ≡ Some given
    → first_of (text_of name) (matches_of options_app words) ≡ value_of name given
value_read name words given e = ap (first_of (text_of name)) (matched words given e) ∙ go given.session
  where
    rows : List Row
    rows = (settled known (walk known [] nothing_held words).held).rows

    is : row_at (text_of name) rows ≡ option_map (row_by CommandLine (text_of name)) (value_of name given)
    is = holds_value name given rows (reads_all words given e).stands.rows

    go : (b : Bool) → first_of (text_of name) (with_session_row b rows) ≡ value_of name given
    go true = first_of_row (text_of name) (value_of name given) rows is
    go false = first_of_row (text_of name) (value_of name given) (rows ++ row_by DefaultValue session_id (codes "false") ∷ [])
        (finds_old (text_of name) rows (row_by DefaultValue session_id (codes "false")) (not_session name) ∙ is)

-- what the getters give of the matches
abbrev AsFlag : Found → Bool → Type 0
AsFlag found b = (one_text found session_id ≡ Some (codes "true") → b ≡ true) × (one_text found session_id ≡ Some (codes "false") → b ≡ false)

as_flag : (found : Found) (b wanted : Bool) → AsFlag found b → one_text found session_id ≡ Some (bool_text wanted) → b ≡ wanted
as_flag found b true flag e = flag.0 e
as_flag found b false flag e = flag.1 e

pub options_read : (words : List Text) (found : Found) (b : Bool) (script workers generate desks : Option Text) → is_some (given_from nothing_given words) ≡ true
    → rows_of found ≡ matches_of options_app words → AsFlag found b → script ≡ first_value found (codes "script") → workers ≡ first_value found (codes "workers")
    → generate ≡ first_value found (codes "gen") → desks ≡ first_value found (codes "desks")
    → given_from nothing_given words ≡ Some (record { session = b; script = script; workers = workers; generate = generate; desks = desks })
options_read words found b script workers generate desks meant rows flag script_is workers_is generate_is desks_is =
    let by = options_in (given_from nothing_given words) meant in
    let given = by.0 in
    let flag_is : b ≡ given.session = as_flag found b given.session flag
    (one_text-rows found session_id ∙ ap (one_of session_id) rows ∙ session_read words given by.1) in
    let text_is = λ (name : Name). first_value-rows found (text_of name) ∙ ap (first_of (text_of name)) rows ∙ value_read name words given by.1 in
    by.1 ∙ ap Some (same given b script workers generate desks flag_is (script_is ∙ text_is Script) (workers_is ∙ text_is Workers) (generate_is ∙ text_is Generate) (desks_is ∙ text_is Desks))
  where
    same : (given : Given) (b : Bool) (script workers generate desks : Option Text) → b ≡ given.session → script ≡ given.script → workers ≡ given.workers → generate ≡ given.generate → desks ≡ given.desks
        → given ≡ record { session = b; script = script; workers = workers; generate = generate; desks = desks }
    same given b script workers generate desks e f g h k = λ i. record { session = sym e i; script = sym f i; workers = sym g i; generate = sym h i; desks = sym k i }
