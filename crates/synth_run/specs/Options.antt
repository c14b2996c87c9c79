-- The options that the words of a call give.
use Rattle.std.specs.Prelude.{ℕ, ◌==◌, ◌&&◌, Bool, true, false, not, List, [], ◌∷◌, codes, length, nat_lt, Option, Some, None, is_some, option_and_then, if◌then◌else◌}
use Rattle.std.specs.List.{after_first, before_first, position_or_len}
use Rattle.std.specs.Str.{bytes_eq}
use Rattle.synth_run.specs.declared.options.Name.{Name}
use Rattle.synth_run.specs.declared.options.Name.TheVariants.{Script, Workers, Generate, Desks}

-- the options of a call: whether it is a session, and the values of those that have one
pub record Given : Type 0 where
  pub session : Bool
  pub script : Option (List ℕ)
  pub workers : Option (List ℕ)
  pub generate : Option (List ℕ)
  pub desks : Option (List ℕ)

abbrev pub nothing_given : Given
nothing_given = record { session = false; script = None; workers = None; generate = None; desks = None }

-- a value is not empty and does not begin with `-`
abbrev pub is_value : List ℕ → Bool
is_value [] = false
is_value (byte ∷ bytes) = not (byte == 45)

-- one option more, which was not given before
abbrev pub with_session : Given → Option Given
with_session given = if given.session then None else Some (record given { session = true })

abbrev pub with_value : Name → List ℕ → Given → Option Given
with_value Script value given =
    if is_value value && not (is_some given.script) then Some (record given { script = Some value }) else None
with_value Workers value given =
    if is_value value && not (is_some given.workers) then Some (record given { workers = Some value }) else None
with_value Generate value given =
    if is_value value && not (is_some given.generate) then Some (record given { generate = Some value }) else None
with_value Desks value given =
    if is_value value && not (is_some given.desks) then Some (record given { desks = Some value }) else None

-- what a word of a call is: `--session`, an option whose value is the next word, an option with its value, or nothing
pub data Form : Type 0 where
  session : Form
  before : Name → Form
  holds : Name → List ℕ → Form
  nothing : Form

-- a byte is `=`
abbrev pub is_equals : ℕ → Bool
is_equals byte = byte == 61

-- an option of this name with its value
abbrev pub holds_by : List ℕ → List ℕ → Form
holds_by name value =
    if bytes_eq name (codes "--script") then holds Script value
    else if bytes_eq name (codes "--workers") then holds Workers value
    else if bytes_eq name (codes "--gen") then holds Generate value
    else if bytes_eq name (codes "--desks") then holds Desks value
    else nothing

-- an option with its value in one word: they stand before and after the first `=`
abbrev pub one_word : List ℕ → Form
one_word word =
    if nat_lt (position_or_len is_equals word) (length word)
    then holds_by (before_first is_equals word) (after_first is_equals word) else nothing

abbrev pub form_of : List ℕ → Form
form_of word =
    if bytes_eq word (codes "--session") then session
    else if bytes_eq word (codes "--script") then before Script
    else if bytes_eq word (codes "--workers") then before Workers
    else if bytes_eq word (codes "--gen") then before Generate
    else if bytes_eq word (codes "--desks") then before Desks
    else one_word word

-- the options after a word of this form: `more` takes the words after it, and `value` the value of an option before them
abbrev pub given_by : Form → Given → (Given → Option Given) → (Name → Option Given) → Option Given
given_by session given more value = option_and_then more (with_session given)
given_by (holds name text) given more value = option_and_then more (with_value name text given)
given_by (before name) given more value = value name
given_by nothing given more value = None

abbrev mutual
  -- the options of words, with those that were given before them; None where a word is no option, or an option is given twice
  pub given_from : Given → List (List ℕ) → Option Given
  given_from given [] = Some given
  given_from given (word ∷ words) = given_by (form_of word) given (λ g. given_from g words) (λ name. value_from name given words)

  -- the options of words of which the first is the value of an option
  pub value_from : Name → Given → List (List ℕ) → Option Given
  value_from name given [] = None
  value_from name given (value ∷ words) = option_and_then (λ g. given_from g words) (with_value name value given)
