-- What the words of a call ask for.
use Rattle.std.specs.Prelude.{ℕ, ◌==◌, ◌&&◌, Bool, true, false, not, nat_le, List, [], ◌∷◌, Option, Some, None, option_and_then, if◌then◌else◌}
use Rattle.std.specs.Option.{option_map}
use Rattle.std.specs.Result.{result_ok}
use Rattle.std.specs.Char.{is_ascii_digit}
use Rattle.std.specs.List.{list_all}
use Rattle.std.specs.Str.Parse.{digits_value}
use Rattle.script_core.specs.declared.word.Word.{Word}
use Rattle.script_core.specs.Words.{default_script, script_of}
use Rattle.synth_run.specs.declared.words.Mode.{Mode}
use Rattle.synth_run.specs.declared.words.Mode.TheVariants.{Synth, Session, Generate, Desks}
use Rattle.synth_run.specs.declared.words.Plan.{Plan}
use Rattle.synth_run.specs.Options.{Given, given_from, nothing_given}

-- the script of the text of `--script`, or the default one
abbrev pub given_script : Option (List ℕ) → Option (List Word)
given_script None = Some default_script
given_script (Some text) = result_ok (script_of text)

-- decimal digits, of which the first is not 0
abbrev pub is_number : List ℕ → Bool
is_number [] = false
is_number (digit ∷ digits) = not (digit == 48) && list_all is_ascii_digit (digit ∷ digits)

-- the number that a text writes, where it is one from 1 to `most`
abbrev pub number_of : ℕ → List ℕ → Option ℕ
number_of most text =
    if is_number text && nat_le 1 (digits_value 10 text) && nat_le (digits_value 10 text) most
    then Some (digits_value 10 text) else None

-- how many workers the text of `--workers` asks for, or 4
abbrev pub given_workers : Option (List ℕ) → Option ℕ
given_workers None = Some 4
given_workers (Some text) = number_of 64 text

-- a design is made of as many modules as a text writes
abbrev pub made_mode : List ℕ → Option Mode
made_mode text = option_map Generate (number_of 4096 text)

-- as many desks answer as a text writes
abbrev pub desks_mode : List ℕ → Option Mode
desks_mode text = option_map Desks (number_of 16 text)

-- what is done in a session, by the texts of `--desks` and `--workers`, of which one excludes the other
abbrev pub session_mode : Option (List ℕ) → Option (List ℕ) → Option Mode
session_mode None workers = Some Session
session_mode (Some text) None = desks_mode text
session_mode (Some text) (Some workers) = None

-- what is done, by whether a session is asked for, and the texts of `--gen`, `--desks` and `--workers`: a session excludes a
-- design that is made, and without one no number of desks has a meaning
abbrev pub mode_of : Bool → Option (List ℕ) → Option (List ℕ) → Option (List ℕ) → Option Mode
mode_of false None None workers = Some Synth
mode_of false (Some text) None workers = made_mode text
mode_of false generate (Some text) workers = None
mode_of true None desks workers = session_mode desks workers
mode_of true (Some text) desks workers = None

-- what options ask for, by what is done, the script and the number of workers, where they give all three
abbrev pub plan_with : Option Mode → Option (List Word) → Option ℕ → Option Plan
plan_with (Some mode) (Some script) (Some workers) = Some (record { mode = mode; script = script; workers = workers })
plan_with (Some mode) (Some script) None = None
plan_with (Some mode) None workers = None
plan_with None script workers = None

abbrev pub plan_by : Given → Option Plan
plan_by given = plan_with (mode_of given.session given.generate given.desks given.workers) (given_script given.script) (given_workers given.workers)

-- what the words of a call ask for; None where they have no meaning
abbrev pub plan_of : List (List ℕ) → Option Plan
plan_of words = option_and_then plan_by (given_from nothing_given words)
