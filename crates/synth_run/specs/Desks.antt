-- Several desks in one input: which desk each command goes to, and the replies in the order of the input.
use Rattle.std.specs.Prelude.{◌≡◌, ℕ, ◌==◌, ◌&&◌, Bool, true, false, not, List, [], ◌∷◌, ◌++◌, map, filter, take, codes, Option, Some, None, if◌then◌else◌}
use Rattle.std.specs.List.{flat_map, list_any}
use Rattle.std.specs.Str.{bytes_eq}
use Rattle.synth_io.specs.declared.input.TheConstants.{LIMIT}
use Rattle.desk_read.specs.declared.command.Command.{Command}
use Rattle.desk_read.specs.declared.command.Command.TheVariants.{Unclosed}
use Rattle.desk_read.specs.Taking.{OpenBlock, answer_to, block_after}
use Rattle.desk_read.specs.Words.{words_of}
use Rattle.reply_lines.specs.declared.reply.Reply.{Reply}
use Rattle.reply_lines.specs.Lines.{counted, error_reply, ok_line, ok_reply}
use Rattle.result_cache.specs.Filled.{new_count}
use Rattle.build_crew.specs.Rises.{RisesUpTo}
use Rattle.script_core.specs.declared.word.Word.{Word}
use Rattle.desk_core.specs.Builds.{asked_by}
use Rattle.desk_core.specs.State.{State, first_state}
use Rattle.desk_core.specs.Step.{IsStep}
use Rattle.synth_run.specs.Lines.{all_lines, ended_lines}
use Rattle.synth_run.specs.Refined.{PrintsNetlist}
use Rattle.synth_run.specs.Said.{Said, too_long}
use Rattle.synth_run.specs.Session.{is_long, is_quit, is_whole}
use Rattle.synth_run.specs.Words.{number_of}

-- a part of an input: a command of the desk of a number, a line that goes to such a desk, or one that names no desk
pub data Part : Type 0 where
  command : ℕ → Command → Part
  to : ℕ → Part
  stray : Part

-- ---- the parts of an input

-- what a line between commands says of desks: nothing, or that the commands after it go to this desk, or to none
pub data Aim : Type 0 where
  none : Aim
  at : Option ℕ → Aim

-- the words of a line of which the first is `desk` name one of so many desks by one number more
abbrev pub desk_by : ℕ → List (List ℕ) → Option ℕ
desk_by count (number ∷ []) = number_of count number
desk_by count words = None

abbrev pub aim_by : ℕ → List (List ℕ) → Aim
aim_by count [] = none
aim_by count (word ∷ words) = if bytes_eq word (codes "desk") then at (desk_by count words) else none

abbrev pub aim_of : ℕ → List ℕ → Aim
aim_of count line = aim_by count (words_of line)

-- the command that a line completes, as a part
abbrev pub part_of : ℕ → Option Command → List Part
part_of desk None = []
part_of desk (Some c) = command desk c ∷ []

-- the desk that commands are for after a line that says this, and the part that the line is
abbrev pub desk_after : ℕ → Option ℕ → ℕ
desk_after desk None = desk
desk_after desk (Some other) = other

abbrev pub going : Option ℕ → Part
going None = stray
going (Some other) = to other

-- what a line says of desks: nothing where it stands inside a block
abbrev pub aim_in : ℕ → Option OpenBlock → List ℕ → Aim
aim_in count None line = aim_of count line
aim_in count (Some block) line = none

-- the parts from a line on, by what it says of desks: those after it by the desk that they are for and the block that is open
abbrev pub parts_by : ℕ → Option OpenBlock → List ℕ → Aim → (ℕ → Option OpenBlock → List Part) → List Part
parts_by desk block line none rest = part_of desk (answer_to block line) ++ rest desk (block_after block line)
parts_by desk block line (at other) rest = going other ∷ rest (desk_after desk other) block

-- what the end of an input makes of a block that is open
abbrev pub unclosed : Option OpenBlock → Option Command
unclosed None = None
unclosed (Some block) = Some Unclosed

-- the parts of lines, of so many desks: the commands are for this desk until a line between commands goes to another; a block
-- is open or none
abbrev pub parts_from : ℕ → ℕ → Option OpenBlock → List (List ℕ) → List Part
parts_from count desk block [] = part_of desk (unclosed block)
parts_from count desk block (line ∷ lines) =
    parts_by desk block line (aim_in count block line) (λ next inner. parts_from count next inner lines)

-- a part ends the input
abbrev pub ends_input : Part → Bool
ends_input (command desk c) = is_quit c
ends_input (to desk) = false
ends_input stray = false

-- the parts up to the first `quit`
abbrev pub up_to_end : List Part → List Part
up_to_end [] = []
up_to_end (part ∷ parts) = part ∷ (if ends_input part then [] else up_to_end parts)

-- a part that has its last line
abbrev pub is_whole_part : Part → Bool
is_whole_part (command desk c) = is_whole c
is_whole_part (to desk) = true
is_whole_part stray = true

-- the parts whose last line stands among bytes, with its LF; an input begins at the first desk
abbrev pub ended_parts : ℕ → List ℕ → List Part
ended_parts count bytes = filter is_whole_part (parts_from count 1 None (ended_lines bytes))

-- the parts of an input, up to its end, to the limit or to `quit`
abbrev pub input_parts : ℕ → List ℕ → List Part
input_parts count input =
    up_to_end (if is_long input then ended_parts count (take LIMIT input) else parts_from count 1 None (all_lines input))

-- an input passes its limit before a `quit`
abbrev pub passes_limit : ℕ → List ℕ → Bool
passes_limit count input = is_long input && not (list_any ends_input (input_parts count input))

-- ---- the replies

-- a part that was answered: the state of its desk before and after it, where it is a command, and the reply
pub record Turn : Type 0 where
  pub part : Part
  pub before : State
  pub reply : Reply
  pub after : State

-- the reply to a line that goes to a desk
abbrev pub desk_reply : ℕ → Reply
desk_reply desk = ok_reply (ok_line (counted (codes "desk") desk))

-- the answer to a part, where each desk is in its state: a command is a step of its own desk
abbrev pub IsTurn : (ℕ → State) → Part → Turn → Type 0
IsTurn states (command desk c) turn = (turn.before ≡ states desk) × IsStep c turn.before turn.reply turn.after
IsTurn states (to desk) turn = turn.reply ≡ desk_reply desk
IsTurn states stray turn = turn.reply ≡ error_reply (codes "21")

-- the states of the desks after a part was answered
abbrev pub states_after : (ℕ → State) → Part → State → ℕ → State
states_after states (command desk c) after other = if other == desk then after else states other
states_after states part after other = states other

-- parts that are answered one after another
abbrev pub AreTurns : (ℕ → State) → List Turn → Type 0
AreTurns states [] = Unit {0}
AreTurns states (turn ∷ turns) = IsTurn states turn.part turn × AreTurns (states_after states turn.part turn.after) turns

abbrev pub parts_in : List Turn → List Part
parts_in = map (λ (turn : Turn). turn.part)

-- the replies, one after another, and whether one of them is an error
abbrev pub text_in : List Turn → List ℕ
text_in = flat_map (λ (turn : Turn). turn.reply.text)

abbrev pub has_error : List Turn → Bool
has_error = list_any (λ (turn : Turn). turn.reply.error)

-- the keys that the command of a turn asks for
abbrev pub keys_of : Part → State → List (List ℕ)
keys_of (command desk c) before = asked_by c before
keys_of part before = []

-- the keys that the commands of all desks ask for
abbrev pub keys_in : List Turn → List (List ℕ)
keys_in = flat_map (λ (turn : Turn). keys_of turn.part turn.before)

-- the turns of so many desks over an input, each from the first state with the script
pub record IsDesks (count : ℕ) (script : List Word) (input : List ℕ) (turns : List Turn) : Type 0 where
  pub steps : AreTurns (λ desk. first_state script) turns
  pub parts : parts_in turns ≡ input_parts count input

-- what is written with these turns: their replies, and an error where the input passes its limit before a `quit`
abbrev pub desks_said : Bool → List Turn → Said
desks_said false turns = record { text = text_in turns; error = has_error turns }
desks_said true turns = record { text = text_in turns ++ too_long.text; error = true }

-- the reply to an input of several desks
abbrev pub IsDesksReply : ℕ → List Word → List ℕ → Said → Type 0
IsDesksReply count script input said =
    (turns : List Turn) × IsDesks count script input turns × (said ≡ desks_said (passes_limit count input) turns)

-- a counter has risen by at most the number of different keys that the commands of all desks ask for
pub record CountsDesks (count : ℕ) (script : List Word) (input : List ℕ) (before after : ℕ) : Type 0 where
  pub turns : List Turn
  pub session : IsDesks count script input turns
  pub builds : RisesUpTo (new_count [] (keys_in turns)) before after

-- where the command of a part is `print` and its reply is no error, the netlist of its own desk's design is printed
abbrev pub PrintsPart : Part → State → Reply → Type 0
PrintsPart (command desk c) before reply = PrintsNetlist c before reply
PrintsPart part before reply = Unit {0}

-- each netlist that is printed
abbrev pub PrintParts : List Turn → Type 0
PrintParts [] = Unit {0}
PrintParts (turn ∷ turns) = PrintsPart turn.part turn.before turn.reply × PrintParts turns
