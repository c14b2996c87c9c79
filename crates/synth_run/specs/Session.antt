-- Sessions: which commands an input has, and what each is answered.
use Rattle.std.specs.Prelude.{◌≡◌, ℕ, ◌+◌, ◌&&◌, Bool, true, false, not, nat_lt, List, [], ◌∷◌, ◌++◌, length, map, filter, take, if◌then◌else◌}
use Rattle.std.specs.List.{flat_map, list_any}
use Rattle.synth_io.specs.declared.input.TheConstants.{LIMIT}
use Rattle.desk_read.specs.declared.command.Command.{Command}
use Rattle.desk_read.specs.declared.command.Command.TheVariants.{Quit, Unclosed}
use Rattle.desk_read.specs.Commands.{commands_of}
use Rattle.reply_lines.specs.declared.reply.Reply.{Reply}
use Rattle.script_core.specs.declared.word.Word.{Word}
use Rattle.desk_core.specs.Builds.{builds_of}
use Rattle.desk_core.specs.State.{State, first_state}
use Rattle.desk_core.specs.Step.{IsStep}
use Rattle.synth_run.specs.Lines.{all_lines, ended_lines}
use Rattle.synth_run.specs.Said.{Said, too_long}

-- a turn of a session: a command, the state of the desk that it came to, its reply, and the state after it
pub record Turn : Type 0 where
  pub command : Command
  pub before : State
  pub reply : Reply
  pub after : State

-- turns of a desk from this state on, one after another: each is a step
abbrev pub AreTurns : State → List Turn → Type 0
AreTurns s [] = Unit {0}
AreTurns s (turn ∷ turns) = (turn.before ≡ s) × IsStep turn.command s turn.reply turn.after × AreTurns turn.after turns

-- the state after turns
abbrev pub state_after : State → List Turn → State
state_after s [] = s
state_after s (turn ∷ turns) = state_after turn.after turns

abbrev pub commands_in : List Turn → List Command
commands_in = map (λ (turn : Turn). turn.command)

-- the replies, one after another, and whether one of them is an error
abbrev pub text_in : List Turn → List ℕ
text_in = flat_map (λ (turn : Turn). turn.reply.text)

abbrev pub has_error : List Turn → Bool
has_error = list_any (λ (turn : Turn). turn.reply.error)

-- how many keys the commands build at most, together
abbrev pub builds_in : List Turn → ℕ
builds_in [] = 0
builds_in (turn ∷ turns) = builds_of turn.command turn.before + builds_in turns

-- ---- the commands of an input

abbrev pub is_quit : Command → Bool
is_quit Quit = true
is_quit command = false

-- the commands up to the first `quit`
abbrev pub up_to_quit : List Command → List Command
up_to_quit [] = []
up_to_quit (command ∷ commands) = command ∷ (if is_quit command then [] else up_to_quit commands)

-- a command that has its last line
abbrev pub is_whole : Command → Bool
is_whole Unclosed = false
is_whole command = true

-- the commands whose last line stands among bytes, with its LF
abbrev pub ended_commands : List ℕ → List Command
ended_commands bytes = filter is_whole (commands_of (ended_lines bytes))

-- the commands of a whole input, in which a block may be open at its end
abbrev pub all_commands : List ℕ → List Command
all_commands input = commands_of (all_lines input)

-- an input of more bytes than it may have
abbrev pub is_long : List ℕ → Bool
is_long input = nat_lt LIMIT (length input)

-- the commands of an input, up to its end, to the limit or to `quit`
abbrev pub input_commands : List ℕ → List Command
input_commands input = up_to_quit (if is_long input then ended_commands (take LIMIT input) else all_commands input)

-- an input passes its limit before a `quit`
abbrev pub is_overlong : List ℕ → Bool
is_overlong input = is_long input && not (list_any is_quit (input_commands input))

-- ---- the replies

-- the turns of a session over an input, from the desk's first state with a script
pub record IsSession (script : List Word) (input : List ℕ) (turns : List Turn) : Type 0 where
  pub steps : AreTurns (first_state script) turns
  pub commands : commands_in turns ≡ input_commands input

-- what is written in a session with these turns: their replies, and an error where the input passes its limit before a `quit`
abbrev pub session_said : Bool → List Turn → Said
session_said false turns = record { text = text_in turns; error = has_error turns }
session_said true turns = record { text = text_in turns ++ too_long.text; error = true }

abbrev pub IsSessionReply : List Word → List ℕ → Said → Type 0
IsSessionReply script input said = (turns : List Turn) × IsSession script input turns × (said ≡ session_said (is_overlong input) turns)
