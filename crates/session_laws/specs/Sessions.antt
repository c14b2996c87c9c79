-- Sessions over lines, and the turns of one of several desks.
use Rattle.std.specs.Prelude.{◌≡◌, ℕ, ◌==◌, Bool, List, [], ◌∷◌, ◌++◌, filter, take, if◌then◌else◌}
use Rattle.synth_io.specs.declared.input.TheConstants.{LIMIT}
use Rattle.desk_read.specs.declared.command.Command.{Command}
use Rattle.desk_read.specs.Commands.{commands_of}
use Rattle.script_core.specs.declared.word.Word.{Word}
use Rattle.desk_core.specs.State.{first_state}
use Rattle.synth_run.specs.Desks as desks
use Rattle.synth_run.specs.Desks.{Part, command, stray, to}
use Rattle.synth_run.specs.Lines.{all_lines, ended_lines}
use Rattle.synth_run.specs.Session.{AreTurns, Turn, commands_in, is_long, is_whole, up_to_quit}

-- the lines of an input: where it passes its limit, those that are ended within it
abbrev pub input_lines : List ℕ → List (List ℕ)
input_lines input = if is_long input then ended_lines (take LIMIT input) else all_lines input

-- the commands of lines up to `quit`; where the input passes its limit, a block without its end is none
abbrev pub line_commands : Bool → List (List ℕ) → List Command
line_commands long lines = up_to_quit (if long then filter is_whole (commands_of lines) else commands_of lines)

-- the turns of a session over lines, from the desk's first state with a script
pub record IsSessionOf (script : List Word) (long : Bool) (lines : List (List ℕ)) (turns : List Turn) : Type 0 where
  pub steps : AreTurns (first_state script) turns
  pub commands : commands_in turns ≡ line_commands long lines

-- a turn of several desks, as a turn of this one: none where it is no command of it
abbrev pub turn_of : ℕ → Part → desks.Turn → List Turn
turn_of desk (command other c) turn =
    if other == desk then record { command = c; before = turn.before; reply = turn.reply; after = turn.after } ∷ [] else []
turn_of desk (to other) turn = []
turn_of desk stray turn = []

-- the turns of a desk, among those of all
abbrev pub turns_of : ℕ → List desks.Turn → List Turn
turns_of desk [] = []
turns_of desk (turn ∷ turns) = turn_of desk turn.part turn ++ turns_of desk turns
