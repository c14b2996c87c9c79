-- How far a session has come: the turns that it made, and the lines and bytes that it took for them.
use Rattle.std.specs.Prelude.{◌≡◌, ◌⊎◌, ℕ, ◌<◌, Bool, true, ◌||◌, List, [], ◌++◌, Option, Some, None, length, take, if◌then◌else◌}
use Rattle.std.specs.List.{list_all, list_any}
use Rattle.std.specs.Io.KnownBytes.{Appends, Consumes, IsAtEnd}
use Rattle.synth_io.specs.declared.input.TheConstants.{LIMIT}
use Rattle.desk_read.specs.declared.command.Command.{Command}
use Rattle.desk_read.specs.Taking.{OpenBlock, commands_from}
use Rattle.build_crew.specs.Rises.{RisesUpTo}
use Rattle.desk_core.specs.State.{State}
use Rattle.synth_run.specs.Lines.{Lines, is_unended, lines_of, read_lines}
use Rattle.synth_run.specs.Session.{AreTurns, Turn, all_commands, builds_in, commands_in, ended_commands, has_error, input_commands, is_overlong, is_quit, is_whole, session_said, state_after, text_in, up_to_quit}
use Rattle.synth_run.specs.declared.session.Speaker.{Speaker}
use Rattle.synth_run.specs.declared.session.Stop.{Stop}
use Rattle.synth_run.specs.declared.session.Stop.TheVariants as halts

-- the last of these commands, and no other, is a `quit`; or none is
pub record Stops (ended : Bool) (commands : List Command) : Type 0 where
  pub has : list_any is_quit commands ≡ ended
  pub up_to : (more : List Command) → up_to_quit (commands ++ more) ≡ commands ++ (if ended then [] else up_to_quit more)

-- a desk made these turns, and their replies were written whole; the counter of builds rose by no more than they build
pub record Speaks (before after : Speaker) (ended : Bool) (turns : List Turn) (had has : Option (List ℕ)) (old new : ℕ) : Type 0 where
  pub steps : AreTurns before.desk.state turns
  pub last : state_after before.desk.state turns ≡ after.desk.state
  pub stops : Stops ended (commands_in turns)
  pub refused : after.refused ≡ (before.refused || has_error turns)
  pub written : Appends had has (text_in turns)
  pub builds : RisesUpTo (builds_in turns) old new

-- a desk made these turns, and a front of their replies was written; the counter of builds rose by no more than they build, but
-- where memory was wanting
pub record Breaks (desk : State) (stop : Stop) (turns : List Turn) (had has : Option (List ℕ)) (old new : ℕ) : Type 0 where
  pub steps : AreTurns desk turns
  pub ended : Bool
  pub stops : Stops ended (commands_in turns)
  pub size : ℕ
  pub written : Appends had has (take size (text_in turns))
  pub builds : (stop ≡ halts.Memory → ⊥) → RisesUpTo (builds_in turns) old new

-- the commands begin with those of turns
abbrev pub BeginWith : List Command → List Turn → Type 0
BeginWith commands turns = (more : List Command) × (commands ≡ commands_in turns ++ more)

-- lines were taken, outside a block or inside this one: whatever lines come after them, their commands are those of the turns
-- and then those of these lines
pub record TakesLines (before : Option OpenBlock) (lines : List (List ℕ)) (turns : List Turn) (after : Option OpenBlock) : Type 0 where
  pub whole : list_all is_whole (commands_in turns) ≡ true
  pub commands : (more : List (List ℕ)) → commands_from before (lines ++ more) ≡ commands_in turns ++ commands_from after more

-- whatever lines come after these, their commands begin with those of the turns
pub record BeginsLines (before : Option OpenBlock) (lines : List (List ℕ)) (turns : List Turn) : Type 0 where
  pub whole : list_all is_whole (commands_in turns) ≡ true
  pub begins : (more : List (List ℕ)) → BeginWith (commands_from before (lines ++ more)) turns

-- lines, and then others
abbrev pub lines_before : List (List ℕ) → Lines → Lines
lines_before lines others = record { ended = lines ++ others.ended; rest = others.rest }

-- bytes were taken behind the front of a line: whatever bytes come after them, these lines are ended, and then those of what
-- is now the front of a line and of these bytes
abbrev pub TakesBytes : List ℕ → List ℕ → List (List ℕ) → List ℕ → Type 0
TakesBytes before bytes lines after = (more : List ℕ) → lines_of (before ++ (bytes ++ more)) ≡ lines_before lines (lines_of (after ++ more))

-- whatever bytes come after these, their lines begin with these
abbrev pub BeginsBytes : List ℕ → List ℕ → List (List ℕ) → Type 0
BeginsBytes before bytes lines = (more : List ℕ) → (others : Lines) × (lines_of (before ++ (bytes ++ more)) ≡ lines_before lines others)

-- ---- a session over an input

-- these turns are the session of an input, which begins with bytes that were taken and goes on with what is left; `over` says
-- that it passes its limit before a `quit`
abbrev pub SpeaksFor : List ℕ → Option (List ℕ) → List Turn → Bool → Type 0
SpeaksFor bytes rest turns over =
    (more : List ℕ) → rest ≡ Some more → (commands_in turns ≡ input_commands (bytes ++ more)) × (is_overlong (bytes ++ more) ≡ over)

-- a session was held to its end: `refused` says that an error was answered
pub record Held (desk : State) (refused : Bool) (left rest had has : Option (List ℕ)) (old new : ℕ) : Type 0 where
  pub bytes : List ℕ
  pub turns : List Turn
  pub over : Bool
  pub taken : Consumes left rest bytes
  pub steps : AreTurns desk turns
  pub session : SpeaksFor bytes rest turns over
  pub written : Appends had has (session_said over turns).text
  pub error : (session_said over turns).error ≡ refused
  pub through : IsAtEnd rest ⊎ ((LIMIT < length bytes) ⊎ (list_any is_quit (ended_commands bytes) ≡ true))
  pub first : BeginWith (up_to_quit (all_commands bytes)) turns
  pub builds : RisesUpTo (builds_in turns) old new

-- what was written of a session that broke off: a front of the replies to turns, whose commands its input begins with; or all of
-- them, and a front of the error of an input that is too long
abbrev pub IsCut : List ℕ → Option (List ℕ) → List Turn → Option (List ℕ) → Option (List ℕ) → Type 0
IsCut bytes rest turns had has =
    (((more : List ℕ) → rest ≡ Some more → BeginWith (input_commands (bytes ++ more)) turns)
    × ((size : ℕ) × Appends had has (take size (text_in turns))))
    ⊎ (SpeaksFor bytes rest turns true × ((size : ℕ) × Appends had has (take size (session_said true turns).text)))

-- a session broke off: where the source failed, it had answered just the commands whose last line had come
pub record Broken (desk : State) (stop : Stop) (left rest had has : Option (List ℕ)) (old new : ℕ) : Type 0 where
  pub bytes : List ℕ
  pub turns : List Turn
  pub taken : Consumes left rest bytes
  pub steps : AreTurns desk turns
  pub cut : IsCut bytes rest turns had has
  pub answered : stop ≡ halts.Source → (commands_in turns ≡ ended_commands bytes) × Appends had has (text_in turns)
  pub first : BeginWith (up_to_quit (all_commands bytes)) turns
  pub builds : (stop ≡ halts.Memory → ⊥) → RisesUpTo (builds_in turns) old new

-- where a session stands that took bytes: the lines that ended, the turns, and the front of a line
pub record Stands (bytes : List ℕ) (lines : List (List ℕ)) (turns : List Turn) (reader : Option OpenBlock) (line : List ℕ) : Type 0 where
  pub bytes_are : TakesBytes [] bytes lines line
  pub lines_are : TakesLines None (read_lines lines) turns reader
  pub unended : is_unended line ≡ true

-- the last line of an input, where it has no LF, and its end were taken
pub record Finishes (desk : State) (before : Bool) (commands : List Command) (refused : Bool) (had has : Option (List ℕ)) (old new : ℕ) : Type 0 where
  pub turns : List Turn
  pub steps : AreTurns desk turns
  pub all : up_to_quit commands ≡ commands_in turns
  pub written : Appends had has (text_in turns)
  pub error : refused ≡ (before || has_error turns)
  pub builds : RisesUpTo (builds_in turns) old new
