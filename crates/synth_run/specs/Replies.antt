-- What the program writes, and what a call owes.
use Rattle.std.specs.Prelude.{◌≡◌, ℕ, ◌<◌, List, [], Bool, true, false, Option, IfSome, Result, Ok, Err, length, take, ◌⊎◌}
use Rattle.std.specs.List.{list_any}
use Rattle.std.specs.Io.KnownBytes.{Appends, Consumes, IsAtEnd, Keeps}
use Rattle.synth_io.specs.declared.input.TheConstants.{LIMIT}
use Rattle.script_core.specs.declared.word.Word.{Word}
use Rattle.desk_core.specs.State.{first_state}
use Rattle.synth_run.specs.declared.program.Status.{Status}
use Rattle.synth_run.specs.declared.program.Status.TheVariants as statuses
use Rattle.synth_run.specs.declared.session.Stop.{Stop}
use Rattle.synth_run.specs.declared.session.Stop.TheVariants as halts
use Rattle.synth_run.specs.declared.words.Mode.{Mode}
use Rattle.synth_run.specs.declared.words.Mode.TheVariants.{Synth, Session, Generate, Desks}
use Rattle.synth_run.specs.Desks as desks
use Rattle.synth_run.specs.Generated.{IsSummary, generated_said}
use Rattle.synth_run.specs.Refined.{IsRefinedBy, PrintNetlists}
use Rattle.synth_run.specs.Said.{Said}
use Rattle.synth_run.specs.Session.{AreTurns, IsSession, IsSessionReply, Turn, commands_in, ended_commands, is_overlong, is_quit, session_said, text_in}
use Rattle.synth_run.specs.Synth.{IsSynthReply}

-- the reply to an input, by what is done and the script; the number of workers does not occur in it, nor does the input where
-- a design is made
abbrev pub IsReply : Mode → List Word → List ℕ → Said → Type 0
IsReply Synth script input said = IsSynthReply script input said
IsReply Session script input said = IsSessionReply script input said
IsReply (Generate count) script input said = said ≡ generated_said script count
IsReply (Desks count) script input said = desks.IsDesksReply count script input said

-- what is said of the input of a call, where the source tells it; where a design is made none is read, so it is empty
abbrev pub OfInput : Mode → Option (List ℕ) → (List ℕ → Type 0) → Type 0
OfInput Synth left P = IfSome left P
OfInput Session left P = IfSome left P
OfInput (Generate count) left P = P []
OfInput (Desks count) left P = IfSome left P

-- a session that took these bytes was ended by a `quit`
abbrev pub IsQuit : Mode → List ℕ → Type 0
IsQuit Session bytes = list_any is_quit (ended_commands bytes) ≡ true
IsQuit (Desks count) bytes = list_any desks.ends_input (desks.ended_parts count bytes) ≡ true
IsQuit mode bytes = ⊥

-- the input was read to its end, past its limit or to `quit`
pub record IsReadToEnd (mode : Mode) (before after : Option (List ℕ)) : Type 0 where
  pub bytes : List ℕ
  pub taken : Consumes before after bytes
  pub through : IsAtEnd after ⊎ ((LIMIT < length bytes) ⊎ IsQuit mode bytes)

-- the input was read through, or not at all where a design is made
abbrev pub IsReadThrough : Mode → Option (List ℕ) → Option (List ℕ) → Type 0
IsReadThrough Synth before after = IsReadToEnd Synth before after
IsReadThrough Session before after = IsReadToEnd Session before after
IsReadThrough (Generate count) before after = after ≡ before
IsReadThrough (Desks count) before after = IsReadToEnd (Desks count) before after

-- the whole reply was written, and it is an error or not
abbrev pub HasAnswered : Mode → List Word → Bool → Option (List ℕ) → Option (List ℕ) → Option (List ℕ) → Type 0
HasAnswered mode script error before had has =
    OfInput mode before (λ input. (said : Said) × IsReply mode script input said × Appends had has said.text × (said.error ≡ error))

-- a front of the reply was written
abbrev pub HasBegun : Mode → List Word → Option (List ℕ) → Option (List ℕ) → Option (List ℕ) → Type 0
HasBegun mode script before had has =
    OfInput mode before (λ input. (said : Said) × IsReply mode script input said × ((n : ℕ) × Appends had has (take n said.text)))

-- the replies were written to just those commands whose last line was taken with its LF
pub record AnswersTaken (script : List Word) (before after had has : Option (List ℕ)) : Type 0 where
  pub bytes : List ℕ
  pub turns : List Turn
  pub taken : Consumes before after bytes
  pub steps : AreTurns (first_state script) turns
  pub commands : commands_in turns ≡ ended_commands bytes
  pub written : Appends had has (text_in turns)

-- nothing was written, but in a session
abbrev pub HasKept : Mode → Option (List ℕ) → Option (List ℕ) → Type 0
HasKept Synth had has = Keeps had has
HasKept Session had has = Unit {0}
HasKept (Generate count) had has = Keeps had has
HasKept (Desks count) had has = Unit {0}

-- what was written where the source failed: nothing of the reply to one text, or of those of several desks
abbrev pub HasAnsweredTaken : Mode → List Word → Option (List ℕ) → Option (List ℕ) → Option (List ℕ) → Option (List ℕ) → Type 0
HasAnsweredTaken Session script before after had has = AnswersTaken script before after had has
HasAnsweredTaken mode script before after had has = Keeps had has

-- the whole session was written, and each netlist that was printed in it is that of the design that was present then
pub record IsPrintedSession (script : List Word) (input : List ℕ) (had has : Option (List ℕ)) : Type 0 where
  pub turns : List Turn
  pub session : IsSession script input turns
  pub written : Appends had has (session_said (is_overlong input) turns).text
  pub netlists : PrintNetlists turns

-- the whole session of several desks was written, and each netlist that was printed in it is that of its desk's design
pub record IsPrintedDesks (count : ℕ) (script : List Word) (input : List ℕ) (had has : Option (List ℕ)) : Type 0 where
  pub turns : List desks.Turn
  pub session : desks.IsDesks count script input turns
  pub written : Appends had has (desks.desks_said (desks.passes_limit count input) turns).text
  pub netlists : desks.PrintParts turns

-- each netlist that was written, or counted, is the one that the script makes of the design
abbrev pub HasRefined : Mode → Status → List Word → List ℕ → Option (List ℕ) → Option (List ℕ) → Type 0
HasRefined Synth status script input had has = status ≡ statuses.Done → IsRefinedBy script input had has
HasRefined Session status script input had has = (status ≡ statuses.Done) ⊎ (status ≡ statuses.Refused) → IsPrintedSession script input had has
HasRefined (Generate count) status script input had has = status ≡ statuses.Done → IsSummary script count had has
HasRefined (Desks count) status script input had has =
    (status ≡ statuses.Done) ⊎ (status ≡ statuses.Refused) → IsPrintedDesks count script input had has

-- the whole reply was written, or memory was wanting
abbrev pub IsCompleted : Status → Type 0
IsCompleted statuses.Done = Unit {0}
IsCompleted statuses.Refused = Unit {0}
IsCompleted statuses.Usage = ⊥
IsCompleted statuses.ReadFault = ⊥
IsCompleted statuses.WriteFault = ⊥
IsCompleted statuses.Memory = Unit {0}

-- the exit status
abbrev pub exit_code : Status → ℕ
exit_code statuses.Done = 0
exit_code statuses.Refused = 1
exit_code statuses.Usage = 2
exit_code statuses.ReadFault = 3
exit_code statuses.WriteFault = 4
exit_code statuses.Memory = 5

-- how a call ends that was answered, with an error or without, or that stopped
abbrev pub status_of : Result Bool Stop → Status
status_of (Ok false) = statuses.Done
status_of (Ok true) = statuses.Refused
status_of (Err halts.Source) = statuses.ReadFault
status_of (Err halts.Sink) = statuses.WriteFault
status_of (Err halts.Memory) = statuses.Memory
