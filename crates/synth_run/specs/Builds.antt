-- How far a counter of builds rises.
use Rattle.std.specs.Prelude.{◌≡◌, ◌⊎◌, ℕ, List, [], Option, IfSome}
use Rattle.std.specs.Io.KnownBytes.{Consumes}
use Rattle.rtl_ir.specs.declared.module.Design.{Design}
use Rattle.rtl_ir.specs.Faults.{check_faults}
use Rattle.rtl_read.specs.Reads.{Reads}
use Rattle.script_core.specs.declared.word.Word.{Word}
use Rattle.build_crew.specs.Rises.{RisesUpTo}
use Rattle.desk_core.specs.Netlist.{built_count}
use Rattle.desk_core.specs.State.{first_state}
use Rattle.synth_run.specs.declared.program.Status.{Status}
use Rattle.synth_run.specs.declared.program.Status.TheVariants as statuses
use Rattle.synth_run.specs.declared.words.Mode.{Mode}
use Rattle.synth_run.specs.declared.words.Mode.TheVariants.{Synth, Session, Generate, Desks}
use Rattle.synth_run.specs.Desks.{CountsDesks}
use Rattle.synth_run.specs.Generated.{generated_state}
use Rattle.synth_run.specs.Session.{AreTurns, Turn, all_commands, builds_in, commands_in, ended_commands, input_commands, up_to_quit}
use Rattle.synth_run.specs.Synth.{fresh_state}
use Rattle.synth_run.specs.Taking.{BeginWith}

-- an input is an accepted design, and a counter has risen by at most the number of different keys of its modules
pub record IsBuilt (script : List Word) (input : List ℕ) (before after : ℕ) : Type 0 where
  pub design : Design
  pub reads : Reads input design
  pub faultless : check_faults design.modules ≡ []
  pub builds : RisesUpTo (built_count (fresh_state script design)) before after

-- the builds for one text: none where it is no accepted design
abbrev pub CountsBuilds : List Word → List ℕ → ℕ → ℕ → Type 0
CountsBuilds script input before after = (after ≡ before) ⊎ IsBuilt script input before after

-- the builds in a session of which these bytes were taken: at most those of turns that were made, whose commands are the first
-- of the bytes, and of the input where it is known; where the source failed, just those whose last line was taken with its LF
pub record CountsTurns (script : List Word) (failed : Type 0) (left : Option (List ℕ)) (bytes : List ℕ) (before after : ℕ) : Type 0 where
  pub turns : List Turn
  pub steps : AreTurns (first_state script) turns
  pub taken : BeginWith (up_to_quit (all_commands bytes)) turns
  pub told : IfSome left (λ input. BeginWith (input_commands input) turns)
  pub ended : failed → commands_in turns ≡ ended_commands bytes
  pub builds : RisesUpTo (builds_in turns) before after

-- the builds of several desks: none where the source failed, and else at most the keys that their commands ask for
abbrev pub CountsAll : ℕ → Status → List Word → Option (List ℕ) → ℕ → ℕ → Type 0
CountsAll count status script left before after =
    (status ≡ statuses.ReadFault → after ≡ before)
    × ((status ≡ statuses.ReadFault → ⊥) → IfSome left (λ input. CountsDesks count script input before after))

-- the builds of a call that went from one input to what is left of it, unless memory was wanting
abbrev pub HasCounted : Mode → Status → List Word → Option (List ℕ) → Option (List ℕ) → ℕ → ℕ → Type 0
HasCounted Synth status script left rest before after =
    (status ≡ statuses.Memory → ⊥) → IfSome left (λ input. CountsBuilds script input before after)
HasCounted Session status script left rest before after =
    (status ≡ statuses.Memory → ⊥) → (bytes : List ℕ) × Consumes left rest bytes
    × CountsTurns script (status ≡ statuses.ReadFault) left bytes before after
HasCounted (Generate count) status script left rest before after =
    (status ≡ statuses.Memory → ⊥) → RisesUpTo (built_count (generated_state script count)) before after
HasCounted (Desks count) status script left rest before after =
    (status ≡ statuses.Memory → ⊥) → CountsAll count status script left before after
