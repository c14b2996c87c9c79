-- What is written of a design that is made and not read: a summary of the netlist that a script makes of it, or an error.
use Rattle.std.specs.Prelude.{ℕ, List, Option}
use Rattle.std.specs.Io.KnownBytes.{Appends}
use Rattle.rtl_ir.specs.declared.module.Design.{Design}
use Rattle.script_core.specs.declared.word.Word.{Word}
use Rattle.generated_design.specs.Generate.{generated}
use Rattle.desk_core.specs.Netlist.{built_words}
use Rattle.desk_core.specs.State.{State}
use Rattle.desk_core.specs.Summary.{cells_in, summary_answer, summary_line}
use Rattle.synth_run.specs.Refined.{IsSynthesis}
use Rattle.synth_run.specs.Said.{Said, said_of}
use Rattle.synth_run.specs.Synth.{fresh_state}

-- the state of a desk with a generated design of so many modules, of which no key is kept
abbrev pub generated_state : List Word → ℕ → State
generated_state script count = fresh_state script (generated count)

-- what is written: the summary of the netlist, or the error of the first module that passes a limit
abbrev pub generated_said : List Word → ℕ → Said
generated_said script count = said_of (summary_answer (generated_state script count)).reply

-- the summary of the netlist was written: how many modules the design has, what was built of it, and how many cells the
-- netlist has that the script makes of it
pub record IsSummary (script : List Word) (count : ℕ) (had has : Option (List ℕ)) : Type 0 where
  pub netlist : Design
  pub written : Appends had has (summary_line count (built_words (generated_state script count)) (cells_in netlist.modules))
  pub synthesis : IsSynthesis script (generated count) netlist
