-- What is promised of a netlist that is written.
use Rattle.std.specs.Prelude.{◌≡◌, ℕ, true, false, List, [], ◌∷◌, Option}
use Rattle.std.specs.Io.KnownBytes.{Appends}
use Rattle.rtl_ir.specs.declared.module.Design.{Design}
use Rattle.rtl_ir.specs.Faults.{check_faults, faults_within}
use Rattle.rtl_ir.specs.Scope.{without_processes}
use Rattle.rtl_read.specs.Reads.{Reads}
use Rattle.rtl_write.specs.Text.{text_of}
use Rattle.net_model.specs.Gates.{is_gate_netlist}
use Rattle.net_model.specs.Refine.{HasOneDriver, Refines}
use Rattle.script_core.specs.declared.word.Word.{Word}
use Rattle.script_core.specs.Cold.{IsNetlist, cold}
use Rattle.script_core.specs.Mapping.{maps_all}
use Rattle.readable_runs.specs.Short.{HasShortMemories}
use Rattle.desk_read.specs.declared.command.Command.{Command}
use Rattle.desk_read.specs.declared.command.Command.TheVariants.{Print}
use Rattle.reply_lines.specs.declared.reply.Reply.{Reply}
use Rattle.desk_core.specs.Answers.{printed_reply}
use Rattle.desk_core.specs.Netlist.{built_words}
use Rattle.desk_core.specs.State.{State}
use Rattle.synth_run.specs.Session.{Turn}

-- the netlist that a script makes of an accepted design: no bit of it has two drivers; the check finds no fault in it, also none
-- of recursion: none at all where `memory` stands before the last `techmap` of the script, and only words of `opt` after that,
-- and else none as far as the clocks of the write ports of a memory are not compared; it refines the design; its cells are gates
-- and instances of its modules alone, where the script is such a one; and it is what its text reads as, where no line of a
-- process writes a memory of a longer name than a constant holds
pub record IsSynthesis (script : List Word) (design netlist : Design) : Type 0 where
  pub faultless : check_faults design.modules ≡ []
  pub run : IsNetlist (cold script design) netlist
  pub again : HasShortMemories design → Reads (text_of netlist) netlist
  pub one_driver : HasOneDriver netlist
  pub no_faults : faults_within without_processes netlist.modules ≡ []
  pub accepted : maps_all script ≡ true → check_faults netlist.modules ≡ []
  pub refines : Refines design netlist
  pub gates : maps_all script ≡ true → is_gate_netlist netlist ≡ true

-- the netlist of the accepted design that an input is was written
pub record IsRefinedBy (script : List Word) (input : List ℕ) (had has : Option (List ℕ)) : Type 0 where
  pub design : Design
  pub netlist : Design
  pub reads : Reads input design
  pub written : Appends had has (text_of netlist)
  pub synthesis : IsSynthesis script design netlist

-- a reply has printed the netlist of the design that is present in a state
pub record IsPrinted (s : State) (reply : Reply) : Type 0 where
  pub netlist : Design
  pub written : reply ≡ printed_reply (built_words s) (text_of netlist)
  pub synthesis : IsSynthesis s.script s.design netlist

-- where a command is `print` and its reply is no error, the netlist is printed
abbrev pub PrintsNetlist : Command → State → Reply → Type 0
PrintsNetlist Print s reply = reply.error ≡ false → IsPrinted s reply
PrintsNetlist command s reply = Unit {0}

-- each netlist that is printed in a session
abbrev pub PrintNetlists : List Turn → Type 0
PrintNetlists [] = Unit {0}
PrintNetlists (turn ∷ turns) = PrintsNetlist turn.command turn.before turn.reply × PrintNetlists turns
