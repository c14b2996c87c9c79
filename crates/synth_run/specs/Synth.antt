-- The reply to one text: the netlist that a script makes of it, or an error.
use Rattle.std.specs.Prelude.{◌≡◌, ◌⊎◌, ℕ, Bool, true, false, List, [], ◌∷◌, ◌++◌, Option, Some, None, if◌then◌else◌}
use Rattle.rtl_ir.specs.declared.module.Design.{Design}
use Rattle.rtl_ir.specs.Faults.{check_faults}
use Rattle.rtl_read.specs.declared.read_fault.ReadFault.{ReadFault}
use Rattle.rtl_read.specs.Reads.{Reads, IsFirstFault}
use Rattle.rtl_check.specs.declared.fault.CheckFault.{CheckFault}
use Rattle.rtl_check.specs.Finds.{first_answer}
use Rattle.rtl_write.specs.Text.{text_of}
use Rattle.script_core.specs.declared.word.Word.{Word}
use Rattle.script_core.specs.Cold.{cold}
use Rattle.reply_lines.specs.Lines.{check_words, error_reply, read_words}
use Rattle.desk_core.specs.Netlist.{built_words, netlist_of, over_words}
use Rattle.desk_core.specs.State.{State}
use Rattle.synth_run.specs.Lines.{is_lf}
use Rattle.synth_run.specs.Said.{Said, said_of, too_long}
use Rattle.synth_run.specs.Session.{is_long}

-- the state of a desk with a design, of which no key is kept
abbrev pub fresh_state : List Word → Design → State
fresh_state script design = record { design = design; script = script; kept = [] }

-- the reply in a state: the text of the netlist, or the error of the first module that passes a limit
abbrev pub netlist_said : State → Option (List ℕ) → Said
netlist_said s None = record { text = text_of (netlist_of s); error = false }
netlist_said s (Some words) = said_of (error_reply (words ++ built_words s))

-- the reply to a design without faults: that to its cold run
abbrev pub cold_said : List Word → Design → Said
cold_said script design = netlist_said (fresh_state script design) (over_words design.modules (cold script design))

-- the reply to a design: that to its cold run, or its first fault
abbrev pub checked_said : List Word → Design → Option CheckFault → Said
checked_said script design None = cold_said script design
checked_said script design (Some fault) = said_of (error_reply (check_words fault))

abbrev pub design_said : List Word → Design → Said
design_said script design = checked_said script design (first_answer (check_faults design.modules))

-- the reply to a text: that to the design that it reads as, or its first fault
abbrev pub IsTextReply : List Word → List ℕ → Said → Type 0
IsTextReply script text said =
    ((design : Design) × Reads text design × (said ≡ design_said script design))
    ⊎ ((fault : ReadFault) × IsFirstFault text fault × (said ≡ said_of (error_reply (read_words fault))))

-- the reply to an input, which may be too long
abbrev pub IsInputReply : Bool → List Word → List ℕ → Said → Type 0
IsInputReply true script input said = said ≡ too_long
IsInputReply false script input said = IsTextReply script input said

abbrev pub IsSynthReply : List Word → List ℕ → Said → Type 0
IsSynthReply script input said = IsInputReply (is_long input) script input said

-- the bytes after the first line of a text
abbrev pub after_line : List ℕ → List ℕ
after_line [] = []
after_line (byte ∷ bytes) = if is_lf byte then bytes else after_line bytes
