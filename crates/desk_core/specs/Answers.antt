-- The answer to each command.
use Rattle.std.specs.Prelude.{◌≡◌, ◌⊎◌, ℕ, ◌≤◌, List, [], ◌++◌, Option, Some, None, Result, Ok, Err, codes, length, if◌then◌else◌}
use Rattle.std.specs.Option.{option_map_or}
use Rattle.std.specs.Fmt.{decimal}
use Rattle.std.specs.List.{flat_map}
use Rattle.rtl_bits.specs.declared.bit.Bit.{Bit}
use Rattle.rtl_ir.specs.declared.module.Design.{Design}
use Rattle.rtl_ir.specs.declared.module.Module.{Module}
use Rattle.rtl_ir.specs.declared.limits.TheConstants.{MAX_MODULES}
use Rattle.rtl_ir.specs.declared.ports.PortLine.{PortLine}
use Rattle.rtl_ir.specs.declared.wire.Role.{Role}
use Rattle.rtl_ir.specs.declared.wire.Role.TheVariants.{Inner, Input, Output, Inout}
use Rattle.rtl_ir.specs.Faults.{check_faults}
use Rattle.rtl_ir.specs.Ports.{ports_of}
use Rattle.rtl_ir.specs.Types.{module_named}
use Rattle.rtl_lex.specs.Items.{Seen}
use Rattle.rtl_lex.specs.Place.{place_text}
use Rattle.rtl_read.specs.declared.read_fault.ReadFault.{ReadFault}
use Rattle.rtl_read.specs.Reads.{Reads, IsFirstFault, AreItemsOf}
use Rattle.rtl_check.specs.declared.fault.CheckFault.{CheckFault}
use Rattle.rtl_check.specs.Finds.{first_answer}
use Rattle.rtl_write.specs.Text.{module_text, text_of}
use Rattle.script_core.specs.declared.word.Word.{Word}
use Rattle.script_core.specs.Words.{script_of}
use Rattle.reply_lines.specs.declared.reply.Reply.{Reply}
use Rattle.reply_lines.specs.Lines.{check_words, counted, error_reply, ok_line, ok_reply, read_words}
use Rattle.design_edit.specs.Modules.{PassesAt, has_module, with_modules, without_module}
use Rattle.design_edit.specs.Places.{module_place}
use Rattle.desk_core.specs.Netlist.{built_words, netlist_answer, netlist_of}
use Rattle.desk_core.specs.State.{Answer, State}
use Rattle.net_model.specs.declared.order.Order.{Order}
use Rattle.sim_trace.specs.Stimulus.{stimulus_of, trace_text}

-- a reply that leaves the state as it was
abbrev pub unchanged : State → Reply → Answer
unchanged s reply = record { reply = reply; after = s }

-- a refusal: an error's number and what is told of it, and the state as it was
abbrev pub refusal : State → List ℕ → Answer
refusal s words = unchanged s (error_reply words)

-- the answer to modules that are to be the present design, by their first fault, where they have one
abbrev pub checked_answer : State → List Module → Option CheckFault → Answer
checked_answer s modules None = record {
  reply = ok_reply (ok_line (counted (codes "modules") (length modules)));
  after = record s { design = record { modules = modules } };
}
checked_answer s modules (Some fault) = refusal s (check_words fault)

-- modules become the present design, unless they have a fault
abbrev pub design_answer : State → List Module → Answer
design_answer s modules = checked_answer s modules (first_answer (check_faults modules))

-- the answer to a text by the design that it reads as, or its first fault
abbrev pub IsTextAnswer : State → List ℕ → (Design → Answer → Type 0) → Answer → Type 0
IsTextAnswer s text by_design a =
    ((design : Design) × Reads text design × by_design design a)
    ⊎ ((fault : ReadFault) × IsFirstFault text fault × (a ≡ refusal s (read_words fault)))

-- the text's design becomes the present one
abbrev pub IsLoadAnswer : State → List ℕ → Answer → Type 0
IsLoadAnswer s text a = IsTextAnswer s text (λ design a. a ≡ design_answer s design.modules) a

-- each module of the text's design takes the place of the one of its name, or comes last; an error where that makes more
-- modules than a design may have, at the place of the first module that does
abbrev pub IsEdited : State → List ℕ → Design → Answer → Type 0
IsEdited s text edits a =
    ((length (with_modules s.design.modules edits.modules) ≤ MAX_MODULES)
    × (a ≡ design_answer s (with_modules s.design.modules edits.modules)))
    ⊎ ((at : ℕ) × (items : List Seen) × PassesAt s.design.modules edits.modules at × AreItemsOf text items
    × (a ≡ refusal s (codes "17 " ++ place_text (module_place items at))))

abbrev pub IsEditAnswer : State → List ℕ → Answer → Type 0
IsEditAnswer s text a = IsTextAnswer s text (IsEdited s text) a

-- the module of this name is taken away
abbrev pub remove_answer : State → List ℕ → Answer
remove_answer s name =
    if has_module s.design.modules name then design_answer s (without_module s.design.modules name)
    else refusal s (codes "18 " ++ name)

-- the script of a text becomes the present one, unless a word is bad
abbrev pub script_answer_by : State → Result (List Word) ℕ → Answer
script_answer_by s (Ok words) = record {
  reply = ok_reply (ok_line (counted (codes "script") (length words)));
  after = record s { script = words };
}
script_answer_by s (Err number) = refusal s (codes "19 " ++ decimal number)

abbrev pub script_answer : State → List ℕ → Answer
script_answer s text = script_answer_by s (script_of text)

-- a text behind a line with these words and how many bytes the text has
abbrev pub printed_reply : List ℕ → List ℕ → Reply
printed_reply words text = ok_reply (ok_line (words ++ counted (codes "bytes") (length text)) ++ text)

-- all keys of the present design are built that are not kept
abbrev pub run_answer : State → Answer
run_answer s = netlist_answer s (ok_reply (ok_line (built_words s)))

-- the same, and its netlist is written
abbrev pub print_answer : State → Answer
print_answer s = netlist_answer s (printed_reply (built_words s) (text_of (netlist_of s)))

-- what is answered by the module of a name: an error where none has it
abbrev pub by_module : State → List ℕ → (Module → Answer) → Answer
by_module s name answer = option_map_or answer (module_named s.design.modules name) (refusal s (codes "18 " ++ name))

-- the present source of a module is written
abbrev pub show_answer : State → List ℕ → Answer
show_answer s name = by_module s name (λ m.
    unchanged s (printed_reply [] (module_text m)))

-- the version of the program is written
abbrev pub version_answer : State → Answer
version_answer s = unchanged s (printed_reply [] (codes "rtlsyn 2026.12\n"))

-- the names of modules, one a line
abbrev pub names_text : List Module → List ℕ
names_text modules = flat_map (λ m. m.id ++ codes "\n") modules

-- the names of the present modules are written
abbrev pub modules_answer : State → Answer
modules_answer s = unchanged s (printed_reply [] (names_text s.design.modules))

-- the word of the role of a port
abbrev pub direction : Role → List ℕ
direction Inner = codes "inner"
direction Input = codes "input"
direction Output = codes "output"
direction Inout = codes "inout"

-- the line of a port: its name, its direction and its width
abbrev pub port_line : PortLine → List ℕ
port_line port = port.name ++ codes " " ++ direction port.role ++ codes " " ++ decimal port.width ++ codes "\n"

-- the ports of a module are written, in the order of their numbers
abbrev pub ports_answer : State → List ℕ → Answer
ports_answer s name = by_module s name (λ m.
    unchanged s (printed_reply [] (flat_map port_line (ports_of m.wires))))

-- what is answered by the stimulus of a text: an error where a line of it is bad
abbrev pub by_stimulus : State → Result (List (List Bit)) ℕ → (List (List Bit) → Answer) → Answer
by_stimulus s (Ok stimulus) answer = answer stimulus
by_stimulus s (Err number) answer = refusal s (codes "23 " ++ decimal number)

-- a module's source is run in an order of time over a stimulus
abbrev pub source_reply : State → Order → Module → List (List Bit) → Reply
source_reply s order m stimulus =
    ok_reply (ok_line (counted (codes "steps") (length stimulus)) ++ trace_text order s.design m stimulus)

abbrev pub source_answer : State → Order → List ℕ → List ℕ → Answer
source_answer s order name text = by_module s name (λ m.
    by_stimulus s (stimulus_of m text) (λ stimulus. unchanged s (source_reply s order m stimulus)))

-- a module of the netlist is run in an order of time over a stimulus
abbrev pub netlist_reply : State → Order → List ℕ → List (List Bit) → Option Module → Reply
netlist_reply s order name stimulus None = error_reply (codes "18 " ++ name)
netlist_reply s order name stimulus (Some m) =
    ok_reply (ok_line (built_words s ++ counted (codes "steps") (length stimulus)) ++ trace_text order (netlist_of s) m stimulus)

-- as for `run`, and then the module of the netlist is run
abbrev pub netlist_run_answer : State → Order → List ℕ → List ℕ → Answer
netlist_run_answer s order name text = by_module s name (λ m.
    by_stimulus s (stimulus_of m text) (λ stimulus.
    netlist_answer s (netlist_reply s order name stimulus (module_named (netlist_of s).modules name))))
