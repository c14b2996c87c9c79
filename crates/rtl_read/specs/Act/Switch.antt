-- Switches: a signal, and cases up to `end`.
use Rattle.std.specs.Prelude.{Result, Ok}
use Rattle.rtl_lex.specs.declared.sort.Sort.{Sort}
use Rattle.rtl_lex.specs.declared.sort.Sort.TheVariants as sorts
use Rattle.rtl_lex.specs.Items.{Seen}
use Rattle.rtl_read.specs.declared.draft.Draft.{Draft}
use Rattle.rtl_read.specs.declared.draft.PairKind.TheVariants.{Assign}
use Rattle.rtl_read.specs.declared.read_fault.ReadFault.{ReadFault}
use Rattle.rtl_grammar.specs.Uses.{◌>>=◌}
use Rattle.rtl_read.specs.Signal.{some_bits}
use Rattle.rtl_read.specs.Meaning.Attribute.{no_attributes}
use Rattle.rtl_read.specs.Meaning.Tree.{enter_switch, open_case, close_case, close_switch, with_pattern}
use Rattle.rtl_read.specs.Act.Signal.{open_bracket, begin_signal, without_signal}
use Rattle.rtl_read.specs.Act.Process.{with_tree, open_switch}

-- a bracket behind the signal of a switch; or the end of the line
abbrev pub act_behind_switch : Sort → Seen → Draft → Result Draft ReadFault
act_behind_switch sorts.OpenIndex i d = Ok (open_bracket i d)
act_behind_switch sort i d = some_bits d.signal.part i >>= λ sig. Ok (with_tree (enter_switch sig d.process.tree) (without_signal d))

-- the word `case` behind its attributes, which are its own
abbrev pub act_next_case : Sort → Draft → Draft
act_next_case sorts.Case d = with_tree (open_case d.attributes.items d.process.tree) (record d { attributes = no_attributes })
act_next_case sort d = d

-- the first case of a switch, or its end
abbrev pub act_cases : Sort → Draft → Draft
act_cases sorts.End d = with_tree (close_switch d.process.tree) d
act_cases sort d = act_next_case sort d

-- the first pattern begins; or the end of the line: there is none
abbrev pub act_patterns : Sort → Seen → Draft → Result Draft ReadFault
act_patterns sorts.Line i d = Ok d
act_patterns sort i d = begin_signal sort i d

-- a bracket behind a pattern; or it is whole
abbrev pub act_behind_pattern : Sort → Seen → Draft → Result Draft ReadFault
act_behind_pattern sorts.OpenIndex i d = Ok (open_bracket i d)
act_behind_pattern sort i d = some_bits d.signal.part i >>= λ sig. Ok (with_tree (with_pattern sig d.process.tree) (without_signal d))

-- the open case is whole
abbrev pub end_case : Draft → Draft
end_case d = with_tree (close_case d.process.tree) d

-- a switch in the open case, or the next case, behind its attributes
abbrev pub act_next_in_case : Sort → Seen → Draft → Result Draft ReadFault
act_next_in_case sorts.Switch i d = open_switch i d
act_next_in_case sorts.Case i d = Ok (act_next_case sorts.Case (end_case d))
act_next_in_case sort i d = Ok d

-- an assign or a switch of a case, the next case, or the end of the switch
abbrev pub act_case_body : Sort → Seen → Draft → Result Draft ReadFault
act_case_body sorts.Assign i d = Ok (record d { pair = Assign })
act_case_body sorts.End i d = Ok (act_cases sorts.End (end_case d))
act_case_body sort i d = act_next_in_case sort i d
