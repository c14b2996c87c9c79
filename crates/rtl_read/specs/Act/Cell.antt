-- Cells: a type, a name, and lines up to `end`.
use Rattle.std.specs.Prelude.{[], true, Result, Ok}
use Rattle.rtl_lex.specs.declared.sort.Sort.{Sort}
use Rattle.rtl_lex.specs.declared.sort.Sort.TheVariants as sorts
use Rattle.rtl_lex.specs.Items.{Seen}
use Rattle.rtl_read.specs.declared.draft.Draft.{Draft}
use Rattle.rtl_read.specs.declared.read_fault.ReadFault.{ReadFault}
use Rattle.rtl_grammar.specs.Uses.{◌>>=◌}
use Rattle.rtl_read.specs.Constant.{constant}
use Rattle.rtl_read.specs.Meaning.Module.{with_item_name, with_cell}
use Rattle.rtl_read.specs.Meaning.Cell.{plain_cell, with_kind, with_cell_name, with_param_name, with_pin_name, with_param, with_pin}
use Rattle.rtl_read.specs.Act.Signal.{open_bracket, without_signal}

-- the type of a cell
abbrev pub act_cell_kind : Seen → Draft → Draft
act_cell_kind i d = record d { cell = with_kind i d.cell }

-- the name of a cell, which no other item of the module has
abbrev pub act_cell_name : Seen → Draft → Result Draft ReadFault
act_cell_name i d = with_item_name i d.current >>= λ m. Ok (record d { current = m; cell = with_cell_name i d.cell })

-- a line of a cell; or its end, with which it is whole
abbrev pub act_cell_body : Sort → Draft → Draft
act_cell_body sorts.End d = record d { current = with_cell d.cell.cell d.current; cell = plain_cell [] }
act_cell_body sort d = d

-- the name of a parameter of a cell, which no parameter above it has
abbrev pub act_cell_parameter_name : Seen → Draft → Result Draft ReadFault
act_cell_parameter_name i d = with_param_name i d.cell >>= λ c. Ok (record d { cell = c })

-- `signed`, or the name
abbrev pub act_cell_parameter : Sort → Seen → Draft → Result Draft ReadFault
act_cell_parameter sorts.Signed i d = Ok (record d { cell = record d.cell { signed = true } })
act_cell_parameter sort i d = act_cell_parameter_name i d

-- its value
abbrev pub act_cell_parameter_value : Sort → Seen → Draft → Result Draft ReadFault
act_cell_parameter_value sort i d = constant sort i >>= λ v. Ok (record d { cell = with_param v d.cell })

-- the name of a pin, which no pin above it has
abbrev pub act_pin_name : Seen → Draft → Result Draft ReadFault
act_pin_name i d = with_pin_name i d.cell >>= λ c. Ok (record d { cell = c })

-- a bracket behind the signal of a pin; or the end of the line: the pin has the signal, which may be empty
abbrev pub act_behind_pin : Sort → Seen → Draft → Draft
act_behind_pin sorts.OpenIndex i d = open_bracket i d
act_behind_pin sort i d = record (without_signal d) { cell = with_pin d.signal.part d.cell }
