-- Modules: a name, and statements up to `end`.
use Rattle.std.specs.Prelude.{[], ◌∷◌, ◌++◌, length, nat_le, is_some, if◌then◌else◌, Some, None, Result, Ok, Err}
use Rattle.rtl_lex.specs.declared.sort.Sort.{Sort}
use Rattle.rtl_lex.specs.declared.sort.Sort.TheVariants as sorts
use Rattle.rtl_lex.specs.Items.{Seen}
use Rattle.rtl_sig.specs.Names.{number_of, with_name}
use Rattle.rtl_read.specs.declared.draft.Draft.{Draft}
use Rattle.rtl_read.specs.declared.draft.PairKind.TheVariants.{Connect}
use Rattle.rtl_ir.specs.declared.limits.TheConstants.{MAX_CELLS}
use Rattle.rtl_read.specs.declared.read_fault.ReadFault.{ReadFault}
use Rattle.rtl_read.specs.declared.read_fault.ReadFault.TheVariants as faults
use Rattle.rtl_grammar.specs.Uses.{◌>>=◌}
use Rattle.rtl_read.specs.Constant.{constant}
use Rattle.rtl_read.specs.Meaning.Attribute.{no_attributes}
use Rattle.rtl_read.specs.Meaning.Module.{fresh_module, with_parameter}
use Rattle.rtl_read.specs.Meaning.Wire.{plain_wire, plain_store}
use Rattle.rtl_read.specs.Meaning.Cell.{plain_cell}
use Rattle.rtl_read.specs.Meaning.Process.{plain_process}

-- the name of a module, which no module above it has; the attributes that wait are its own
abbrev pub act_module_name : Seen → Draft → Result Draft ReadFault
act_module_name i d =
    if is_some (number_of d.names i.text) then Err (faults.Duplicate i.place)
    else Ok (record d { names = with_name d.names i.text; current = fresh_module i.text d.attributes.items; attributes = no_attributes })

-- the open module is whole
abbrev pub close_module : Draft → Draft
close_module d = record d { modules = d.modules ++ d.current.body ∷ []; current = fresh_module [] [] }

-- the word `wire`, `memory`, `cell`, `process`: the item begins, and the attributes that wait are its own
abbrev pub open_wire : Draft → Draft
open_wire d = record d { wire = plain_wire d.attributes.items; attributes = no_attributes }

abbrev pub open_store : Draft → Draft
open_store d = record d { store = plain_store d.attributes.items; attributes = no_attributes }

abbrev pub open_cell : Seen → Draft → Result Draft ReadFault
open_cell i d =
    if nat_le MAX_CELLS (length d.current.body.cells) then Err (faults.Limit i.place)
    else Ok (record d { cell = plain_cell d.attributes.items; attributes = no_attributes })

abbrev pub open_process : Draft → Draft
open_process d = record d { process = plain_process d.attributes.items; attributes = no_attributes }

-- the item behind its attributes
abbrev pub act_next_item : Sort → Seen → Draft → Result Draft ReadFault
act_next_item sorts.Wire i d = Ok (open_wire d)
act_next_item sorts.Memory i d = Ok (open_store d)
act_next_item sorts.Cell i d = open_cell i d
act_next_item sorts.Process i d = Ok (open_process d)
act_next_item sort i d = Ok d

-- a statement of a module, or its end
abbrev pub act_body : Sort → Seen → Draft → Result Draft ReadFault
act_body sorts.Connect i d = Ok (record d { pair = Connect })
act_body sorts.End i d = Ok (close_module d)
act_body sort i d = act_next_item sort i d

-- the name of a parameter of a module
abbrev pub act_parameter_name : Seen → Draft → Draft
act_parameter_name i d = record d { name = i.text }

-- its value, or the end of the line where it has none
abbrev pub act_parameter_value : Sort → Seen → Draft → Result Draft ReadFault
act_parameter_value sorts.Line i d = Ok (record d { current = with_parameter d.name None d.current; name = [] })
act_parameter_value sort i d = constant sort i >>= λ v. Ok (record d { current = with_parameter d.name (Some v) d.current; name = [] })
