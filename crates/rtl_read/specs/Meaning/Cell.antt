-- The cell that is open: what it has, the names of its parameters and pins, and the name that stands last.
use Rattle.std.specs.Prelude.{List, [], ◌∷◌, ◌++◌, false, is_some, if◌then◌else◌, Result, Ok, Err}
use Rattle.rtl_lex.specs.Items.{Seen}
use Rattle.rtl_sig.specs.declared.sig.SigBit.{SigBit}
use Rattle.rtl_sig.specs.Names.{number_of, with_name}
use Rattle.rtl_ir.specs.declared.value.Value.{Value}
use Rattle.rtl_ir.specs.declared.value.Attribute.{Attribute}
use Rattle.rtl_read.specs.declared.read_fault.ReadFault.{ReadFault}
use Rattle.rtl_read.specs.declared.read_fault.ReadFault.TheVariants as faults
use Rattle.rtl_read.specs.declared.open_cell.OpenCell.{OpenCell}

-- a cell with these attributes, in which there is nothing yet
abbrev pub plain_cell : List Attribute → OpenCell
plain_cell attributes = record {
  cell = record { kind_name = []; name = []; params = []; pins = []; attributes = attributes };
  params = [];
  pins = [];
  name = [];
  signed = false;
}

-- its type, its name
abbrev pub with_kind : Seen → OpenCell → OpenCell
with_kind i c = record c { cell = record c.cell { kind_name = i.text } }

abbrev pub with_cell_name : Seen → OpenCell → OpenCell
with_cell_name i c = record c { cell = record c.cell { name = i.text } }

-- the name of a parameter, which no parameter above it has
abbrev pub with_param_name : Seen → OpenCell → Result OpenCell ReadFault
with_param_name i c = if is_some (number_of c.params i.text) then Err (faults.Duplicate i.place) else Ok (record c { params = with_name c.params i.text; name = i.text })

-- the name of a pin, which no pin above it has
abbrev pub with_pin_name : Seen → OpenCell → Result OpenCell ReadFault
with_pin_name i c = if is_some (number_of c.pins i.text) then Err (faults.Duplicate i.place) else Ok (record c { pins = with_name c.pins i.text; name = i.text })

-- the value of the parameter whose name stands last; the next parameter has no `signed` yet
abbrev pub with_param : Value → OpenCell → OpenCell
with_param v c = record c { cell = record c.cell { params = c.cell.params ++ record { name = c.name; value = v; signed = c.signed } ∷ [] }; name = []; signed = false }

-- the signal of the pin whose name stands last
abbrev pub with_pin : List SigBit → OpenCell → OpenCell
with_pin sig c = record c { cell = record c.cell { pins = c.cell.pins ++ record { name = c.name; sig = sig } ∷ [] }; name = [] }
