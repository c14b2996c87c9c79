-- the shape of a cell: what its value depends on beside its inputs
use Rattle.std.specs.Prelude.{ℕ, Bool, true, false, List, [], ◌∷◌, Option, Some, None, Result, Ok, Err, ◌-◌, ◌^◌, min, nat_lt}
use Rattle.rtl_bits.specs.declared.bit.Bit.{Bit}
use Rattle.rtl_bits.specs.declared.bit.Bit.TheVariants.{S0, S1}
use Rattle.cell_types.specs.declared.fault.CellFault.{CellFault}
use Rattle.cell_types.specs.declared.given.Param.{Param}
use Rattle.cell_types.specs.declared.given.PinWidth.{PinWidth}
use Rattle.cell_types.specs.declared.kind.CellKind.{CellKind}
use Rattle.cell_types.specs.declared.kind.CellKind.TheVariants as Cell
use Rattle.cell_types.specs.declared.param_name.ParamName.{ParamName}
use Rattle.cell_types.specs.declared.param_name.ParamName.TheVariants.{ASigned, BSigned, Width, Offset, ArstValue, SrstValue, Abits, ClkEnable, Portid, PriorityMask, Words, Priority}
use Rattle.cell_types.specs.declared.pin_name.PinName.TheVariants.{A, B, S, Y}
use Rattle.cell_types.specs.declared.shape.Port.{Port}
use Rattle.cell_types.specs.declared.shape.Resets.{Resets}
use Rattle.cell_types.specs.declared.shape.Shape.{Shape}
use Rattle.cell_types.specs.declared.shape.Signs.{Signs}
use Rattle.cell_types.specs.declared.shape.Widths.{Widths}
use Rattle.cell_types.specs.declared.storage_gate.StorageGate.{StorageGate}
use Rattle.cell_types.specs.declared.storage_gate.StorageGate.TheVariants.{Adff, Adffe, Adlatch, Sdff, Sdffe, Sdffce}
use Rattle.cell_types.specs.Fault.{fault_of}
use Rattle.cell_types.specs.Given.{number_in, value_in}
use Rattle.cell_types.specs.Levels.{levels_of}
use Rattle.cell_types.specs.Widths.{pin_width}

-- a number, cut off at the greatest of 32 bits
abbrev pub small : ℕ → ℕ
small number = min number (2 ^ 32 - 1)

-- any number but 0 sets a sign or an enable
abbrev pub is_set : List Param → ParamName → Bool
is_set params name = nat_lt 0 (number_in params name)

-- the widths of four pins
abbrev pub pin_widths : CellKind → List Param → Widths
pin_widths kind params = record {
  a = small (pin_width kind params A);
  b = small (pin_width kind params B);
  s = small (pin_width kind params S);
  y = small (pin_width kind params Y);
}

-- the widths of the pins of a combinational cell
abbrev pub widths_of : CellKind → List Param → Widths
widths_of (Cell.Word kind) params = pin_widths (Cell.Word kind) params
widths_of (Cell.Gate kind) params = pin_widths (Cell.Gate kind) params
widths_of _ params = record { a = 0; b = 0; s = 0; y = 0 }

-- whether the operands are signed
abbrev pub signs_of : List Param → Signs
signs_of params = record { a = is_set params ASigned; b = is_set params BSigned }

-- the width of what a cell keeps
abbrev pub width_of : CellKind → List Param → ℕ
width_of (Cell.StorageGate _) params = 1
width_of _ params = small (number_in params Width)

-- a value as a bit
abbrev pub bit_of : Bool → Bit
bit_of false = S0
bit_of true = S1

-- no reset
abbrev pub no_reset : Resets
no_reset = record { arst = []; srst = [] }

-- what the last digit of a gate's name sets
abbrev pub gate_resets : StorageGate → Resets
gate_resets (Adff _ _ value) = record no_reset { arst = bit_of value ∷ [] }
gate_resets (Adffe _ _ value _) = record no_reset { arst = bit_of value ∷ [] }
gate_resets (Adlatch _ _ value) = record no_reset { arst = bit_of value ∷ [] }
gate_resets (Sdff _ _ value) = record no_reset { srst = bit_of value ∷ [] }
gate_resets (Sdffe _ _ value _) = record no_reset { srst = bit_of value ∷ [] }
gate_resets (Sdffce _ _ value _) = record no_reset { srst = bit_of value ∷ [] }
gate_resets _ = no_reset

-- what the resets of a storage cell set
abbrev pub resets_of : CellKind → List Param → Resets
resets_of (Cell.Storage _) params = record { arst = value_in params ArstValue; srst = value_in params SrstValue }
resets_of (Cell.StorageGate gate) params = gate_resets gate
resets_of _ params = no_reset

-- what a memory cell says beside the memory's name
abbrev pub port_of : List Param → Port
port_of params = record {
  address = small (number_in params Abits);
  clocked = is_set params ClkEnable;
  number = small (number_in params Portid);
  mask = value_in params PriorityMask;
  words = small (number_in params Words);
  priority = value_in params Priority;
}

-- the shape of a cell without faults
abbrev pub made_shape : CellKind → List Param → Shape
made_shape kind params = record {
  kind = kind;
  widths = widths_of kind params;
  signs = signs_of params;
  offset = small (number_in params Offset);
  width = width_of kind params;
  levels = levels_of kind params;
  resets = resets_of kind params;
  port = port_of params;
}

-- a fault in place of a shape
abbrev pub unless : Option CellFault → Shape → Result Shape CellFault
unless (Some fault) shape = Err fault
unless None shape = Ok shape

-- the shape of a cell, or its first fault
abbrev pub shape_of : CellKind → List Param → List PinWidth → Result Shape CellFault
shape_of kind params pins = unless (fault_of kind params pins) (made_shape kind params)
