-- The gates of a cell, by its kind.
use Rattle.std.specs.Prelude.{ℕ, Bool, true, false, List, [], if◌then◌else◌, length, max}
use Rattle.cell_types.specs.declared.kind.CellKind.{CellKind}
use Rattle.cell_types.specs.declared.kind.CellKind.TheVariants.{Word}
use Rattle.cell_types.specs.declared.pin_name.PinName.TheVariants.{A, B, Y}
use Rattle.cell_types.specs.declared.shape.Shape.{Shape}
use Rattle.cell_types.specs.declared.word.ShiftKind.{ShiftKind}
use Rattle.cell_types.specs.declared.word.ShiftKind.TheVariants as Kind
use Rattle.cell_types.specs.declared.word.WordKind.TheVariants.{Shift}
use Rattle.rtl_bits.specs.declared.bit.Bit.TheVariants.{S0, X}
use Rattle.rtl_ir.specs.Build.{Build, Building}
use Rattle.rtl_ir.specs.declared.cell.Cell.{Cell}
use Rattle.rtl_sig.specs.Signal.{fill_of}
use Rattle.rtl_sig.specs.declared.sig.SigBit.{SigBit}
use Rattle.rtl_sig.specs.declared.sig.SigBit.TheVariants.{Fixed}
use Rattle.map_laws.specs.Operand.{pin_signal}
use Rattle.gate_nets.specs.Gate.{pure}
use Rattle.gate_nets.specs.Give.{given}
use Rattle.gate_nets.specs.Operand.{operand_of}
use Rattle.map_shift.specs.Shift.{either_of, shifted_of}
use Rattle.map_shift.specs.declared.moves.Way.TheVariants.{Left, Right}

-- a kind becomes gates here
abbrev pub is_mapped : CellKind → Bool
is_mapped (Word (Shift kind)) = true
is_mapped kind = false

-- what a kind moves into the places that are left: `$sshr` the sign, `$shiftx` x
abbrev pub fill_by : ShiftKind → Bool → List SigBit → SigBit
fill_by Kind.Sshr signed a = fill_of a signed
fill_by Kind.Shiftx signed a = Fixed X
fill_by kind signed a = Fixed S0

-- a word moved by a distance, signed or not: `$shl` and `$sshl` to the top, the others to the lowest place
abbrev pub moved_by : ShiftKind → Bool → SigBit → List SigBit → List SigBit → Build (List SigBit)
moved_by Kind.Shl signed fill bits distance = shifted_of Left fill bits distance
moved_by Kind.Sshl signed fill bits distance = shifted_of Left fill bits distance
moved_by Kind.Shift true fill bits distance = either_of fill bits distance
moved_by Kind.Shiftx true fill bits distance = either_of fill bits distance
moved_by kind signed fill bits distance = shifted_of Right fill bits distance

-- the greater of the widths of A and Y
abbrev pub moved_width : Shape → Cell → ℕ
moved_width shape c = max (length (pin_signal c A)) shape.widths.y

-- the operand A, at the greater of its width and that of Y, moved by B
abbrev pub shift_by : ShiftKind → Shape → Cell → Build (List SigBit)
shift_by kind shape c =
    moved_by kind shape.signs.b (fill_by kind shape.signs.a (pin_signal c A)) (operand_of c A (moved_width shape c) shape.signs.a) (pin_signal c B)

-- the net of the value of a cell
abbrev pub value_of : CellKind → Shape → Cell → Build (List SigBit)
value_of (Word (Shift kind)) shape c = shift_by kind shape c
value_of kind shape c = pure []

-- what a cell of this shape becomes
abbrev pub map_of : Shape → Cell → Building → Building
map_of shape c b = if is_mapped shape.kind then given (pin_signal c Y) (value_of shape.kind shape c) b else b
