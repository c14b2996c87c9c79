-- Cells with another signal at one pin.
use Rattle.std.specs.Prelude.{ℕ, ◌==◌, List, length, map, if◌then◌else◌}
use Rattle.std.specs.Str.{bytes_eq}
use Rattle.rtl_sig.specs.declared.sig.SigBit.{SigBit}
use Rattle.cell_types.specs.declared.param_name.ParamName.TheVariants.{AWidth}
use Rattle.cell_types.specs.declared.pin_name.PinName.{PinName}
use Rattle.cell_types.specs.declared.pin_name.PinName.TheVariants.{A}
use Rattle.cell_types.specs.ParamName.{param_text}
use Rattle.cell_types.specs.PinName.{pin_text}
use Rattle.rtl_ir.specs.Build.{integer_param, pin_of}
use Rattle.rtl_ir.specs.Parameters.{signal_at}
use Rattle.rtl_ir.specs.declared.cell.Cell.{Cell}
use Rattle.rtl_ir.specs.declared.cell.CellParam.{CellParam}
use Rattle.rtl_ir.specs.declared.cell.Pin.{Pin}

-- a pin with a signal in place of its own, where it has this name
abbrev pub repinned : PinName → List SigBit → Pin → Pin
repinned name signal pin = if bytes_eq pin.name (pin_text name) then pin_of (pin_text name) signal else pin

-- the pins with a signal at the one of this name
abbrev pub with_signal : PinName → List SigBit → List Pin → List Pin
with_signal name signal pins = map (repinned name signal) pins

-- a parameter, with a number in place of its value where it is the width of A
abbrev pub renumbered : ℕ → CellParam → CellParam
renumbered width param =
    if bytes_eq param.name (param_text AWidth) then integer_param (param_text AWidth) width else param

-- the parameters with another width of A: it is rewritten where it differs
abbrev pub with_width : (old new : ℕ) → List CellParam → List CellParam
with_width old new params = if old == new then params else map (renumbered new) params

-- a cell with another signal at A, as wide as that is
abbrev pub with_inputs : List SigBit → Cell → Cell
with_inputs a c = record c {
  params = with_width (length (signal_at c.pins (pin_text A))) (length a) c.params;
  pins = with_signal A a c.pins;
}
