-- The signals at the inputs of cells.
use Rattle.std.proofs.Common.{List, map, filter}
use Rattle.std.specs.Prelude.{not}
use Rattle.std.specs.Str.{bytes_eq}
use Rattle.cell_types.specs.declared.pin_name.PinName.{PinName}
use Rattle.cell_types.specs.declared.pin_name.PinName.TheVariants.{Y}
use Rattle.cell_types.specs.PinName.{pin_text}
use Rattle.rtl_sig.specs.declared.sig.SigBit.{SigBit}
use Rattle.rtl_ir.specs.declared.cell.Cell.{Cell}
use Rattle.rtl_ir.specs.Parameters.{signal_at}

-- the signals at those of these pins that are inputs
abbrev pub signals_of : Cell → List PinName → List (List SigBit)
signals_of c names = map (λ name. signal_at c.pins (pin_text name)) (filter (λ name. not (bytes_eq (pin_text name) (pin_text Y))) names)
