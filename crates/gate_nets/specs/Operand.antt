-- The operands of cells, at a width.
use Rattle.std.specs.Prelude.{ℕ, Bool, List, length, max}
use Rattle.cell_types.specs.declared.pin_name.PinName.{PinName}
use Rattle.cell_types.specs.declared.pin_name.PinName.TheVariants.{A, B}
use Rattle.rtl_ir.specs.declared.cell.Cell.{Cell}
use Rattle.rtl_sig.specs.Signal.{extended}
use Rattle.rtl_sig.specs.declared.sig.SigBit.{SigBit}
use Rattle.map_laws.specs.Operand.{pin_signal}

-- the greater width of the operands A and B
abbrev pub greater_width : Cell → ℕ
greater_width c = max (length (pin_signal c A)) (length (pin_signal c B))

-- an operand, cut or filled up to a width
abbrev pub operand_of : Cell → PinName → ℕ → Bool → List SigBit
operand_of c name width signed = extended (pin_signal c name) width signed
