-- What the outside sees, and what may not go.
use Rattle.std.specs.Prelude.{Bool, true, false, ◌||◌, List, Option, Some, None, slice_get}
use Rattle.std.specs.List.{list_any}
use Rattle.std.specs.Option.{option_map_or}
use Rattle.rtl_sig.specs.declared.sig.WireBit.{WireBit}
use Rattle.cell_types.specs.declared.kind.CellKind.{CellKind}
use Rattle.rtl_ir.specs.Faults.Cells.{is_memory_kind}
use Rattle.rtl_ir.specs.Flat.Cell.{cell_kind}
use Rattle.rtl_ir.specs.Attributes.{is_kept}
use Rattle.rtl_ir.specs.Outputs.{is_output}
use Rattle.rtl_ir.specs.Types.{Ports, cell_type}
use Rattle.rtl_ir.specs.declared.cell.Cell.{Cell}
use Rattle.rtl_ir.specs.declared.wire.Wire.{Wire}
use Rattle.pass_laws.specs.Bits.{pin_bits}

-- an output port, or a wire with `\keep`
abbrev pub is_shown : Wire → Bool
is_shown w = is_output w.role || is_kept w.attributes

-- a bit of such a wire
abbrev pub is_shown_bit : List Wire → WireBit → Bool
is_shown_bit wires b = option_map_or is_shown (slice_get wires b.wire) false

-- an instance, or a cell of a memory
abbrev pub stays_by : Option CellKind → Bool
stays_by (Some kind) = is_memory_kind kind
stays_by None = true

-- the bits that a cell drives
abbrev pub output_bits : Ports → Cell → List WireBit
output_bits ports c = pin_bits (cell_type ports c.kind_name) c.pins

-- a cell that is kept whatever reads it: by its kind, by `\keep`, or since it drives a bit that the outside sees
abbrev pub is_root : Ports → List Wire → Cell → Bool
is_root ports wires c =
    stays_by (cell_kind c) || (is_kept c.attributes || list_any (is_shown_bit wires) (output_bits ports c))
