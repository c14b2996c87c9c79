-- How often each bit of a module is driven, as far as it matters: not, once, or more often.
use Rattle.std.specs.Prelude.{◌≡◌, ℕ, ◌+◌, min, nat_lt, Some, List, [], ◌∷◌, ◌++◌, length, take, flat_map, replicate, slice_index, slice_set, if◌then◌else◌}
use Rattle.std.specs.Option.{option_map_or}
use Rattle.rtl_sig.specs.declared.sig.WireBit.{WireBit}
use Rattle.rtl_ir.specs.declared.cell.Cell.{Cell}
use Rattle.rtl_ir.specs.declared.cell.Pin.{Pin}
use Rattle.rtl_ir.specs.declared.module.Link.{Link}
use Rattle.rtl_ir.specs.declared.process.Process.{Process}
use Rattle.rtl_ir.specs.declared.wire.Wire.{Wire}
use Rattle.rtl_ir.specs.Assigns.{tree_bits}
use Rattle.rtl_ir.specs.Drivers.{Drive, is_input}
use Rattle.rtl_ir.specs.Faults.Bits.{has_two}
use Rattle.rtl_ir.specs.Outputs.{drives_pin}
use Rattle.rtl_ir.specs.Rules.{updated_bits}
use Rattle.rtl_ir.specs.Signals.{bits_of_wire, wire_bits}
use Rattle.rtl_ir.specs.Types.{CellType, Ports, cell_type}
use Rattle.net_index.specs.Numbering.{bit_count, number_of}
use Rattle.process_check.specs.Updates.{AreAlike}

-- the widths of the wires, and for each bit, by its number, how often it was counted, up to 2
pub record Tallied : Type 0 where
  pub widths : List ℕ
  pub counts : List ℕ

-- no bit of wires of these widths was counted
abbrev pub untallied : List ℕ → Tallied
untallied widths = record { widths = widths; counts = replicate (bit_count widths) 0 }

-- one more, up to 2
abbrev pub raised : List ℕ → ℕ → List ℕ
raised counts number = slice_set counts number (min 2 (slice_index counts number + 1))

-- the bit is counted once more, where a wire has it
abbrev pub with_bit : Tallied → WireBit → Tallied
with_bit t b = record t { counts = option_map_or (raised t.counts) (number_of t.widths b) t.counts }

-- each of the bits is counted once more
abbrev pub with_bits : Tallied → List WireBit → Tallied
with_bits t [] = t
with_bits t (b ∷ bits) = with_bits (with_bit t b) bits

-- the bits of a wire at a place, where it is an input port
abbrev pub bits_of_port : ℕ → Wire → List WireBit
bits_of_port wire w = if is_input w.role then bits_of_wire wire w.width else []

-- the bits of the input ports among the wires from a place on
abbrev pub port_bits : ℕ → List Wire → List WireBit
port_bits wire [] = []
port_bits wire (w ∷ ws) = bits_of_port wire w ++ port_bits (wire + 1) ws

-- the bits that a cell of this type drives by a pin
abbrev pub bits_of_pin : CellType → Pin → List WireBit
bits_of_pin type p = if drives_pin type p.name then wire_bits p.sig else []

-- the bits that a cell drives
abbrev pub bits_of_cell : Ports → Cell → List WireBit
bits_of_cell ports c = flat_map (bits_of_pin (cell_type ports c.kind_name)) c.pins

-- the bits that a connection drives, of unequal sides as far as both go
abbrev pub bits_of_link : Link → List WireBit
bits_of_link l = wire_bits (take (min (length l.left) (length l.right)) l.left)

-- the bits that the tree of a process drives
abbrev pub bits_of_tree : Process → List WireBit
bits_of_tree p = tree_bits p.root

-- the bits that the rules of a process update
abbrev pub bits_of_rules : Process → List WireBit
bits_of_rules p = updated_bits p.syncs

-- these bits are counted, or others of which each stands there as often, as far as it matters
abbrev pub HasCounted : Tallied → List WireBit → Tallied → Type 0
HasCounted old bits new = (others : List WireBit) × AreAlike others bits × (new ≡ with_bits old others)

-- the counts tell which bits are driven more than once
abbrev pub Tells : Tallied → List Drive → Type 0
Tells t drives = (b : WireBit) (number : ℕ) → number_of t.widths b ≡ Some number → nat_lt 1 (slice_index t.counts number) ≡ has_two drives b
