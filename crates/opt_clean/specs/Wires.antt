-- Wires that nothing needs go.
use Rattle.std.specs.Prelude.{ℕ, ◌+◌, ◌==◌, Bool, ◌||◌, List, [], ◌∷◌, ◌++◌, map, flat_map, take, if◌then◌else◌}
use Rattle.std.specs.List.{list_any}
use Rattle.rtl_sig.specs.declared.sig.SigBit.{SigBit}
use Rattle.rtl_sig.specs.declared.sig.SigBit.TheVariants.{Fixed, Wire as OnWire}
use Rattle.rtl_sig.specs.declared.sig.WireBit.{WireBit}
use Rattle.rtl_ir.specs.Ports.{is_port}
use Rattle.rtl_ir.specs.Signals.{wire_bits}
use Rattle.rtl_ir.specs.declared.cell.Cell.{Cell}
use Rattle.rtl_ir.specs.declared.cell.Pin.{Pin}
use Rattle.rtl_ir.specs.declared.module.Link.{Link}
use Rattle.rtl_ir.specs.declared.module.Module.{Module}
use Rattle.rtl_ir.specs.declared.wire.Wire.{Wire}
use Rattle.rtl_ir.specs.Attributes.{is_kept}
use Rattle.opt_clean.specs.Kept.{marked}

-- the bits of the pins of a cell
abbrev pub cell_bits : Cell → List WireBit
cell_bits c = flat_map (λ (p : Pin). wire_bits p.sig) c.pins

-- the bits of a connection
abbrev pub link_bits : Link → List WireBit
link_bits l = wire_bits l.left ++ wire_bits l.right

-- the bits of a module that its cells and connections name
abbrev pub named_bits : Module → List WireBit
named_bits m = flat_map cell_bits m.cells ++ flat_map link_bits m.links

-- one of the bits is of the wire at this place
abbrev pub names_wire : List WireBit → ℕ → Bool
names_wire bits wire = list_any (λ (b : WireBit). b.wire == wire) bits

-- the wire at this place stays: it is a port, has `\keep`, or has one of the bits
abbrev pub stays : List WireBit → ℕ → Wire → Bool
stays bits wire w = is_port w.role || (is_kept w.attributes || names_wire bits wire)

-- which of the wires from a place on stay
abbrev pub wire_marks : List WireBit → ℕ → List Wire → List Bool
wire_marks bits wire [] = []
wire_marks bits wire (w ∷ ws) = stays bits wire w ∷ wire_marks bits (wire + 1) ws

-- how many are marked
abbrev pub mark_count : List Bool → ℕ
mark_count [] = 0
mark_count (t ∷ ts) = (if t then 1 else 0) + mark_count ts

-- the place of a wire among those that stay
abbrev pub new_place : List Bool → ℕ → ℕ
new_place marks wire = mark_count (take wire marks)

-- a bit by the new place of its wire
abbrev pub moved_bit : List Bool → SigBit → SigBit
moved_bit marks (Fixed b) = Fixed b
moved_bit marks (OnWire b) = OnWire (record { wire = new_place marks b.wire; at = b.at })

-- a pin, a cell and a connection with such bits
abbrev pub moved_pin : List Bool → Pin → Pin
moved_pin marks p = record { name = p.name; sig = map (moved_bit marks) p.sig }

abbrev pub moved_cell : List Bool → Cell → Cell
moved_cell marks c = record c { pins = map (moved_pin marks) c.pins }

abbrev pub moved_link : List Bool → Link → Link
moved_link marks l = record { left = map (moved_bit marks) l.left; right = map (moved_bit marks) l.right }

-- the marked wires alone
abbrev pub with_wires_marked : List Bool → Module → Module
with_wires_marked marks m = record m {
  wires = marked marks m.wires;
  cells = map (moved_cell marks) m.cells;
  links = map (moved_link marks) m.links;
}

-- the wires that stay alone; the module has cells and connections, and nothing else that names wires
abbrev pub trimmed : Module → Module
trimmed m = with_wires_marked (wire_marks (named_bits m) 0 m.wires) m
