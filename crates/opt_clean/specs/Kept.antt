-- The cells that are kept: the least set that has what the outside needs, and what is read by what is kept.
use Rattle.std.specs.Prelude.{ℕ, zero, suc, Bool, false, ◌||◌, List, [], ◌∷◌, ◌++◌, length, map, flat_map, if◌then◌else◌}
use Rattle.std.specs.List.{list_any}
use Rattle.rtl_sig.specs.declared.sig.WireBit.{WireBit}
use Rattle.rtl_ir.specs.Outputs.{drives_pin}
use Rattle.rtl_ir.specs.Signals.{has_bit, wire_bits}
use Rattle.rtl_ir.specs.Types.{CellType, Ports, cell_type}
use Rattle.rtl_ir.specs.declared.cell.Cell.{Cell}
use Rattle.rtl_ir.specs.declared.cell.Pin.{Pin}
use Rattle.rtl_ir.specs.declared.module.Link.{Link}
use Rattle.rtl_ir.specs.declared.wire.Wire.{Wire}
use Rattle.opt_clean.specs.Keep.{is_root, output_bits}

-- the bits that pins read
abbrev pub read_bits : CellType → List Pin → List WireBit
read_bits type [] = []
read_bits type (p ∷ ps) = (if drives_pin type p.name then [] else wire_bits p.sig) ++ read_bits type ps

-- the bits that a cell reads
abbrev pub input_bits : Ports → Cell → List WireBit
input_bits ports c = read_bits (cell_type ports c.kind_name) c.pins

-- the bits on the right of connections
abbrev pub right_bits : List Link → List WireBit
right_bits links = flat_map (λ (l : Link). wire_bits l.right) links

-- what cells and connections read
abbrev pub bits_read : Ports → List Link → List Cell → List WireBit
bits_read ports links cells = right_bits links ++ flat_map (input_bits ports) cells

-- those of a list that are marked
abbrev pub marked : {A : Type 0} → List Bool → List A → List A
marked [] xs = []
marked (t ∷ ts) [] = []
marked (t ∷ ts) (x ∷ xs) = if t then x ∷ marked ts xs else marked ts xs

-- the outside needs a cell, or one of its bits is among those that are read
abbrev pub is_needed : Ports → List Wire → List WireBit → Cell → Bool
is_needed ports wires bits c = is_root ports wires c || list_any (has_bit bits) (output_bits ports c)

-- the cells that are needed where the connections and the marked cells read
abbrev pub next_marks : Ports → List Wire → List Link → List Cell → List Bool → List Bool
next_marks ports wires links cells marks = map (is_needed ports wires (bits_read ports links (marked marks cells))) cells

-- the marks after so many rounds
abbrev pub marks_after : Ports → List Wire → List Link → List Cell → ℕ → List Bool
marks_after ports wires links cells zero = map (λ c. false) cells
marks_after ports wires links cells (suc n) = next_marks ports wires links cells (marks_after ports wires links cells n)

-- the cells that are kept: each round but the last marks a further one, so there are no more rounds than cells
unfoldable pub kept_marks : Ports → List Wire → List Link → List Cell → List Bool
kept_marks ports wires links cells = marks_after ports wires links cells (length cells)
