-- What drives each bit of a wire in its module.
use Rattle.std.specs.Prelude.{ℕ, ◌+◌, Bool, true, false, List, [], ◌∷◌, ◌++◌, Option, if◌then◌else◌, map, find, option_map, count_by}
use Rattle.rtl_sig.specs.declared.sig.SigBit.{SigBit}
use Rattle.rtl_sig.specs.declared.sig.SigBit.TheVariants as sig
use Rattle.rtl_sig.specs.declared.sig.WireBit.{WireBit}
use Rattle.rtl_ir.specs.declared.cell.Cell.{Cell}
use Rattle.rtl_ir.specs.declared.cell.Pin.{Pin}
use Rattle.rtl_ir.specs.declared.module.Link.{Link}
use Rattle.rtl_ir.specs.declared.module.Module.{Module}
use Rattle.rtl_ir.specs.declared.process.Process.{Process}
use Rattle.rtl_ir.specs.declared.wire.Role.{Role}
use Rattle.rtl_ir.specs.declared.wire.Role.TheVariants.{Inner, Input, Output, Inout}
use Rattle.rtl_ir.specs.declared.wire.Wire.{Wire}
use Rattle.rtl_ir.specs.Assigns.{tree_bits}
use Rattle.rtl_ir.specs.Follow.{all_joins}
use Rattle.rtl_ir.specs.declared.follow.Join.{Join}
use Rattle.rtl_ir.specs.Outputs.{drives_pin}
use Rattle.rtl_ir.specs.Rules.{updated_bits}
use Rattle.rtl_ir.specs.Signals.{same_bit, bits_of_wire}
use Rattle.rtl_ir.specs.Types.{Ports, CellType, cell_type}

-- what gives a bit its value: the outside by an input port, a place of a cell's pin, the other side of a connection,
-- the tree of a process, or the rules of a process. Cells, pins and processes go by their places in their lists
pub data Source : Type 0 where
  FromPort : Source
  FromCell : (cell pin at : ℕ) → Source
  FromLink : SigBit → Source
  FromTree : (process : ℕ) → Source
  FromRules : (process : ℕ) → Source

-- a bit, and what drives it
pub record Drive : Type 0 where
  pub bit : WireBit
  pub source : Source

-- the role of an input port
abbrev pub is_input : Role → Bool
is_input Inner = false
is_input Input = true
is_input Output = false
is_input Inout = false

-- these bits, driven alike
abbrev pub all_by : Source → List WireBit → List Drive
all_by source bits = map (λ b. record { bit = b; source = source }) bits

-- the bits of the input ports among the wires from a place on
abbrev pub port_drives : ℕ → List Wire → List Drive
port_drives wire [] = []
port_drives wire (w ∷ ws) =
    (if is_input w.role then all_by FromPort (bits_of_wire wire w.width) else []) ++ port_drives (wire + 1) ws

-- the bits of a signal from a place on, each driven by its own place
abbrev pub places_by : (ℕ → Source) → ℕ → List SigBit → List Drive
places_by source at [] = []
places_by source at (sig.Fixed c ∷ bits) = places_by source (at + 1) bits
places_by source at (sig.Wire b ∷ bits) = record { bit = b; source = source at } ∷ places_by source (at + 1) bits

-- what a cell drives by its pins from a place on
abbrev pub pin_drives : CellType → ℕ → ℕ → List Pin → List Drive
pin_drives type cell pin [] = []
pin_drives type cell pin (p ∷ ps) =
    (if drives_pin type p.name then places_by (λ at. FromCell cell pin at) 0 p.sig else []) ++ pin_drives type cell (pin + 1) ps

-- what the cells from a place on drive
abbrev pub cell_drives : Ports → ℕ → List Cell → List Drive
cell_drives ports cell [] = []
cell_drives ports cell (c ∷ cs) = pin_drives (cell_type ports c.kind_name) cell 0 c.pins ++ cell_drives ports (cell + 1) cs

-- what the connections drive
abbrev pub link_drives : List Link → List Drive
link_drives links = map (λ (j : Join). record { bit = j.bit; source = FromLink j.source }) (all_joins links)

-- what the trees of the processes from a place on drive
abbrev pub tree_drives : ℕ → List Process → List Drive
tree_drives process [] = []
tree_drives process (p ∷ ps) = all_by (FromTree process) (tree_bits p.root) ++ tree_drives (process + 1) ps

-- what the rules of the processes from a place on drive
abbrev pub rule_drives : ℕ → List Process → List Drive
rule_drives process [] = []
rule_drives process (p ∷ ps) = all_by (FromRules process) (updated_bits p.syncs) ++ rule_drives (process + 1) ps

-- all of what drives the bits of a module, each kind in the order of its list
abbrev pub drives_of : Ports → Module → List Drive
drives_of ports m =
    port_drives 0 m.wires
    ++ cell_drives ports 0 m.cells
    ++ link_drives m.links
    ++ tree_drives 0 m.processes
    ++ rule_drives 0 m.processes

-- what drives a bit, the first where there are several
abbrev pub driver_in : List Drive → WireBit → Option Source
driver_in drives b = option_map (λ (d : Drive). d.source) (find (λ (d : Drive). same_bit d.bit b) drives)

-- how often a bit is driven
abbrev pub drive_count : List Drive → WireBit → ℕ
drive_count drives b = count_by (λ (d : Drive). same_bit d.bit b) drives
