-- What reads each bit of a wire in its module.
use Rattle.std.specs.Prelude.{ℕ, ◌+◌, List, [], ◌∷◌, ◌++◌, if◌then◌else◌, filter, map}
use Rattle.rtl_sig.specs.declared.sig.SigBit.{SigBit}
use Rattle.rtl_sig.specs.declared.sig.SigBit.TheVariants as sig
use Rattle.rtl_sig.specs.declared.sig.WireBit.{WireBit}
use Rattle.rtl_ir.specs.declared.cell.Cell.{Cell}
use Rattle.rtl_ir.specs.declared.cell.Pin.{Pin}
use Rattle.rtl_ir.specs.declared.module.Link.{Link}
use Rattle.rtl_ir.specs.declared.module.Module.{Module}
use Rattle.rtl_ir.specs.Outputs.{drives_pin}
use Rattle.rtl_ir.specs.Signals.{has_bit, same_bit, wire_bits}
use Rattle.rtl_ir.specs.Types.{CellType, Ports, cell_type}
use Rattle.net_index.specs.declared.driver.CellPin.{CellPin}
use Rattle.net_index.specs.declared.reader.Reader.{Reader}
use Rattle.net_index.specs.declared.reader.Reader.TheVariants as reader

-- a bit, and the place of a cell's pin that reads it
pub record Read : Type 0 where
  pub bit : WireBit
  pub place : CellPin

-- the bits of a pin's signal from a place on, each read at its own place
abbrev pub places_read : (cell pin at : ℕ) → List SigBit → List Read
places_read cell pin at [] = []
places_read cell pin at (sig.Fixed c ∷ bits) = places_read cell pin (at + 1) bits
places_read cell pin at (sig.Wire b ∷ bits) =
    record { bit = b; place = record { cell = cell; pin = pin; at = at } } ∷ places_read cell pin (at + 1) bits

-- what a cell reads by its pins from a place on: by those that it does not drive
abbrev pub pin_reads : CellType → (cell pin : ℕ) → List Pin → List Read
pin_reads type cell pin [] = []
pin_reads type cell pin (p ∷ ps) =
    (if drives_pin type p.name then [] else places_read cell pin 0 p.sig) ++ pin_reads type cell (pin + 1) ps

-- what the cells from a place on read
abbrev pub cell_reads : Ports → ℕ → List Cell → List Read
cell_reads ports cell [] = []
cell_reads ports cell (c ∷ cs) = pin_reads (cell_type ports c.kind_name) cell 0 c.pins ++ cell_reads ports (cell + 1) cs

-- the places among these that read a bit
abbrev pub cell_readers : List Read → WireBit → List Reader
cell_readers reads b = map (λ (r : Read). reader.Cell r.place) (filter (λ (r : Read). same_bit r.bit b) reads)

-- the connections from a place on whose right side has a bit
abbrev pub link_readers : ℕ → List Link → WireBit → List Reader
link_readers link [] b = []
link_readers link (l ∷ ls) b =
    (if has_bit (wire_bits l.right) b then reader.Link link ∷ [] else []) ++ link_readers (link + 1) ls b

-- what reads a bit of a module: the cells in order, and then the connections in order
abbrev pub readers_of : Ports → Module → WireBit → List Reader
readers_of ports m b = cell_readers (cell_reads ports 0 m.cells) b ++ link_readers 0 m.links b
