-- What is made of memories: their words, and their read ports.
use Rattle.std.specs.Prelude.{◌≡◌, ◌<◌, ℕ, suc, Bool, true, false, List, [], ◌∷◌, ◌++◌, flat_map, length, map, nat_abs, Option, Some}
use Rattle.std.specs.List.{AllByRecursion, range_with_len}
use Rattle.rtl_bits.specs.declared.bit.Bit.{Bit}
use Rattle.cell_types.specs.declared.level.Level.{Level}
use Rattle.cell_types.specs.declared.level.Level.TheVariants.{Low, High}
use Rattle.cell_types.specs.declared.shape.Shape.{Shape}
use Rattle.rtl_ir.specs.declared.plan.MemPlan.{MemPlan}
use Rattle.rtl_ir.specs.declared.plan.ReadPort.{ReadPort as PlanRead}
use Rattle.rtl_ir.specs.declared.plan.WritePort.{WritePort as PlanWrite}
use Rattle.rtl_ir.specs.declared.process.Event.{Event}
use Rattle.rtl_ir.specs.declared.store.Store.{Store}
use Rattle.rtl_ir.specs.declared.wire.Wire.{Wire}
use Rattle.rtl_ir.specs.Flat.Access.{write_trigger}
use Rattle.rtl_ir.specs.Flat.Cell.{outputs}
use Rattle.rtl_ir.specs.Flat.Driver.{Driven, Remembered as RememberedBy}
use Rattle.rtl_ir.specs.Flat.Memory.{addresses_of, fetched_rows}
use Rattle.rtl_ir.specs.Flat.Place.{Path, Place, word_place}
use Rattle.rtl_ir.specs.Flat.Point as rtl
use Rattle.rtl_ir.specs.Flat.Point.{point_at, points}
use Rattle.rtl_ir.specs.Flat.Process.{Trigger}
use Rattle.flat_net.specs.declared.memory.Fetched.{Fetched}
use Rattle.flat_net.specs.declared.memory.ReadPort.{ReadPort}
use Rattle.flat_net.specs.declared.memory.Remembered.{Remembered}
use Rattle.flat_net.specs.declared.memory.WordBit.{WordBit}
use Rattle.flat_net.specs.declared.memory.WritePort.{WritePort}
use Rattle.flat_net.specs.declared.net.Output.{Output}
use Rattle.flat_net.specs.Parts.{output_row}
use Rattle.flat_net.specs.Points.{place_at}
use Rattle.flat_net.specs.Reads.{ArePoints}
use Rattle.flat_net.specs.Within.{IsFetchedWithin, IsRememberedWithin, IsWritePortWithin}
use Rattle.flat_net.specs.Words.{Ported, port_rows, ported_of, ports_at, word_row}

-- a write port in a module with these wires at this path
abbrev pub port_in : Path → List Wire → PlanWrite → Ported
port_in p wires w = record {
  number = w.number;
  mask = w.mask;
  address = points p wires w.address;
  enable = points p wires w.enable;
  new = points p wires w.«data»;
}

-- the write ports are these
pub record ArePorts (ps : List Place) (ports : List WritePort) (they : List Ported) : Type 0 where
  pub are : map (ported_of ps) ports ≡ they
  pub within : AllByRecursion (IsWritePortWithin (length ps)) ports

-- the level after an edge
abbrev pub edge_level : Bool → Level
edge_level true = High
edge_level false = Low

-- the clock of the first write port that is a cell
abbrev pub cell_trigger : MemPlan → Trigger
cell_trigger m = record { signal = m.clock ∷ []; level = edge_level m.rising }

-- the clock of the write ports: that of the first cell, else that of the first line's event
abbrev pub trigger_by : MemPlan → List PlanWrite → Option Event → Trigger
trigger_by m [] (Some event) = write_trigger event
trigger_by m writes event = cell_trigger m

-- a bit of a word: where it stands, its start value, the address, and its place in the word
pub record Begins : Type 0 where
  pub place : Place
  pub start : Bit
  pub address : ℕ
  pub at : ℕ

abbrev pub begins_of : List Place → WordBit → Begins
begins_of ps b = record { place = place_at ps b.number; start = b.start; address = b.address; at = b.at }

-- the bits of the word at an address, from a place on
abbrev pub word_begins : Path → List ℕ → ℕ → ℕ → List Bit → List Begins
word_begins p name address at [] = []
word_begins p name address at (b ∷ word) =
    record { place = word_place p name address at; start = b; address = address; at = at }
    ∷ word_begins p name address (suc at) word

-- the bits of words, from an address on
abbrev pub words_begins : Path → List ℕ → ℕ → List (List Bit) → List Begins
words_begins p name address [] = []
words_begins p name address (word ∷ words) =
    word_begins p name address 0 word ++ words_begins p name (suc address) words

-- the bits are these
pub record AreBegins (ps : List Place) (bits : List WordBit) (they : List Begins) : Type 0 where
  pub are : map (begins_of ps) bits ≡ they
  pub within : AllByRecursion (λ (b : WordBit). b.number < length ps) bits

-- a bit of a word with this clock and these ports
abbrev pub begun_row : Path → List Wire → Trigger → List Ported → Begins → Driven
begun_row p wires t ports b = record {
  place = b.place;
  driver =
      RememberedBy b.start (point_at (points p wires t.signal) 0) t.level b.address (ports_at b.at [] ports) b.place;
}

-- the words of a memory with this plan, which these lines write too
abbrev pub planned_rows : Path → List Wire → Store → MemPlan → List PlanWrite → Option Event → List Driven
planned_rows p wires s m lines event =
    map (begun_row p wires (trigger_by m m.writes event) (map (port_in p wires) (m.writes ++ lines)))
    (words_begins p s.name (nat_abs s.offset) m.words)

-- the words are these rows of numbered bits
pub record AreRemembered (ps : List Place) (w : Remembered) (rows : List Driven) : Type 0 where
  pub are : map (word_row ps w) w.bits ≡ rows
  pub within : IsRememberedWithin (length ps) w

-- the bit at a place of each word of a memory
abbrev pub column_places : Path → Store → ℕ → List Place
column_places p s at = map (λ address. word_place p s.name address at) (addresses_of s)

-- the columns are those of the first places
pub record AreColumns (ps : List Place) (p : Path) (s : Store) (columns : List (List ℕ)) (width : ℕ) : Type 0 where
  pub are : map (map (place_at ps)) columns ≡ map (column_places p s) (range_with_len 0 width)
  pub within : AllByRecursion (AllByRecursion (λ number. number < length ps)) columns

-- a read port is this one
pub record IsReadPort (ps : List Place) (p : Path) (wires : List Wire) (r : ReadPort) (it : PlanRead) : Type 0 where
  pub address : ArePoints ps r.address (points p wires it.address)
  pub outputs :
      (shape : Shape) (inputs : List (List rtl.Point)) →
      map (output_row ps shape inputs) r.outputs ≡ outputs shape inputs (points p wires it.«data») 0
  pub within : AllByRecursion (λ (o : Output). o.number < length ps) r.outputs

-- read ports are these
abbrev pub AreReadPorts : List Place → Path → List Wire → List ReadPort → List PlanRead → Type 0
AreReadPorts ps p wires [] [] = Unit {0}
AreReadPorts ps p wires [] (it ∷ they) = ⊥
AreReadPorts ps p wires (r ∷ ports) [] = ⊥
AreReadPorts ps p wires (r ∷ ports) (it ∷ they) = IsReadPort ps p wires r it × AreReadPorts ps p wires ports they

-- the bits that read ports of a memory drive
abbrev pub read_rows : Path → List Wire → Store → List PlanRead → List Driven
read_rows p wires s reads =
    flat_map (λ (r : PlanRead). fetched_rows p s (points p wires r.address) (points p wires r.«data») 0) reads

-- the read ports are these rows of numbered bits
pub record AreFetched (ps : List Place) (f : Fetched) (rows : List Driven) : Type 0 where
  pub are : flat_map (port_rows ps f) f.ports ≡ rows
  pub within : IsFetchedWithin (length ps) f
