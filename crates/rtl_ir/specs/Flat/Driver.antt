-- The drivers of bits, as data. What a driver gives is defined where the netlist's behaviour is.
use Rattle.std.specs.Prelude.{ℕ, Bool, List}
use Rattle.rtl_bits.specs.declared.bit.Bit.{Bit}
use Rattle.cell_types.specs.declared.level.Level.{Level}
use Rattle.cell_types.specs.declared.shape.Shape.{Shape}
use Rattle.rtl_ir.specs.Flat.Pick.{Pick}
use Rattle.rtl_ir.specs.Flat.Place.{Place}
use Rattle.rtl_ir.specs.Flat.Point.{Point}

-- what a storage bit reads, by the pins of storage cells; a pin that the cell lacks is the constant x
pub record StorePoints : Type 0 where
  pub clk : Point
  pub en : Point
  pub arst : Point
  pub srst : Point
  pub aload : Point
  pub ad : Point
  pub set : Point
  pub clr : Point
  pub d : Point

-- a write port as a bit of a word sees it: the address, its bit of the enable and of the data, and of each port before it
-- whether this one may follow it
pub record PortPoints : Type 0 where
  pub address : List Point
  pub enable : Point
  pub new : Point
  pub follows : List Bool

-- what drives a bit
pub data Driver : Type 0 where
  -- nothing
  Nothing : Driver
  -- an input of the module that is run: a place of the input vector
  Given : (at : ℕ) → Driver
  -- another bit, or a constant, by a connection
  Joined : (from : Point) → Driver
  -- a bit of the output of a combinational cell, of the words at its inputs
  Worked : (shape : Shape) (inputs : List (List Point)) (at : ℕ) → Driver
  -- a bit of a storage cell: its start value, the cell, what it reads, and the bit itself
  Stored : (start : Bit) (shape : Shape) (at : ℕ) (pins : StorePoints) (own : Place) → Driver
  -- a tree bit of a process
  Decided : (tree : Pick) → Driver
  -- a bit that is always updated and may hold: its start value, the new value, that value by its leaves, and the bit itself
  Held : (start : Bit) (value : Point) (tree : Pick) (own : Place) → Driver
  -- a bit of a process with two edges: its start value, the clock and the reset with the levels after their edges, the new
  -- value by its leaves, and the bit itself
  Raced : (start : Bit) (clock : Point) (clock_level : Level) (reset : Point) (reset_level : Level) (tree : Pick) (own : Place) → Driver
  -- a bit of the word at an address: its start value, the clock of the write ports with the level after the edge, the ports
  -- in order, and the bit itself
  Remembered : (start : Bit) (clock : Point) (level : Level) (address : ℕ) (ports : List PortPoints) (own : Place) → Driver
  -- a bit that a read port gives: the address, and that bit of each word, from the word at the first address on
  Fetched : (address : List Point) (first : ℕ) (words : List Point) → Driver

-- a row of the flat netlist: a bit and its driver
pub record Driven : Type 0 where
  pub place : Place
  pub driver : Driver
