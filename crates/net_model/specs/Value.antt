-- The values of drivers.
use Rattle.std.specs.Prelude.{ℕ, Bool, List, [], map, slice_index_or}
use Rattle.rtl_bits.specs.declared.bit.Bit.{Bit}
use Rattle.rtl_bits.specs.declared.bit.Bit.TheVariants.{S0, S1, X}
use Rattle.cell_types.specs.declared.kind.CellKind.{CellKind}
use Rattle.cell_types.specs.declared.kind.CellKind.TheVariants as Cell
use Rattle.cell_types.specs.declared.level.Level.{Level}
use Rattle.cell_types.specs.declared.level.Level.TheVariants.{Low, High}
use Rattle.cell_types.specs.declared.shape.Shape.{Shape}
use Rattle.cell_word.specs.Values.{input_of, word_value_of}
use Rattle.cell_gate.specs.declared.pins.Pins.{Pins}
use Rattle.cell_gate.specs.Control.{active_of, pick_of, edge_of, was_of}
use Rattle.cell_gate.specs.Gates.{output_of}
use Rattle.rtl_ir.specs.Flat.Driver.{StorePoints, Driver, Nothing, Given, Joined, Worked, Stored, Decided, Held, Raced, Remembered, Fetched, Driven}
use Rattle.rtl_ir.specs.Flat.Pick.{Pick}
use Rattle.rtl_ir.specs.Flat.Place.{Place}
use Rattle.rtl_ir.specs.Flat.Point.{Point}
use Rattle.net_model.specs.declared.order.Order.{Order}
use Rattle.net_model.specs.declared.order.Order.TheVariants.{Together, Released}
use Rattle.net_model.specs.Order.{next_bit_of}
use Rattle.net_model.specs.Picked.{picked, picked_by, own_or, holds_of, held_of}
use Rattle.net_model.specs.Race.{raced_of}
use Rattle.net_model.specs.Run.{Time, Start, Step, Drive}
use Rattle.net_model.specs.Valuation.{Valuation, read, read_all, read_words, passed_of}
use Rattle.net_model.specs.Words.{after_ports, fetched_of}

-- the one bit of an input of a gate
abbrev pub gate_input : List (List Bit) → ℕ → Bit
gate_input inputs at = slice_index_or (input_of inputs at) 0 X

-- a bit of the output of a combinational cell: of a gate the one bit, else a bit of the word
abbrev pub worked_of : CellKind → Shape → List (List Bit) → ℕ → Bit
worked_of (Cell.Gate gate) shape inputs at =
    output_of gate (gate_input inputs 0) (gate_input inputs 1) (gate_input inputs 2)
worked_of kind shape inputs at = slice_index_or (word_value_of shape inputs) at X

-- the pins of a storage bit
abbrev pub pins_of : Valuation → StorePoints → Place → Pins
pins_of v s own = record {
  clk = read v s.clk;
  en = read v s.en;
  arst = read v s.arst;
  srst = read v s.srst;
  aload = read v s.aload;
  ad = read v s.ad;
  set = read v s.set;
  clr = read v s.clr;
  d = read v s.d;
  q = v own;
}

-- the edge of a point to a level, from the step before to now: 1 certain, 0 impossible, x open
abbrev pub edge_at : Valuation → Valuation → Bool → Point → Level → Bit
edge_at before now first s level = edge_of (active_of level (was_of first (read before s))) (active_of level (read now s))

-- the bit of a level
abbrev pub level_bit : Level → Bit
level_bit Low = S0
level_bit High = S1

-- a bit of a process with two edges: its value is read in the step before, with the reset as it was, as it is, and active
abbrev pub raced_at : Valuation → Valuation → Bool → Point → Level → Point → Level → Pick → Place → Bit
raced_at before now first clock clock_level reset reset_level tree own =
    raced_of (edge_at before now first clock clock_level) (edge_at before now first reset reset_level)
    (picked before (was_of first (read before reset)) tree)
    (picked before (read now reset) tree)
    (picked before (level_bit reset_level) tree)
    (before own)

-- what the edge of the clock makes of a bit of a process with two edges: its value with the reset as it was
abbrev pub clocked_at : Valuation → Valuation → Bool → Point → Level → Point → Pick → Place → Bit
clocked_at before now first clock clock_level reset tree own =
    pick_of (edge_at before now first clock clock_level)
    (picked before (was_of first (read before reset)) tree)
    (before own)

-- a bit of a process with two edges whose clock acts before the reset: while the reset is active it has its value under the
-- active reset, where a bit that holds has what the clock made of it
abbrev pub released_at : Valuation → Valuation → Bool → Point → Level → Point → Level → Pick → Place → Bit
released_at before now first clock clock_level reset reset_level tree own =
    pick_of (active_of reset_level (read now reset))
    (picked_by (own_or own (clocked_at before now first clock clock_level reset tree own) before) before (level_bit reset_level) tree)
    (clocked_at before now first clock clock_level reset tree own)

-- a bit of a process with two edges, in an order of time
abbrev pub raced_in : Order → Valuation → Valuation → Bool → Point → Level → Point → Level → Pick → Place → Bit
raced_in Together before now first clock clock_level reset reset_level tree own =
    raced_at before now first clock clock_level reset reset_level tree own
raced_in Released before now first clock clock_level reset reset_level tree own =
    released_at before now first clock clock_level reset reset_level tree own

-- the value of a driver, at a time, over the present valuation
abbrev pub value_of : Driver → Time Place → Valuation → Bit
value_of Nothing t v = X
value_of (Given at) Start v = X
value_of (Given at) (Step before inputs manner) v = slice_index_or inputs at X
value_of (Joined from) t v = passed_of (read v from)
value_of (Worked shape inputs at) t v = worked_of shape.kind shape (read_words v inputs) at
value_of (Stored start shape at pins own) Start v = start
value_of (Stored start shape at pins own) (Step before inputs manner) v =
    next_bit_of manner shape at (pins_of before pins own) (pins_of v pins own)
value_of (Decided tree) t v = picked v X tree
value_of (Held start value tree own) Start v = start
value_of (Held start value tree own) (Step before inputs manner) v =
    held_of (holds_of own v tree) (before own) (read v value)
value_of (Raced start clock clock_level reset reset_level tree own) Start v = start
value_of (Raced start clock clock_level reset reset_level tree own) (Step before inputs manner) v =
    raced_in manner.order before v manner.first clock clock_level reset reset_level tree own
value_of (Remembered start clock level address ports own) Start v = start
value_of (Remembered start clock level address ports own) (Step before inputs manner) v =
    pick_of (edge_at before v manner.first clock level) (after_ports before address [] ports (before own)) (before own)
value_of (Fetched address first words) t v = fetched_of (read_all v address) first (read_all v words)

-- a row by what its driver gives
abbrev pub meaning : Driven → Drive Place
meaning d = record { bit = d.place; value = value_of d.driver }

-- rows by what their drivers give
abbrev pub meanings : List Driven → List (Drive Place)
meanings rows = map meaning rows
