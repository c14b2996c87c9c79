-- Worked examples, computed by the definitions: registers, codes of states, memories.
use Rattle.std.proofs.Common.{◌≡◌, ℕ, false, List, [], ◌∷◌, refl}
use Rattle.std.specs.Prelude.{codes, pos}
use Rattle.rtl_bits.specs.declared.bit.Bit.{Bit}
use Rattle.rtl_bits.specs.declared.bit.Bit.TheVariants.{S0, S1, X}
use Rattle.rtl_ir.specs.declared.cell.Cell.{Cell}
use Rattle.rtl_ir.specs.declared.cell.CellParam.{CellParam}
use Rattle.rtl_ir.specs.declared.module.Module.{Module}
use Rattle.rtl_ir.specs.declared.value.Value.TheVariants.{Bits, Chars}
use Rattle.rtl_ir.specs.declared.wire.Role.TheVariants.{Inner, Input, Output}
use Rattle.rtl_ir.specs.Constants.{low_bits}
use Rattle.rtl_ir.specs.Empty.{empty_module}
use Rattle.rtl_ir.specs.Flat.Cell.{cell_kind, cell_shape}
use Rattle.rtl_ir.specs.WritePorts.{is_write_cell}
use Rattle.net_model.specs.declared.order.Order.TheVariants.{Together}
use Rattle.net_model.specs.Refine.{run_of}
use Rattle.net_model.proofs.Parts.{wire, init, bit, word, fixed, pin, number, cell, alone}

-- a state of two bits whose next value is chosen by two inputs, compared with one of its states
abbrev pub states : Module
states = record (empty_module (codes "\\m")) {
  wires =
      wire (codes "\\clk") 1 Input 1
      ∷ wire (codes "\\s0") 1 Input 2
      ∷ wire (codes "\\s1") 1 Input 3
      ∷ wire (codes "\\y") 1 Output 4
      ∷ wire (codes "\\st") 2 Inner 0
      ∷ wire (codes "\\a") 2 Inner 0
      ∷ wire (codes "\\b") 2 Inner 0
      ∷ [];
  cells =
      cell (codes "$dff") (number (codes "\\WIDTH") 2 ∷ number (codes "\\CLK_POLARITY") 1 ∷ []) (pin (codes "\\CLK") (bit 0) ∷ pin (codes "\\D") (word 6 2) ∷ pin (codes "\\Q") (word 4 2) ∷ [])
      ∷ cell (codes "$mux") (number (codes "\\WIDTH") 2 ∷ []) (pin (codes "\\A") (fixed (S1 ∷ S0 ∷ [])) ∷ pin (codes "\\B") (fixed (S1 ∷ S1 ∷ [])) ∷ pin (codes "\\S") (bit 1) ∷ pin (codes "\\Y") (word 5 2) ∷ [])
      ∷ cell (codes "$mux") (number (codes "\\WIDTH") 2 ∷ []) (pin (codes "\\A") (word 5 2) ∷ pin (codes "\\B") (fixed (S0 ∷ S1 ∷ [])) ∷ pin (codes "\\S") (bit 2) ∷ pin (codes "\\Y") (word 6 2) ∷ [])
      ∷ cell (codes "$eq") (number (codes "\\A_SIGNED") 0 ∷ number (codes "\\B_SIGNED") 0 ∷ number (codes "\\A_WIDTH") 2 ∷ number (codes "\\B_WIDTH") 2 ∷ number (codes "\\Y_WIDTH") 1 ∷ []) (pin (codes "\\A") (word 4 2) ∷ pin (codes "\\B") (fixed (S0 ∷ S1 ∷ [])) ∷ pin (codes "\\Y") (bit 3) ∷ [])
      ∷ [];
}

-- after a clock edge one bit of the state is known, and it tells the state apart from the constant
states_run : run_of Together (alone states) states ((S0 ∷ X ∷ S0 ∷ []) ∷ (S1 ∷ X ∷ S0 ∷ []) ∷ []) ≡ (X ∷ []) ∷ (S0 ∷ []) ∷ []
unfolding cell_kind cell_shape low_bits
states_run = refl

abbrev memid : CellParam
memid = record { name = codes "\\MEMID"; value = Chars (codes "\\k"); signed = false }

-- a write port of a number, with a mask of one bit, that writes a wire
abbrev port_cell : ℕ → Bit → ℕ → Cell
port_cell n mask wire =
    cell (codes "$memwr_v2") (memid ∷ number (codes "\\ABITS") 3 ∷ number (codes "\\WIDTH") 1 ∷ number (codes "\\CLK_ENABLE") 1 ∷ number (codes "\\CLK_POLARITY") 1 ∷ number (codes "\\PORTID") n ∷ record { name = codes "\\PRIORITY_MASK"; value = Bits (mask ∷ []) false; signed = false } ∷ []) (pin (codes "\\CLK") (bit 0) ∷ pin (codes "\\EN") (fixed (S1 ∷ [])) ∷ pin (codes "\\ADDR") (word 1 3) ∷ pin (codes "\\DATA") (bit wire) ∷ [])

-- five words of one bit, two ports that write at one address, and a port that reads; the second port has this mask
abbrev pub memory : Bit → Module
memory mask = record (empty_module (codes "\\m")) {
  wires =
      wire (codes "\\clk") 1 Input 1
      ∷ wire (codes "\\wa") 3 Input 2
      ∷ wire (codes "\\d0") 1 Input 3
      ∷ wire (codes "\\d1") 1 Input 4
      ∷ wire (codes "\\ra") 3 Input 5
      ∷ wire (codes "\\q") 1 Output 6
      ∷ [];
  memories = record { name = codes "\\k"; width = 1; size = pos 5; offset = pos 0; attributes = [] } ∷ [];
  cells =
      port_cell 0 S0 2
      ∷ port_cell 1 mask 3
      ∷ cell (codes "$memrd_v2") (memid ∷ number (codes "\\ABITS") 3 ∷ number (codes "\\WIDTH") 1 ∷ number (codes "\\CLK_ENABLE") 0 ∷ []) (pin (codes "\\ADDR") (word 4 3) ∷ pin (codes "\\DATA") (bit 5) ∷ [])
      ∷ [];
}

-- the clock, the address 2, the data 0 and 1, and this address to read at
abbrev pub inputs : Bit → List Bit → List Bit
inputs clk address = clk ∷ S0 ∷ S1 ∷ S0 ∷ S0 ∷ S1 ∷ address

-- where the second port may follow the first one it wins; an address outside, or not known, reads x
memory_runs : run_of Together (alone (memory S1)) (memory S1) (inputs S0 (S0 ∷ S1 ∷ S0 ∷ []) ∷ inputs S1 (S0 ∷ S1 ∷ S0 ∷ []) ∷ inputs S1 (S1 ∷ S0 ∷ S1 ∷ []) ∷ inputs S1 (S0 ∷ X ∷ S0 ∷ []) ∷ []) ≡ (X ∷ []) ∷ (S1 ∷ []) ∷ (X ∷ []) ∷ (X ∷ []) ∷ []
unfolding cell_kind cell_shape low_bits is_write_cell
memory_runs = refl

-- where it may not, the word is x
memory_clashes : run_of Together (alone (memory S0)) (memory S0) (inputs S0 (S0 ∷ S1 ∷ S0 ∷ []) ∷ inputs S1 (S0 ∷ S1 ∷ S0 ∷ []) ∷ []) ≡ (X ∷ []) ∷ (X ∷ []) ∷ []
unfolding cell_kind cell_shape low_bits is_write_cell
memory_clashes = refl

-- a clock that a latch makes: it is known to be 0 before the first step and 1 in it, and yet the edge is open there, since
-- the clock before the first step counts as x; the registers merge 1 with their start values
abbrev early : Module
early = record (empty_module (codes "\\m")) {
  wires =
      wire (codes "\\en") 1 Input 1
      ∷ record (wire (codes "\\c") 1 Inner 0) { attributes = init (S0 ∷ []) }
      ∷ record (wire (codes "\\q") 1 Output 2) { attributes = init (S0 ∷ []) }
      ∷ record (wire (codes "\\r") 1 Output 3) { attributes = init (S1 ∷ []) }
      ∷ [];
  cells =
      cell (codes "$_DLATCH_P_") [] (pin (codes "\\D") (fixed (S1 ∷ [])) ∷ pin (codes "\\E") (bit 0) ∷ pin (codes "\\Q") (bit 1) ∷ [])
      ∷ cell (codes "$_DFF_P_") [] (pin (codes "\\D") (fixed (S1 ∷ [])) ∷ pin (codes "\\C") (bit 1) ∷ pin (codes "\\Q") (bit 2) ∷ [])
      ∷ cell (codes "$_DFF_P_") [] (pin (codes "\\D") (fixed (S1 ∷ [])) ∷ pin (codes "\\C") (bit 1) ∷ pin (codes "\\Q") (bit 3) ∷ [])
      ∷ [];
}

early_runs : run_of Together (alone early) early ((S1 ∷ []) ∷ []) ≡ (X ∷ S1 ∷ []) ∷ []
unfolding cell_kind cell_shape
early_runs = refl

-- one step later the edge is certain
late_runs : run_of Together (alone early) early ((S0 ∷ []) ∷ (S1 ∷ []) ∷ []) ≡ (S0 ∷ S1 ∷ []) ∷ (S1 ∷ S1 ∷ []) ∷ []
unfolding cell_kind cell_shape
late_runs = refl

-- an inverter in a module of its own, and an instance of it
abbrev inverter : Module
inverter = record (empty_module (codes "\\inv")) {
  wires = wire (codes "\\a") 1 Input 1 ∷ wire (codes "\\y") 1 Output 2 ∷ [];
  cells = cell (codes "$_NOT_") [] (pin (codes "\\A") (bit 0) ∷ pin (codes "\\Y") (bit 1) ∷ []) ∷ [];
}

abbrev top : Module
top = record (empty_module (codes "\\top")) {
  wires = wire (codes "\\a") 1 Input 1 ∷ wire (codes "\\y") 1 Output 2 ∷ wire (codes "\\z") 1 Output 3 ∷ [];
  cells = cell (codes "\\inv") [] (pin (codes "\\a") (bit 0) ∷ pin (codes "\\y") (bit 1) ∷ []) ∷ [];
}

-- a bit that nothing drives is x
top_runs : run_of Together (record { modules = inverter ∷ top ∷ [] }) top ((S0 ∷ []) ∷ (S1 ∷ []) ∷ []) ≡ (S1 ∷ X ∷ []) ∷ (S0 ∷ X ∷ []) ∷ []
unfolding cell_kind cell_shape
top_runs = refl
