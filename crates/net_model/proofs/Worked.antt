-- Worked examples, computed by the definitions: loops, trees, latches, resets, codes of states.
use Rattle.std.proofs.Common.{◌≡◌, [], ◌∷◌, refl}
use Rattle.std.specs.Prelude.{codes}
use Rattle.rtl_bits.specs.declared.bit.Bit.TheVariants.{S0, S1, X}
use Rattle.rtl_ir.specs.declared.module.Module.{Module}
use Rattle.rtl_ir.specs.declared.process.Event.TheVariants.{Posedge, Always}
use Rattle.rtl_ir.specs.declared.wire.Role.TheVariants.{Inner, Input, Output}
use Rattle.rtl_ir.specs.Empty.{empty_module}
use Rattle.rtl_ir.specs.Flat.Cell.{cell_kind, cell_shape}
use Rattle.rtl_ir.specs.Follow.{follow_joins}
use Rattle.rtl_ir.specs.Tree.{NoSwitch, NoCase}
use Rattle.net_model.specs.declared.order.Order.TheVariants.{Together}
use Rattle.net_model.specs.Refine.{run_of}
use Rattle.net_model.proofs.Parts.{wire, init, bit, fixed, pin, cell, link, on, otherwise, switch, rule, process, alone}

-- two NOR gates, each of which reads the other
abbrev latch : Module
latch = record (empty_module (codes "\\l")) {
  wires =
      wire (codes "\\s") 1 Input 1
      ∷ wire (codes "\\r") 1 Input 2
      ∷ wire (codes "\\q") 1 Output 3
      ∷ wire (codes "\\n") 1 Output 4
      ∷ [];
  cells =
      cell (codes "$_NOR_") [] (pin (codes "\\A") (bit 1) ∷ pin (codes "\\B") (bit 3) ∷ pin (codes "\\Y") (bit 2) ∷ [])
      ∷ cell (codes "$_NOR_") [] (pin (codes "\\A") (bit 0) ∷ pin (codes "\\B") (bit 2) ∷ pin (codes "\\Y") (bit 3) ∷ [])
      ∷ [];
}

-- it is set, then left alone, which the least solution does not remember, then reset
latch_runs : run_of Together (alone latch) latch ((S1 ∷ S0 ∷ []) ∷ (S0 ∷ S0 ∷ []) ∷ (S0 ∷ S1 ∷ []) ∷ []) ≡ (S1 ∷ S0 ∷ []) ∷ (X ∷ X ∷ []) ∷ (S0 ∷ S1 ∷ []) ∷ []
unfolding cell_kind cell_shape
latch_runs = refl

-- an inverter that reads itself stays x
abbrev ring : Module
ring = record (empty_module (codes "\\o")) {
  wires = wire (codes "\\y") 1 Output 1 ∷ [];
  cells = cell (codes "$_NOT_") [] (pin (codes "\\A") (bit 0) ∷ pin (codes "\\Y") (bit 0) ∷ []) ∷ [];
}

ring_runs : run_of Together (alone ring) ring ([] ∷ []) ≡ (X ∷ []) ∷ []
unfolding cell_kind cell_shape
ring_runs = refl

-- each case of a switch assigns 1: the output is 1 whatever the signal is
abbrev ones : Module
ones = record (empty_module (codes "\\m")) {
  wires = wire (codes "\\s") 1 Input 1 ∷ wire (codes "\\y") 1 Output 2 ∷ [];
  processes =
      process (link (bit 1) (fixed (S0 ∷ [])) ∷ [])
      (switch (bit 0) (on (fixed (S0 ∷ [])) (link (bit 1) (fixed (S1 ∷ [])) ∷ []) NoSwitch (on (fixed (S1 ∷ [])) (link (bit 1) (fixed (S1 ∷ [])) ∷ []) NoSwitch (otherwise (link (bit 1) (fixed (S1 ∷ [])) ∷ []) NoSwitch))))
      []
      ∷ [];
}

ones_run : run_of Together (alone ones) ones ((X ∷ []) ∷ (S0 ∷ []) ∷ []) ≡ (S1 ∷ []) ∷ (S1 ∷ []) ∷ []
ones_run = refl

-- a switch with one case: where it is open, the value is the merge of the case and of what was before it
abbrev half : Module
half = record (empty_module (codes "\\m")) {
  wires = wire (codes "\\s") 1 Input 1 ∷ wire (codes "\\y") 1 Output 2 ∷ [];
  processes =
      process (link (bit 1) (fixed (S0 ∷ [])) ∷ [])
      (switch (bit 0) (on (fixed (S1 ∷ [])) (link (bit 1) (fixed (S1 ∷ [])) ∷ []) NoSwitch NoCase))
      []
      ∷ [];
}

half_runs : run_of Together (alone half) half ((S0 ∷ []) ∷ (S1 ∷ []) ∷ (X ∷ []) ∷ []) ≡ (S0 ∷ []) ∷ (S1 ∷ []) ∷ (X ∷ []) ∷ []
half_runs = refl

-- a bit that is always updated and holds while it is not enabled; an enable that is not known gives x
abbrev pub holding : Module
holding = record (empty_module (codes "\\m")) {
  wires =
      wire (codes "\\d") 1 Input 1
      ∷ wire (codes "\\en") 1 Input 2
      ∷ wire (codes "\\q") 1 Output 3
      ∷ wire (codes "$0\\q") 1 Inner 0
      ∷ wire (codes "$1\\q") 1 Inner 0
      ∷ [];
  processes =
      process (link (bit 3) (bit 4) ∷ [])
      (switch (bit 1) (on (fixed (S1 ∷ [])) (link (bit 4) (bit 0) ∷ []) NoSwitch (otherwise (link (bit 4) (bit 2) ∷ []) NoSwitch)))
      (rule Always (link (bit 2) (bit 3) ∷ []) ∷ [])
      ∷ [];
}

holding_runs : run_of Together (alone holding) holding ((S1 ∷ S1 ∷ []) ∷ (S0 ∷ S0 ∷ []) ∷ (S1 ∷ X ∷ []) ∷ (S0 ∷ S1 ∷ []) ∷ []) ≡ (S1 ∷ []) ∷ (S1 ∷ []) ∷ (X ∷ []) ∷ (S0 ∷ []) ∷ []
holding_runs = refl

-- a register with an enable and a reset of its own edge; in the first step the reset's edge is open, and the reset value
-- is merged with the start value
abbrev pub resetting : Module
resetting = record (empty_module (codes "\\m")) {
  wires =
      wire (codes "\\clock") 1 Input 1
      ∷ wire (codes "\\reset") 1 Input 2
      ∷ wire (codes "\\enable") 1 Input 3
      ∷ wire (codes "\\d") 1 Input 4
      ∷ record (wire (codes "\\q") 1 Output 5) { attributes = init (S1 ∷ []) }
      ∷ wire (codes "$0\\q") 1 Inner 0
      ∷ [];
  processes =
      process (link (bit 5) (bit 4) ∷ [])
      (switch (bit 1) (on (fixed (S1 ∷ [])) (link (bit 5) (fixed (S0 ∷ [])) ∷ []) NoSwitch (otherwise [] (switch (bit 2) (on (fixed (S1 ∷ [])) (link (bit 5) (bit 3) ∷ []) NoSwitch NoCase)))))
      (rule (Posedge (bit 0)) (link (bit 4) (bit 5) ∷ []) ∷ rule (Posedge (bit 1)) (link (bit 4) (bit 5) ∷ []) ∷ [])
      ∷ [];
}

resetting_runs : run_of Together (alone resetting) resetting ((S0 ∷ S1 ∷ S0 ∷ S0 ∷ []) ∷ (S1 ∷ S1 ∷ S0 ∷ S0 ∷ []) ∷ (S0 ∷ S0 ∷ S1 ∷ S1 ∷ []) ∷ (S1 ∷ S0 ∷ S1 ∷ S1 ∷ []) ∷ (S1 ∷ S1 ∷ S1 ∷ S1 ∷ []) ∷ []) ≡ (X ∷ []) ∷ (S0 ∷ []) ∷ (S0 ∷ []) ∷ (S1 ∷ []) ∷ (S0 ∷ []) ∷ []
unfolding follow_joins
resetting_runs = refl

-- a reset that comes with the clock is a race: the merge of the new value and the reset value
resetting_races : run_of Together (alone resetting) resetting ((S0 ∷ S0 ∷ S1 ∷ S1 ∷ []) ∷ (S1 ∷ S1 ∷ S1 ∷ S1 ∷ []) ∷ []) ≡ (S1 ∷ []) ∷ (X ∷ []) ∷ []
unfolding follow_joins
resetting_races = refl
