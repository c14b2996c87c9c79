-- Simulations of modules with some wires.
use Rattle.std.specs.Prelude.{◌≡◌, List, []}
use Rattle.rtl_bits.specs.declared.bit.Bit.{Bit}
use Rattle.rtl_ir.specs.declared.module.Design.{Design}
use Rattle.rtl_ir.specs.declared.module.Module.{Module}
use Rattle.rtl_ir.specs.declared.wire.Wire.{Wire}
use Rattle.net_model.specs.declared.order.Order.{Order}
use Rattle.sim_eval.specs.declared.sim.Sim.{Sim}
use Rattle.sim_eval.specs.Sim.{IsSimOf}

-- a simulation is one of a module with these wires, in some order of time
pub record IsSimOver (sim : Sim) (wires : List Wire) : Type 0 where
  pub order : Order
  pub design : Design
  pub body : Module
  pub stimulus : List (List Bit)
  pub over : body.wires ≡ wires
  pub is : IsSimOf sim order design body stimulus

-- a simulation of a module with these wires before the first step, in some order of time
pub record IsFreshOver (sim : Sim) (wires : List Wire) : Type 0 where
  pub order : Order
  pub design : Design
  pub body : Module
  pub over : body.wires ≡ wires
  pub is : IsSimOf sim order design body []
