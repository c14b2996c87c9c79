-- State wires in their order.
use Rattle.std.specs.Prelude.{◌≡◌, ◌≤◌, ◌<◌, ℕ, None, Some}
use Rattle.rtl_ir.specs.declared.machine.Machine.{Machine}
use Rattle.rtl_ir.specs.declared.module.Module.{Module}
use Rattle.rtl_ir.specs.Types.{Ports}
use Rattle.net_model.specs.Fsm.Find.{machine_of}

-- no wire from a place on, up to another, is a state wire
abbrev pub HasNone : Ports → Module → ℕ → ℕ → Type 0
HasNone ports m from end = (k : ℕ) → from ≤ k → k < end → machine_of ports m k ≡ None

-- the first state wire from a place on, up to another, and its machine
pub record IsNext (ports : Ports) (m : Module) (from end wire : ℕ) (machine : Machine) : Type 0 where
  pub after : from ≤ wire
  pub before : wire < end
  pub none : HasNone ports m from wire
  pub is : machine_of ports m wire ≡ Some machine
