-- What a simulation asks of a module of the netlist.
use Rattle.std.specs.Prelude.{◌≡◌, []}
use Rattle.rtl_ir.specs.declared.module.Module.{Module}
use Rattle.sim_eval.specs.Shapes.{HaveShapes}

-- it has no process, and each of its cells that is one of the library has a shape
pub record IsShaped (m : Module) : Type 0 where
  pub processes : m.processes ≡ []
  pub cells : HaveShapes m.cells
