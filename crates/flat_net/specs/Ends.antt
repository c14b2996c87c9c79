-- The inputs and outputs of the module that is run.
use Rattle.std.specs.Prelude.{◌≡◌, Some, slice_get}
use Rattle.rtl_ir.specs.declared.module.Module.{Module}
use Rattle.rtl_ir.specs.declared.wire.Role.TheVariants.{Input}
use Rattle.rtl_ir.specs.Flat.Tree.{output_places, places, role_points, root}
use Rattle.rtl_ir.specs.Ports.{ports_of}
use Rattle.flat_net.specs.declared.ends.Ends.{Ends}
use Rattle.flat_net.specs.Known.{Known}
use Rattle.flat_net.specs.Reads.{AreNumbers}

-- the path of the module that is run has this number, and its input and output bits have these
pub record IsEnds (k : Known) (ends : Ends) (m : Module) : Type 0 where
  pub root_is : slice_get k.paths ends.root ≡ Some (root m)
  pub inputs_are : AreNumbers k.places ends.inputs (places (role_points Input (root m) (ports_of m.wires)))
  pub outputs_are : AreNumbers k.places ends.outputs (output_places m)
