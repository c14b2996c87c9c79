-- The limits of a recoding.
use Rattle.std.specs.Prelude.{length, slice_get}
use Rattle.std.specs.Option.{option_map_or}
use Rattle.rtl_ir.specs.Build.{Building, building_of, fresh_wire}
use Rattle.rtl_ir.specs.declared.machine.Machine.{Machine}
use Rattle.rtl_ir.specs.declared.module.Module.{Module}
use Rattle.rtl_ir.specs.declared.wire.Wire.{Wire}
use Rattle.net_model.specs.Fsm.Code.{code_init, fresh_outputs}

-- the module with the fresh wires for the code and for the outputs of the tree, its cells as they were
abbrev pub widened : Module → Machine → Building
widened m machine =
    (fresh_outputs (length machine.states) m.cells machine.muxes (fresh_wire (length machine.states) (code_init machine.states machine.start) (building_of m)).1).1

-- the same where the state wire is there
abbrev pub recoding : Module → Machine → Building
recoding m machine = option_map_or (λ (w : Wire). widened m machine) (slice_get m.wires machine.wire) (building_of m)
