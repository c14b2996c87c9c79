-- The pass `fsm` within the limits.
use Rattle.std.specs.Prelude.{ℕ, zero, suc, ◌+◌, ◌&&◌, nat_le, Bool, true, length, Option, Some, None, if◌then◌else◌}
use Rattle.std.specs.Option.{option_map_or}
use Rattle.rtl_ir.specs.Build.{Building}
use Rattle.rtl_ir.specs.declared.machine.Machine.{Machine}
use Rattle.rtl_ir.specs.declared.module.Module.{Module}
use Rattle.rtl_ir.specs.Types.{Ports}
use Rattle.net_index.specs.Numbering.{bit_count, widths_of}
use Rattle.net_model.specs.Fsm.Code.{fsm_of, recoded_of}
use Rattle.net_model.specs.Fsm.Find.{machine_of}
use Rattle.fsm_code.specs.Limits.{widened}

-- a module that is added to is within the limits on cells, on bits of wires and on the numbers of fresh names
unfoldable pub is_within : Building → Bool
is_within b = nat_le (length b.body.cells) 1048576 && (nat_le (bit_count (widths_of b.body.wires)) 4194304 && nat_le b.next 1000000000)

-- the module with the fresh wires of a machine is, where there is a machine
abbrev pub machine_within : Module → Option Machine → Bool
machine_within m None = true
machine_within m (Some machine) = is_within (widened m machine)

-- so it is for the machines of so many wires from a place on, one after another
abbrev pub are_within : Ports → ℕ → ℕ → Module → Bool
are_within ports at zero m = true
are_within ports at (suc n) m =
    machine_within m (machine_of ports m at) && are_within ports (at + 1) n (option_map_or (recoded_of m) (machine_of ports m at) m)

-- the module after the pass: its machines in turn; None where one of them passes a limit
abbrev pub fsm_within : Ports → Module → Option Module
fsm_within ports m = if are_within ports 0 (length m.wires) m then Some (fsm_of ports m) else None
