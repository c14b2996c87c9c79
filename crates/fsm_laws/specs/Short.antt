-- Fresh names of machines that get their codes.
use Rattle.std.specs.Prelude.{◌+◌, ◌≤◌, ℕ, zero, suc, length, Option, Some, None}
use Rattle.std.specs.Option.{option_map_or}
use Rattle.rtl_ir.specs.Build.{first_number}
use Rattle.rtl_ir.specs.declared.machine.Machine.{Machine}
use Rattle.rtl_ir.specs.declared.module.Module.{Module}
use Rattle.rtl_ir.specs.Types.{Ports}
use Rattle.net_model.specs.Fsm.Code.{recoded_of}
use Rattle.net_model.specs.Fsm.Find.{machine_of}

-- the fresh names that a machine takes, one for its code and one for each cell of its tree, are numbers of up to nine digits
abbrev pub IsShort : Module → Machine → Type 0
IsShort m machine = first_number m + 1 + length machine.muxes ≤ 1000000000

-- so it is where there is a machine
abbrev pub IsShortIf : Module → Option Machine → Type 0
IsShortIf m None = Unit {0}
IsShortIf m (Some machine) = IsShort m machine

-- and for the machines of so many wires from a place on, one after another
abbrev pub AreShort : Ports → ℕ → ℕ → Module → Type 0
AreShort ports at zero m = Unit {0}
AreShort ports at (suc n) m =
    IsShortIf m (machine_of ports m at) × AreShort ports (at + 1) n (option_map_or (recoded_of m) (machine_of ports m at) m)
