-- The text of a table of ports.
use Rattle.std.specs.Prelude.{ℕ, List, ◌∷◌, ◌++◌, codes}
use Rattle.std.specs.List.{flat_map}
use Rattle.std.specs.Fmt.{decimal, signed_decimal}
use Rattle.rtl_ir.specs.declared.wire.Role.{Role}
use Rattle.rtl_ir.specs.declared.wire.Role.TheVariants.{Inner, Input, Output, Inout}
use Rattle.rtl_ir.specs.declared.ports.PortLine.{PortLine}
use Rattle.rtl_ir.specs.declared.ports.ModulePorts.{ModulePorts}
use Rattle.rtl_ir.specs.declared.ports.PortTable.{PortTable}

-- the word of a role
unfoldable pub role_word : Role → List ℕ
role_word Inner = codes "inner "
role_word Input = codes "input "
role_word Output = codes "output "
role_word Inout = codes "inout "

-- a port: its role, number, width and name, with a blank between
unfoldable pub port_text : PortLine → List ℕ
port_text p = role_word p.role ++ signed_decimal p.number ++ 32 ∷ decimal p.width ++ 32 ∷ p.name ++ codes "\n"

-- a module: its name, and a line for each of its ports
unfoldable pub ports_by_module_text : ModulePorts → List ℕ
ports_by_module_text m = m.id ++ codes "\n" ++ flat_map port_text m.ports

-- a table: its modules, one after another
abbrev pub ports_text : PortTable → List ℕ
ports_text table = flat_map ports_by_module_text table.modules
