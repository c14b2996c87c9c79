-- Tables of ports, as their text gives them.
use Rattle.std.specs.Prelude.{ℕ, ◌^◌, ◌<◌, ◌==◌, ◌||◌, ℤ, pos, negsuc, List, [], ◌∷◌, ◌++◌, Option, Some, None, codes, unwrap_or, if◌then◌else◌}
use Rattle.std.specs.List.{All, fold, slice_split}
use Rattle.std.specs.Str.{bytes_eq}
use Rattle.rtl_lex.specs.Numbers.{int_of}
use Rattle.rtl_ir.specs.declared.wire.Role.{Role}
use Rattle.rtl_ir.specs.declared.wire.Role.TheVariants.{Inner, Input, Output, Inout}
use Rattle.rtl_ir.specs.declared.ports.PortLine.{PortLine}
use Rattle.rtl_ir.specs.declared.ports.ModulePorts.{ModulePorts}
use Rattle.rtl_ir.specs.declared.ports.PortTable.{PortTable}
use Rattle.rtl_readable.specs.Readable.{IsName, IsInteger}

-- a port, as a wire of a readable design has it
pub record IsPortLine (p : PortLine) : Type 0 where
  pub name : IsName p.name
  pub width : p.width < 2 ^ 31
  pub number : IsInteger p.number

-- a module with such ports
pub record AreModulePorts (m : ModulePorts) : Type 0 where
  pub id : IsName m.id
  pub ports : All IsPortLine m.ports

-- a table of such modules
abbrev pub ArePorts : PortTable → Type 0
ArePorts table = All AreModulePorts table.modules

-- the parts of a list of bytes between bytes of this value
abbrev pub parts_of : ℕ → List ℕ → List (List ℕ)
parts_of mark bytes = slice_split (λ b. b == mark) bytes

-- the role of a word
abbrev pub role_of : List ℕ → Role
role_of word =
    if bytes_eq word (codes "input") then Input
    else if bytes_eq word (codes "output") then Output
    else if bytes_eq word (codes "inout") then Inout
    else Inner

-- a number that is no less than 0
abbrev pub natural_of : Option ℤ → ℕ
natural_of None = 0
natural_of (Some (negsuc n)) = 0
natural_of (Some (pos n)) = n

-- the port of a line of four words: role, number, width, name
abbrev pub port_of : List (List ℕ) → Option PortLine
port_of (role ∷ number ∷ width ∷ name ∷ []) = Some (record { name = name; role = role_of role; width = natural_of (int_of width); number = unwrap_or (int_of number) (pos 0) })
port_of words = None

-- the last module has one port more
abbrev pub add_port : PortLine → List ModulePorts → List ModulePorts
add_port p [] = []
add_port p (m ∷ []) = record m { ports = m.ports ++ p ∷ [] } ∷ []
add_port p (m ∷ n ∷ ms) = m ∷ add_port p (n ∷ ms)

abbrev pub with_port : Option PortLine → List ModulePorts → List ModulePorts
with_port None modules = modules
with_port (Some p) modules = add_port p modules

-- a line: the name of a module, or a port of the last one
abbrev pub with_line : List ModulePorts → List ℕ → List ModulePorts
with_line modules [] = modules
with_line modules (b ∷ bs) = if b == 92 || b == 36 then modules ++ record { id = b ∷ bs; ports = [] } ∷ [] else with_port (port_of (parts_of 32 (b ∷ bs))) modules

-- the modules of a text
abbrev pub modules_of : List ℕ → List ModulePorts
modules_of text = fold with_line [] (parts_of 10 text)
