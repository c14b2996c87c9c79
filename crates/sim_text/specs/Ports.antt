-- The ports of a module that a line speaks of.
use Rattle.std.specs.Prelude.{◌<◌, ℕ, Bool, true, false, List, [], ◌∷◌, filter, map}
use Rattle.rtl_ir.specs.declared.module.Module.{Module}
use Rattle.rtl_ir.specs.declared.ports.PortLine.{PortLine}
use Rattle.rtl_ir.specs.declared.wire.Role.{Role}
use Rattle.rtl_ir.specs.declared.wire.Role.TheVariants.{Inner, Input, Output, Inout}
use Rattle.rtl_ir.specs.Ports.{ports_of}

-- two roles are one
abbrev pub same_role : Role → Role → Bool
same_role Inner Inner = true
same_role Input Input = true
same_role Output Output = true
same_role Inout Inout = true
same_role a b = false

-- the widths of the ports of a role, in order of number
abbrev pub port_widths : Role → Module → List ℕ
port_widths role m = map (λ (p : PortLine). p.width) (filter (λ (p : PortLine). same_role role p.role) (ports_of m.wires))

-- each of these widths is at least 1
abbrev pub AreWidths : List ℕ → Type 0
AreWidths [] = Unit {0}
AreWidths (width ∷ widths) = (0 < width) × AreWidths widths
