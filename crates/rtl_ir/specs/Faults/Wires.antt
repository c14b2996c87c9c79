-- The faults of wires: of their ports.
use Rattle.std.specs.Prelude.{ℕ, ℤ, pos, int_lt, Bool, true, false, ◌&&◌, ◌||◌, List, [], ◌∷◌, ◌++◌, if◌then◌else◌}
use Rattle.std.specs.List.{list_any}
use Rattle.std.specs.Ordering.{int_eq}
use Rattle.rtl_ir.specs.declared.wire.Role.{Role}
use Rattle.rtl_ir.specs.declared.wire.Role.TheVariants.{Inner, Input, Output, Inout}
use Rattle.rtl_ir.specs.declared.wire.Wire.{Wire}
use Rattle.rtl_ir.specs.Fault.{Fault, BadPort, spot, fault_if}
use Rattle.rtl_ir.specs.Ports.{is_port}

-- a port of both directions
abbrev pub is_inout : Role → Bool
is_inout Inner = false
is_inout Input = false
is_inout Output = false
is_inout Inout = true

-- a wire is no good port behind ports of these numbers: it has both directions, or its number is below 1 or not new
abbrev pub is_bad_port : List ℤ → Wire → Bool
is_bad_port numbers w =
    is_inout w.role || (is_port w.role && (int_lt w.number (pos 1) || list_any (int_eq w.number) numbers))

-- the numbers of the ports so far, with that of a wire
abbrev pub with_number : List ℤ → Wire → List ℤ
with_number numbers w = if is_port w.role then w.number ∷ numbers else numbers

-- the faults of the wires of a module, behind ports of these numbers
abbrev pub wire_faults : List ℕ → List ℤ → List Wire → List Fault
wire_faults id numbers [] = []
wire_faults id numbers (w ∷ ws) =
    fault_if (is_bad_port numbers w) (BadPort (spot id w.name)) ++ wire_faults id (with_number numbers w) ws
