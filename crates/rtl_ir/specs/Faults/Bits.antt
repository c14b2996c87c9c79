-- The faults of bits: of their drivers.
use Rattle.std.specs.Prelude.{ℕ, ◌+◌, Bool, nat_lt, List, [], ◌∷◌, ◌++◌, flat_map, if◌then◌else◌}
use Rattle.std.specs.List.{range_with_len}
use Rattle.rtl_sig.specs.declared.sig.WireBit.{WireBit}
use Rattle.rtl_ir.specs.declared.wire.Wire.{Wire}
use Rattle.rtl_ir.specs.Drivers.{Drive, drive_count, is_input}
use Rattle.rtl_ir.specs.Fault.{Fault, TwoDrivers, BadPort, spot, fault_if}

-- a bit has more than one driver
abbrev pub has_two : List Drive → WireBit → Bool
has_two drives b = nat_lt 1 (drive_count drives b)

-- the faults of a bit with two drivers: an input port has one outside, so it may have no other
abbrev pub faults_of_two : List ℕ → Wire → ℕ → List Fault
faults_of_two id w at = fault_if (is_input w.role) (BadPort (spot id w.name)) ++ TwoDrivers id w.name at ∷ []

-- the faults of a bit
abbrev pub bit_faults : List ℕ → List Drive → ℕ → Wire → ℕ → List Fault
bit_faults id drives wire w at = if has_two drives (record { wire = wire; at = at }) then faults_of_two id w at else []

-- the faults of the bits of the wires from a place on, in order of wire and bit
abbrev pub bits_faults : List ℕ → List Drive → ℕ → List Wire → List Fault
bits_faults id drives wire [] = []
bits_faults id drives wire (w ∷ ws) =
    flat_map (bit_faults id drives wire w) (range_with_len 0 w.width) ++ bits_faults id drives (wire + 1) ws
