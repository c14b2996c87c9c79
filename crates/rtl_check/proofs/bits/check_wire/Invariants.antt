-- The bits so far have no fault.
use Rattle.std.proofs.Common.{◌≡◌, ◌-◌, List, flat_map}
use Rattle.std.specs.List.{range_with_len}
use Rattle.rtl_ir.specs.Drivers.{Drive}
use Rattle.rtl_ir.specs.Faults.Bits.{bit_faults}
use Rattle.rtl_check.specs.Tallies.{Tells}
use Rattle.rtl_check.proofs.bits.check_wire.Given as goal

abbrev pub invariant-loop-at : goal.invariant-loop-at
invariant-loop-at l =
    (drives : List Drive) → Tells l.tally drives
    → flat_map (bit_faults l.id drives l.place l.wire) (range_with_len l.at (l.wire.width - l.at)) ≡ flat_map (bit_faults l.id drives l.place l.wire) (range_with_len 0 l.wire.width)
