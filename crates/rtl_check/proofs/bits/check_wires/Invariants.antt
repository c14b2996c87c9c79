-- The bits of the wires so far have no fault.
use Rattle.std.proofs.Common.{◌≡◌, List, drop}
use Rattle.rtl_ir.specs.Drivers.{Drive}
use Rattle.rtl_ir.specs.Faults.Bits.{bits_faults}
use Rattle.rtl_check.specs.Tallies.{Tells}
use Rattle.rtl_check.proofs.bits.check_wires.Given as goal

abbrev pub invariant-loop-place : goal.invariant-loop-place
invariant-loop-place l =
    (drives : List Drive) → Tells l.tally drives → bits_faults l.id drives l.place (drop l.place l.wires) ≡ bits_faults l.id drives 0 l.wires
