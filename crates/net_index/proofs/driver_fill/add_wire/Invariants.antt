-- The drivers so far and those of the bits that are left are all.
use Rattle.std.proofs.Common.{◌≡◌, ◌-◌}
use Rattle.rtl_sig.specs.declared.sig.WireBit.{WireBit}
use Rattle.rtl_ir.specs.Drivers.{FromPort, all_by}
use Rattle.rtl_ir.specs.Signals.{bits_of_wire}
use Rattle.net_index.specs.DriverFill.{first_of}
use Rattle.net_index.proofs.IndexDrives.{bits_from}
use Rattle.net_index.proofs.driver_fill.add_wire.Given as goal

abbrev pub invariant-loop-at : goal.invariant-loop-at
invariant-loop-at l =
    (b : WireBit) → first_of l.drivers (all_by FromPort (bits_from l.wire l.at (l.width - l.at))) b ≡ first_of l.fn.drivers (all_by FromPort (bits_of_wire l.wire l.width)) b
