-- The drivers so far and those of the wires that are left are all.
use Rattle.std.proofs.Common.{◌≡◌, drop}
use Rattle.rtl_sig.specs.declared.sig.WireBit.{WireBit}
use Rattle.rtl_ir.specs.Drivers.{port_drives}
use Rattle.net_index.specs.DriverFill.{first_of}
use Rattle.net_index.proofs.driver_fill.add_ports.Given as goal

abbrev pub invariant-loop-place : goal.invariant-loop-place
invariant-loop-place l = (b : WireBit) → first_of l.drivers (port_drives l.place (drop l.place l.wires)) b ≡ first_of l.fn.drivers (port_drives 0 l.wires) b
