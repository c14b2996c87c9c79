-- The drivers so far and those of the processes that are left are all.
use Rattle.std.proofs.Common.{◌≡◌, drop}
use Rattle.rtl_sig.specs.declared.sig.WireBit.{WireBit}
use Rattle.rtl_ir.specs.Drivers.{tree_drives}
use Rattle.net_index.specs.DriverFill.{first_of}
use Rattle.net_index.proofs.driver_fill.add_trees.Given as goal

abbrev pub invariant-loop-place : goal.invariant-loop-place
invariant-loop-place l = (b : WireBit) → first_of l.drivers (tree_drives l.place (drop l.place l.processes)) b ≡ first_of l.fn.drivers (tree_drives 0 l.processes) b
