-- The drivers so far and those of the places that are left are all.
use Rattle.std.proofs.Common.{◌≡◌, drop, map}
use Rattle.rtl_sig.specs.declared.sig.WireBit.{WireBit}
use Rattle.net_index.specs.DriverFill.{first_of, join_drive}
use Rattle.net_index.proofs.driver_fill.add_joins.Given as goal

abbrev pub invariant-loop-join : goal.invariant-loop-join
invariant-loop-join l = (b : WireBit) → first_of l.drivers (map join_drive (drop l.join-index l.joins)) b ≡ first_of l.fn.drivers (map join_drive l.joins) b
