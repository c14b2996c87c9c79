-- The bits so far and those that are left have the driver.
use Rattle.std.proofs.Common.{◌≡◌, drop}
use Rattle.rtl_sig.specs.declared.sig.WireBit.{WireBit}
use Rattle.net_index.specs.DriverFill.{marked_at}
use Rattle.net_index.proofs.driver_fill.add_bits.Given as goal

abbrev pub invariant-loop-bit : goal.invariant-loop-bit
invariant-loop-bit l = (b : WireBit) → marked_at l.drivers (drop l.bit-index l.bits) l.driver b ≡ marked_at l.fn.drivers l.bits l.driver b
