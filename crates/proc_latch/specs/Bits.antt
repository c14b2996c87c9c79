-- The tree bits of a process, as the code has them.
use Rattle.std.specs.Prelude.{◌≡◌}
use Rattle.std.specs.HashSet.{contains}
use Rattle.rtl_sig.specs.declared.sig.WireBit.{WireBit}
use Rattle.rtl_ir.specs.Signals.{has_bit, same_bit}
use Rattle.proc_latch.specs.declared.bits.TreeBits.{TreeBits}

-- the table has the bits of the list
abbrev pub AreListed : TreeBits → Type 0
AreListed bits = (b : WireBit) → contains same_bit bits.table b ≡ has_bit bits.list.items b
