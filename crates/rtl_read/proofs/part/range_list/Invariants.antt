use Rattle.std.proofs.Common.{◌≡◌}
use Rattle.rtl_read.specs.Part.{range_bits}
use Rattle.rtl_read.proofs.part.range_list.Given as goal

abbrev pub invariant-loop-above : goal.invariant-loop-above
invariant-loop-above l = l.bits.items ≡ range_bits l.wire l.from l.above
