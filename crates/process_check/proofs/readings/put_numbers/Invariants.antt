-- The numbers so far, and those of the places that are left, are all.
use Rattle.std.proofs.Common.{◌≡◌, ◌++◌, List, drop}
use Rattle.rtl_sig.specs.declared.sig.WireBit.{WireBit}
use Rattle.process_trees.specs.Numbers.{AreNumbers}
use Rattle.process_check.specs.Readings.{numbers_in}
use Rattle.process_check.proofs.readings.put_numbers.Given as goal

abbrev pub invariant-loop-bit : goal.invariant-loop-bit
invariant-loop-bit l = (bits : List WireBit) → AreNumbers l.numbers bits → l.all.items ++ numbers_in bits (drop l.bit-index l.signal) ≡ l.initial.all.items ++ numbers_in bits l.signal
