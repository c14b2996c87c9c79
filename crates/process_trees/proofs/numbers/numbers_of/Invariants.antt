-- The bits so far, from the last one on, have their numbers.
use Rattle.std.proofs.Common.{◌≡◌, drop}
use Rattle.std.specs.HashMap.{get_by}
use Rattle.rtl_sig.specs.declared.sig.WireBit.{WireBit}
use Rattle.rtl_ir.specs.Signals.{same_bit}
use Rattle.process_trees.specs.Numbers.{number_from}
use Rattle.process_trees.proofs.numbers.numbers_of.Given as goal

abbrev pub invariant-loop-at : goal.invariant-loop-at
invariant-loop-at l = (b : WireBit) → get_by (same_bit b) l.numbers ≡ number_from l.at (drop l.at l.bits) b
