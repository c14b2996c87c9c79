-- The bits so far, from the last one on, stand there once, and those that were seen are these.
use Rattle.std.proofs.Common.{◌≡◌, drop, reverse}
use Rattle.std.specs.HashSet.{contains}
use Rattle.rtl_sig.specs.declared.sig.WireBit.{WireBit}
use Rattle.rtl_ir.specs.Assigns.{each_once}
use Rattle.rtl_ir.specs.Signals.{has_bit, same_bit}
use Rattle.process_trees.proofs.assigned.each_once.Given as goal

abbrev pub invariant-loop-at : goal.invariant-loop-at
invariant-loop-at l = record {
  once : reverse l.once.items ≡ each_once (drop l.at l.bits);
  seen : (b : WireBit) → contains same_bit l.seen b ≡ has_bit (drop l.at l.bits) b;
}
