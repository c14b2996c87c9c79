-- The bits so far are those from the place on, each once.
use Rattle.std.proofs.Common.{◌≡◌, drop}
use Rattle.std.specs.Prelude.{reverse}
use Rattle.std.specs.List.{IsDistinct}
use Rattle.rtl_ir.specs.Assigns.{each_once}
use Rattle.rtl_ir.specs.Signals.{same_bit}
use Rattle.flat_net.proofs.tree_bits.TreeBits.of.Given as goal

abbrev pub invariant-loop-at : goal.invariant-loop-at
invariant-loop-at l = record {
  distinct : IsDistinct same_bit l.bits.keys;
  once : reverse l.bits.keys ≡ each_once (drop l.at l.assigned.items);
}
