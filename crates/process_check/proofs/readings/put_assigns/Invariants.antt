-- What is put so far, with what the assigns that are left give, is all.
use Rattle.std.proofs.Common.{◌≡◌, ◌++◌, List, drop, flat_map}
use Rattle.rtl_sig.specs.declared.sig.WireBit.{WireBit}
use Rattle.rtl_ir.specs.Assigns.{left_bits}
use Rattle.process_trees.specs.Numbers.{AreNumbers}
use Rattle.process_check.specs.Readings.{bit_edges}
use Rattle.process_check.proofs.readings.put_assigns.Given as goal

abbrev pub invariant-loop-line : goal.invariant-loop-line
invariant-loop-line l =
    (bits : List WireBit) → AreNumbers l.numbers bits
    → l.edges.items ++ flat_map (bit_edges bits l.signals l.assigns) (left_bits (drop l.line-index l.assigns)) ≡ l.initial.edges.items ++ flat_map (bit_edges bits l.signals l.assigns) (left_bits l.assigns)
