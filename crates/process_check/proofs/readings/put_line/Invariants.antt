-- What is put so far, with what the places that are left give, is all.
use Rattle.std.proofs.Common.{◌≡◌, ◌++◌, List, drop, flat_map}
use Rattle.rtl_sig.specs.declared.sig.WireBit.{WireBit}
use Rattle.rtl_ir.specs.declared.module.Link.{Link}
use Rattle.rtl_ir.specs.Signals.{wire_bits}
use Rattle.process_trees.specs.Numbers.{AreNumbers}
use Rattle.process_check.specs.Readings.{AreSources, bit_edges}
use Rattle.process_check.proofs.readings.put_line.Given as goal

abbrev pub invariant-loop-bit : goal.invariant-loop-bit
invariant-loop-bit l =
    (bits : List WireBit) → AreNumbers l.numbers bits → (assigns : List Link) → AreSources l.sources assigns
    → l.edges.items ++ flat_map (bit_edges bits l.signals assigns) (wire_bits (drop l.bit-index l.left)) ≡ l.initial.edges.items ++ flat_map (bit_edges bits l.signals assigns) (wire_bits l.left)
