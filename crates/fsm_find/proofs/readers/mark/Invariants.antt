-- The bits so far are marked.
use Rattle.std.proofs.Common.{◌++◌, List, drop}
use Rattle.rtl_sig.specs.declared.sig.WireBit.{WireBit}
use Rattle.rtl_ir.specs.Signals.{wire_bits}
use Rattle.fsm_find.specs.Readers.{AreMarks}
use Rattle.fsm_find.proofs.Marking.{Marked}
use Rattle.fsm_find.proofs.readers.mark.Given as goal

abbrev pub invariant-loop-at : goal.invariant-loop-at
invariant-loop-at l = (bits : List WireBit) → AreMarks l.initial.table bits → Marked (wire_bits (drop l.at l.signal)) (bits ++ wire_bits l.signal) (AreMarks l.table)
