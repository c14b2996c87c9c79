-- The outputs so far are marked.
use Rattle.std.proofs.Common.{◌++◌, List, drop}
use Rattle.rtl_sig.specs.declared.sig.WireBit.{WireBit}
use Rattle.net_model.specs.Fsm.Find.{tree_outputs}
use Rattle.fsm_find.specs.Readers.{AreMarks}
use Rattle.fsm_find.proofs.Marking.{Marked}
use Rattle.fsm_find.proofs.machine.mark_outputs.Given as goal

abbrev pub invariant-loop-place : goal.invariant-loop-place
invariant-loop-place l = (bits : List WireBit) → AreMarks l.initial.table bits → Marked (tree_outputs l.module (drop l.place-index l.places)) (bits ++ tree_outputs l.module l.places) (AreMarks l.table)
