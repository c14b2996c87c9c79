-- No place so far holds.
use Rattle.std.proofs.Common.{◌≡◌, List, drop}
use Rattle.std.specs.List.{list_any}
use Rattle.rtl_sig.specs.declared.sig.WireBit.{WireBit}
use Rattle.rtl_ir.specs.Follow.{joins}
use Rattle.rtl_ir.specs.Tree.{CaseView}
use Rattle.process_trees.specs.Rounds.{AreLeaves}
use Rattle.proc_reset.specs.Places.{is_held}
use Rattle.proc_reset.proofs.places.line_holds.Given as goal

abbrev pub invariant-loop-at : goal.invariant-loop-at
invariant-loop-at l =
    (root : CaseView) (bits : List WireBit) → AreLeaves l.leaves root bits
    → list_any (is_held root bits) (joins (drop l.at l.left) (drop l.at l.right)) ≡ list_any (is_held root bits) (joins l.left l.right)
