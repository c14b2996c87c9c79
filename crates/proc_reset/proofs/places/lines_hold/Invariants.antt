-- No place of the lines so far holds.
use Rattle.std.proofs.Common.{◌≡◌, List, drop}
use Rattle.std.specs.List.{list_any}
use Rattle.rtl_sig.specs.declared.sig.WireBit.{WireBit}
use Rattle.rtl_ir.specs.Follow.{all_joins}
use Rattle.rtl_ir.specs.Tree.{CaseView}
use Rattle.process_trees.specs.Rounds.{AreLeaves}
use Rattle.proc_reset.specs.Places.{is_held}
use Rattle.proc_reset.proofs.places.lines_hold.Given as goal

abbrev pub invariant-loop-line : goal.invariant-loop-line
invariant-loop-line l =
    (root : CaseView) (bits : List WireBit) → AreLeaves l.leaves root bits
    → list_any (is_held root bits) (all_joins (drop l.line-index l.lines)) ≡ list_any (is_held root bits) (all_joins l.lines)
