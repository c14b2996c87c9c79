-- The places so far are settled.
use Rattle.std.proofs.Common.{◌≡◌, List, drop}
use Rattle.std.specs.List.{list_all}
use Rattle.rtl_sig.specs.declared.sig.WireBit.{WireBit}
use Rattle.rtl_ir.specs.Follow.{joins}
use Rattle.rtl_ir.specs.Tree.{CaseView}
use Rattle.process_trees.specs.Rounds.{AreLeaves}
use Rattle.process_check.specs.Values.{is_settled}
use Rattle.process_check.proofs.values.settle_line.Given as goal

abbrev pub invariant-loop-at : goal.invariant-loop-at
invariant-loop-at l =
    (root : CaseView) (bits : List WireBit) → AreLeaves l.leaves root bits
    → list_all (is_settled root bits l.itself) (joins (drop l.at l.left) (drop l.at l.right)) ≡ list_all (is_settled root bits l.itself) (joins l.left l.right)
