-- The lines so far are settled.
use Rattle.std.proofs.Common.{◌≡◌, List, drop}
use Rattle.std.specs.List.{list_all}
use Rattle.rtl_sig.specs.declared.sig.WireBit.{WireBit}
use Rattle.rtl_ir.specs.Follow.{all_joins}
use Rattle.rtl_ir.specs.Tree.{CaseView}
use Rattle.process_trees.specs.Rounds.{AreLeaves}
use Rattle.process_check.specs.Values.{is_settled}
use Rattle.process_check.proofs.values.settle_lines.Given as goal

abbrev pub invariant-loop-line : goal.invariant-loop-line
invariant-loop-line l =
    (root : CaseView) (bits : List WireBit) → AreLeaves l.leaves root bits
    → list_all (is_settled root bits l.itself) (all_joins (drop l.line-index l.lines)) ≡ list_all (is_settled root bits l.itself) (all_joins l.lines)
