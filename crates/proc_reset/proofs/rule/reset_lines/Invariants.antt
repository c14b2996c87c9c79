-- The lines so far and those of the lines that are left are all.
use Rattle.std.proofs.Common.{◌≡◌, ◌++◌, List, drop, flat_map}
use Rattle.rtl_sig.specs.declared.sig.WireBit.{WireBit}
use Rattle.rtl_ir.specs.Tree.{CaseView}
use Rattle.process_trees.specs.Rounds.{AreLeaves}
use Rattle.proc_reset.specs.Places.{reset_line}
use Rattle.proc_reset.proofs.rule.reset_lines.Given as goal

abbrev pub invariant-loop-line : goal.invariant-loop-line
invariant-loop-line l =
    (root : CaseView) (bits : List WireBit) → AreLeaves l.leaves root bits
    → l.updates.items ++ flat_map (reset_line root bits) (drop l.line-index l.lines) ≡ flat_map (reset_line root bits) l.lines
