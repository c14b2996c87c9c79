-- The start values of the places so far came behind the others.
use Rattle.std.proofs.Common.{List, take}
use Rattle.rtl_sig.specs.declared.sig.WireBit.{WireBit}
use Rattle.rtl_ir.specs.Tree.{CaseView}
use Rattle.process_trees.specs.Rounds.{AreLeaves}
use Rattle.flat_net.specs.Starts.{Gains, starts_by}
use Rattle.flat_net.proofs.starts.Starts.give_all.Given as goal

abbrev pub invariant-loop-line : goal.invariant-loop-line
invariant-loop-line l = (root : CaseView) (bits : List WireBit) → AreLeaves l.leaves root bits → Gains l.fn.self l.self (starts_by root bits (take l.line-index l.lines))
