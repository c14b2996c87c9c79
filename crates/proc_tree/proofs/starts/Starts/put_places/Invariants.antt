-- The start values at the places so far came behind the others.
use Rattle.std.proofs.Common.{take}
use Rattle.rtl_ir.specs.Tree.{CaseView}
use Rattle.proc_tree.specs.Leaves.{AreLeaves}
use Rattle.proc_tree.specs.Starts.{Adds, starts_by}
use Rattle.proc_tree.proofs.starts.Starts.put_places.Given as goal

abbrev pub invariant-loop-place : goal.invariant-loop-place
invariant-loop-place l = (root : CaseView) → AreLeaves l.leaves root → Adds l.fn.self l.self (starts_by root (take l.place-index l.places))
