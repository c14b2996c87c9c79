-- The places so far and those below the switches that are left are all.
use Rattle.std.proofs.Common.{◌≡◌, ◌++◌, drop}
use Rattle.rtl_ir.specs.Follow.{all_joins}
use Rattle.rtl_ir.specs.Tree.{switches_of}
use Rattle.proc_tree.specs.Leaves.{switches_first}
use Rattle.proc_tree.proofs.leaves.+first.Given as goal

abbrev pub invariant-put_case-loop-switch : goal.invariant-put_case-loop-switch
invariant-put_case-loop-switch l = l.places.items ++ all_joins (switches_first (switches_of (drop l.switch-index l.switch-items))) ≡ l.initial.places.items ++ all_joins (switches_first (switches_of l.switch-items))
