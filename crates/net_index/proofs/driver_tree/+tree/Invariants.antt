use Rattle.std.proofs.Common.{◌≡◌, ◌++◌, [], drop}
use Rattle.net_index.proofs.DriverTrees.{case_bits, switch_bits}
use Rattle.net_index.proofs.driver_tree.+tree.Given as goal

-- the bits so far, and those of the switches that are left, are all
abbrev pub invariant-put_case-loop-switch : goal.invariant-put_case-loop-switch
invariant-put_case-loop-switch l = l.bits.items ++ switch_bits (drop l.switch-index l.switch-items) ≡ l.initial.bits.items ++ switch_bits l.switch-items

-- .. and those of the cases that are left
abbrev pub invariant-put_switch-loop-case : goal.invariant-put_switch-loop-case
invariant-put_switch-loop-case l = l.bits.items ++ case_bits l.switch.signal l.earlier.items (drop l.case-index l.case-items) ≡ l.initial.bits.items ++ case_bits l.switch.signal [] l.case-items
