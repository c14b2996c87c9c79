use Rattle.std.proofs.Common.{◌≡◌, ◌++◌, drop, length}
use Rattle.rtl_ir.specs.Tree.{cases_of, switches_of}
use Rattle.match_cells.specs.Numbers.{cases_behind, switches_behind}
use Rattle.match_cells.proofs.numbers.+nodes.Given as goal

-- the nodes so far, and those of the switches that are left, are all
abbrev pub invariant-put_case-loop-switch : goal.invariant-put_case-loop-switch
invariant-put_case-loop-switch l =
    l.table.items ++ switches_behind (length l.table.items) (switches_of (drop l.switch-index l.switch-items))
    ≡ l.initial.table.items ++ switches_behind (length l.initial.table.items) (switches_of l.switch-items)

-- .. of the cases that are left
abbrev pub invariant-put_switch-loop-case : goal.invariant-put_switch-loop-case
invariant-put_switch-loop-case l =
    l.table.items ++ cases_behind (length l.table.items) (cases_of (drop l.case-index l.case-items))
    ≡ l.initial.table.items ++ cases_behind (length l.initial.table.items) (cases_of l.case-items)
