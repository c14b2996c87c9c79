use Rattle.std.proofs.Common.{◌≡◌, ◌++◌, drop}
use Rattle.rtl_ir.specs.Assigns.{cases_assigns, switches_assigns}
use Rattle.rtl_ir.specs.Tree.{cases_of, switches_of}
use Rattle.proc_mux.proofs.lines.+lines.Given as goal

-- the lines so far, and those of the switches that are left, are all
abbrev pub invariant-put_case-loop-switch : goal.invariant-put_case-loop-switch
invariant-put_case-loop-switch l = l.lines.items ++ switches_assigns (switches_of (drop l.switch-index l.switch-items)) ≡ l.initial.lines.items ++ switches_assigns (switches_of l.switch-items)

-- .. of the cases that are left
abbrev pub invariant-put_switch-loop-case : goal.invariant-put_switch-loop-case
invariant-put_switch-loop-case l = l.lines.items ++ cases_assigns (cases_of (drop l.case-index l.case-items)) ≡ l.initial.lines.items ++ cases_assigns (cases_of l.case-items)
