use Rattle.std.proofs.Common.{◌≡◌, ◌++◌, drop}
use Rattle.rtl_ir.specs.Assigns.{cases_assigns, switches_assigns}
use Rattle.rtl_ir.specs.Tree.{cases_of, switches_of}
use Rattle.proc_reset.specs.Reads.{sources}
use Rattle.proc_reset.proofs.process_signals.+assigned.Given as goal

-- the signals so far, and those below the switches that are left, are all
abbrev pub invariant-put_assigned-loop-switch : goal.invariant-put_assigned-loop-switch
invariant-put_assigned-loop-switch l =
    l.signals.items ++ sources (switches_assigns (switches_of (drop l.switch-index l.switch-items))) ≡ l.initial.signals.items ++ sources (switches_assigns (switches_of l.switch-items))

-- .. and those of the cases that are left
abbrev pub invariant-put_switch_assigned-loop-case : goal.invariant-put_switch_assigned-loop-case
invariant-put_switch_assigned-loop-case l =
    l.signals.items ++ sources (cases_assigns (cases_of (drop l.case-index l.case-items))) ≡ l.initial.signals.items ++ sources (cases_assigns (cases_of l.case-items))
