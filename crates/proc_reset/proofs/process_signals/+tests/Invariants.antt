use Rattle.std.proofs.Common.{◌≡◌, ◌++◌, drop}
use Rattle.rtl_ir.specs.Tree.{cases_of, switches_of}
use Rattle.net_model.specs.Proc.Reset.{cases_signals, switches_signals}
use Rattle.proc_reset.proofs.process_signals.+tests.Given as goal

-- the signals so far, and those of the switches that are left, are all
abbrev pub invariant-put_tests-loop-switch : goal.invariant-put_tests-loop-switch
invariant-put_tests-loop-switch l =
    l.signals.items ++ switches_signals (switches_of (drop l.switch-index l.switch-items)) ≡ l.initial.signals.items ++ switches_signals (switches_of l.switch-items)

-- .. and those of the cases that are left
abbrev pub invariant-put_switch_tests-loop-case : goal.invariant-put_switch_tests-loop-case
invariant-put_switch_tests-loop-case l =
    l.signals.items ++ cases_signals (cases_of (drop l.case-index l.case-items)) ≡ l.initial.signals.items ++ cases_signals (cases_of l.case-items)
