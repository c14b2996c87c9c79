-- What is copied so far is what was passed so far.
use Rattle.std.proofs.Common.{◌≡◌, take}
use Rattle.rtl_ir.proofs.process.+tree.Given as goal

abbrev pub invariant-copy_case-loop-switch : goal.invariant-copy_case-loop-switch
invariant-copy_case-loop-switch l = l.switches.items ≡ take l.switch-index l.switch-items

abbrev pub invariant-copy_switch-loop-case : goal.invariant-copy_switch-loop-case
invariant-copy_switch-loop-case l = l.cases.items ≡ take l.case-index l.case-items
