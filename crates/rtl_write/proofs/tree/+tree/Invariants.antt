use Rattle.std.proofs.Common.{◌≡◌, ◌++◌, drop}
use Rattle.rtl_ir.specs.Tree.{switches_of, cases_of}
use Rattle.rtl_write.specs.Text.{switches_text, cases_text}
use Rattle.rtl_write.proofs.tree.+tree.Given as goal

-- the text so far, and that of the switches that are left, are the whole text
abbrev pub invariant-put_case_body-loop-switch : goal.invariant-put_case_body-loop-switch
invariant-put_case_body-loop-switch l = l.out ++ switches_text l.wires l.blanks (switches_of (drop l.switch-index l.switch-items)) ≡ l.initial.out ++ switches_text l.wires l.blanks (switches_of l.switch-items)

-- .. and that of the cases that are left
abbrev pub invariant-put_switch-loop-case : goal.invariant-put_switch-loop-case
invariant-put_switch-loop-case l = l.out ++ cases_text l.wires l.inner.items (cases_of (drop l.case-index l.case-items)) ≡ l.initial.out ++ cases_text l.wires l.inner.items (cases_of l.case-items)
