use Rattle.std.proofs.Common.{◌∙◌, flat_map, sym}
use Rattle.rtl_ir.specs.WritePorts.{write_lines}
use Rattle.rtl_check.proofs.ProcessLemmas.{line_first, no_fault, uneven_first}
use Rattle.rtl_check.proofs.processes.check_process.Goals as goal

pub returns-clause-first : goal.returns-clause-first
returns-clause-first c = λ ports types asked fit earlier knows.
    no_fault ports c.args.body.now earlier c.args.process.now
    (sym c.is_too_wide.ensures.value ∙ c.if-is_too_wide.false)
    (sym c.has_uneven.ensures.value ∙ c.if-has_uneven.false)
    (sym c.gives_to_constant.ensures.value ∙ c.if-gives_to_constant.false)
    (sym (c.in_ok-is_bad_process.ensures.value ports types asked fit) ∙ c.if-branch.false)
    (sym (c.in_ok-has_bad_line.ensures.bad c.args.body.now (flat_map write_lines earlier) knows) ∙ c.if-branch-2.false)

pub returns-then-has_uneven-clause-first : goal.returns-then-has_uneven-clause-first
returns-then-has_uneven-clause-first c = λ ports types asked fit earlier knows.
    uneven_first ports c.args.body.now earlier c.args.process.now
    (sym c.is_too_wide.ensures.value ∙ c.if-is_too_wide.false)
    (sym c.has_uneven.ensures.value ∙ c.if-has_uneven.true)
    c.in_ok-spot-2.field-0 c.in_ok-spot-2.ensures.value

pub returns-then-branch-2-clause-first : goal.returns-then-branch-2-clause-first
returns-then-branch-2-clause-first c = λ ports types asked fit earlier knows.
    line_first ports c.args.body.now earlier c.args.process.now
    (sym c.is_too_wide.ensures.value ∙ c.if-is_too_wide.false)
    (sym c.has_uneven.ensures.value ∙ c.if-has_uneven.false)
    (sym c.gives_to_constant.ensures.value ∙ c.if-gives_to_constant.false)
    (sym (c.in_ok-is_bad_process.ensures.value ports types asked fit) ∙ c.if-branch.false)
    (sym (c.in_ok-has_bad_line.ensures.bad c.args.body.now (flat_map write_lines earlier) knows) ∙ c.if-branch-2.true)
    c.in_ok-spot-5.field-0 c.in_ok-spot-5.ensures.value

pub returns-clause-noted : goal.returns-clause-noted
returns-clause-noted c = λ before knows. c.in_ok-has_bad_line.ensures.noted c.if-branch-2.false c.args.body.now before knows
