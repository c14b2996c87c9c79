use Rattle.std.proofs.Common.{◌∙◌, sym}
use Rattle.rtl_check.proofs.LibraryCells.{memory_bad, memory_good}
use Rattle.rtl_check.proofs.cells.check_memory_cell.Goals as goal

pub returns-then-branch-clause-first : goal.returns-then-branch-clause-first
returns-then-branch-clause-first c = λ m is earlier knows shaped.
    memory_bad m c.args.id.now is earlier c.args.cell.now c.args.kind (sym (c.in_ok-is_bad_cell.ensures.bad m earlier knows shaped) ∙ c.if-branch.true) c.in_ok-spot.field-0 c.in_ok-spot.ensures.value

pub returns-clause-first : goal.returns-clause-first
returns-clause-first c = λ m is earlier knows shaped.
    memory_good m earlier c.args.cell.now c.args.kind (sym (c.in_ok-is_bad_cell.ensures.bad m earlier knows shaped) ∙ c.if-branch.false)

pub returns-clause-noted : goal.returns-clause-noted
returns-clause-noted c = λ named shaped m earlier knows. c.in_ok-is_bad_cell.ensures.noted c.if-branch.false m earlier knows shaped named
