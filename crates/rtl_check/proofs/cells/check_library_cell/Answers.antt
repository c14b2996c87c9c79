use Rattle.std.proofs.Common.{◌∙◌, Some, true, ap, refl, subst, sym}
use Rattle.std.proofs.lemmas.Result.{err_from_is_err_and, on_ok_weaker}
use Rattle.rtl_ir.specs.Faults.Cells.{memory_faults}
use Rattle.rtl_ir.specs.Flat.Cell.{cell_shape}
use Rattle.rtl_ir.specs.Types as rtl
use Rattle.memory_check.specs.Shapes.{HasShape}
use Rattle.memory_check.proofs.Standing.{no_port}
use Rattle.rtl_check.specs.Finds.{Finds}
use Rattle.rtl_check.proofs.CellLemmas.{no_write}
use Rattle.rtl_check.proofs.LibraryCells.{library_none, library_output, library_rest, library_shape, no_memory_fault, not_memory, not_write}
use Rattle.rtl_check.proofs.cells.check_library_cell.Goals as goal

pub returns-in_err-shape-clause-first : goal.returns-in_err-shape-clause-first
returns-in_err-shape-clause-first c = λ m is earlier knows.
    let p = err_from_is_err_and c.from_residual.result c.from_residual.ensures.1 in
    rw (p.1, p.2) (library_shape m c.args.id.now is earlier c.args.cell.now c.args.kind c.in_err-shape.field-0.0 c.in_err-shape.ensures.first)

pub returns-in_err-check_outputs-clause-first : goal.returns-in_err-check_outputs-clause-first
returns-in_err-check_outputs-clause-first c = λ m is earlier knows.
    let p = err_from_is_err_and c.from_residual-in_err-check_outputs.result c.from_residual-in_err-check_outputs.ensures.1 in
    rw (p.1, p.2) (library_output m c.args.id.now is earlier c.args.cell.now c.args.kind c.in_err-check_outputs.field-0.0 c.in_ok-shape.ensures.first (c.in_err-check_outputs.ensures.first (rtl.Library c.args.kind) refl))

pub returns-in-Memory : goal.returns-in-Memory
returns-in-Memory c =
    let cell = c.args.cell.now in
    let kind = c.in-Memory.is in
    let shaped : HasShape c.in_ok-shape.shape c.in-Memory.kind cell = record { is = c.in_ok-shape.ensures.shape ∙ ap (λ k. cell_shape k cell.params) kind; bounds = c.in_ok-shape.ensures.bounds } in
    record {
      first = λ m is earlier knows.
          library_rest m c.args.id.now is earlier cell c.args.kind c.check_memory_cell.result c.in_ok-shape.ensures.first (c.in_ok-check_outputs.ensures.first (rtl.Library c.args.kind) refl)
          (subst (λ k. Finds c.check_memory_cell.result (memory_faults true m earlier cell k)) (sym kind) (c.check_memory_cell.ensures.first m is earlier knows shaped));
      noted = on_ok_weaker c.check_memory_cell.result (λ h named m earlier knows. h (named ∙ ap Some kind) shaped m earlier knows) c.check_memory_cell.ensures.noted;
    }

pub returns : goal.returns
returns c =
    let cell = c.args.cell.now in
    let none = not_memory c.args.kind c.in_default.not-Memory in
    record {
      first = λ m is earlier knows. library_none m c.args.id.now is earlier cell c.args.kind c.in_ok-shape.ensures.first (c.in_ok-check_outputs.ensures.first (rtl.Library c.args.kind) refl) (no_memory_fault m earlier cell c.args.kind none);
      noted = λ named m earlier knows. no_port m earlier cell c.args.memories.now (no_write cell (Some c.args.kind) named (not_write c.args.kind none)) knows;
    }
