use Rattle.std.proofs.Common.{◌<◌, ◌≤◌, ◌∙◌, ap, get_or, length, refl, subst, take, take_all}
use Rattle.std.proofs.lemmas.Result.{err_from_is_err_and}
use Rattle.rtl_ir.specs.Types.{cell_type}
use Rattle.memory_check.specs.Memories.{KnowsCells}
use Rattle.net_index.specs.Types.{IsType}
use Rattle.rtl_check.proofs.CellLemmas.{cell_fault_in, cell_next, cells_fit_all, named_type, noted_next}
use Rattle.rtl_check.proofs.cells.check_cells.Goals as goal

pub returns-in_err-check_cell-clause-first : goal.returns-in_err-check_cell-clause-first
returns-in_err-check_cell-clause-first c = λ ports are.
    let p = err_from_is_err_and c.from_residual.result c.from_residual.ensures.1 in
    let before = take c.loop-cell.cell-index c.args.body.now.cells in
    rw (p.1, p.2)
    (cell_fault_in ports c.args.body.now before c.as_slice-cell-items.result.now c.loop-cell.cell-index c.cell-item.result c.as_slice.result.now c.in_err-check_cell.field-0.0 _ c.as_slice-cell-items.ensures.value c.loop-cell-test.true c.cell-item.is c.as_slice.ensures.value (c.loop-cell.invariant.faults ports are)
    (c.in_err-check_cell.ensures.first (cell_type ports c.as_slice.result.now) (c.find-cell_type.ensures.value ports are) c.args.body.now refl before (c.loop-cell.invariant.noted ports are)))

pub loop-cell-preserved : goal.loop-cell-preserved
loop-cell-preserved c =
    let m = c.args.body.now in
    let i = c.loop-cell.cell-index in
    let cell = c.cell-item.result in
    let items = c.as_slice-cell-items.ensures.value in
    let lt = subst (λ cs. i < length cs) items c.loop-cell-test.true in
    let is = c.cell-item.is ∙ ap (λ cs. get_or cs i cell) items in
    record {
      noted = λ ports are.
          let type = subst (λ n. IsType c.find-cell_type.result (cell_type ports n)) c.as_slice.ensures.value (c.find-cell_type.ensures.value ports are) in
          noted_next c.check_cell.new.memories m m.cells i cell refl lt is
          (c.in_ok-check_cell.ensures.noted (cell_type ports cell.kind_name) type (named_type ports cell.kind_name) m (take i m.cells) (c.loop-cell.invariant.noted ports are));
      faults = λ ports are.
          let type = subst (λ n. IsType c.find-cell_type.result (cell_type ports n)) c.as_slice.ensures.value (c.find-cell_type.ensures.value ports are) in
          cell_next ports m m.cells i cell _ lt is (c.loop-cell.invariant.faults ports are)
          (c.in_ok-check_cell.ensures.first (cell_type ports cell.kind_name) type m refl (take i m.cells) (c.loop-cell.invariant.noted ports are));
    }

pub returns-clause-fit : goal.returns-clause-fit
returns-clause-fit c = λ ports are.
    cells_fit_all ports c.args.body.now c.as_slice-cell-items.result.now c.loop-cell.cell-index _ c.as_slice-cell-items.ensures.value c.loop-cell-test.false (c.loop-cell.invariant.faults ports are)

pub returns-clause-noted : goal.returns-clause-noted
returns-clause-noted c = λ ports are.
    let past = subst (λ cs. length cs ≤ c.loop-cell.cell-index) c.as_slice-cell-items.ensures.value c.loop-cell-test.false in
    subst (KnowsCells c.loop-cell.memories c.args.body.now) (take_all c.loop-cell.cell-index c.args.body.now.cells past) (c.loop-cell.invariant.noted ports are)
