use Rattle.std.proofs.Common.{ap, subst}
use Rattle.std.proofs.lemmas.List.{drop_all}
use Rattle.rtl_ir.specs.Types.{cell_type}
use Rattle.net_index.specs.ReaderFill.{Adds}
use Rattle.net_index.specs.Readers.{cell_readers, cell_reads, pin_reads}
use Rattle.net_index.proofs.ReaderAdds.{left_end, left_next, left_start, next_cell}
use Rattle.net_index.proofs.reader_fill.add_cells.Goals as goal

pub loop-place-init : goal.loop-place-init
loop-place-init c = λ ports are. left_start _ _ _

pub loop-place-preserved : goal.loop-place-preserved
loop-place-preserved c = λ ports are.
    let cell = c.index-cells-place.result in
    let w = c.args.numbering.now in
    let old = c.loop-place.list.items in
    let new = c.add_pins.new.list.items in
    let type = cell_type ports c.as_slice.result.now in
    let added : Adds w old (cell_readers (pin_reads (cell_type ports cell.kind_name) c.loop-place.place 0 cell.pins)) new =
    subst (λ n. Adds w old (cell_readers (pin_reads (cell_type ports cell.kind_name) n 0 cell.pins)) new) c.in_ok-narrowed.ensures.value
    (subst (λ k. Adds w old (cell_readers (pin_reads (cell_type ports k) c.in_ok-narrowed.field-0 0 cell.pins)) new) c.as_slice.ensures.value
    (subst (λ ps. Adds w old (cell_readers (pin_reads type c.in_ok-narrowed.field-0 0 ps)) new) c.as_slice-in-loop-place.ensures.value
    (c.in_ok-add_pins.ensures.ok type (c.find-cell_type.ensures.value ports are)))) in
    left_next w c.args.list.now.items old new _ _ (cell_readers (pin_reads (cell_type ports cell.kind_name) c.loop-place.place 0 cell.pins)) _
    (next_cell ports c.args.cells.now c.loop-place.place cell c.loop-place-test.true c.index-cells-place.is) added (c.loop-place.invariant ports are)

pub returns : goal.returns
returns c = record {
  ok = λ ports are.
      left_end c.args.numbering.now c.args.list.now.items c.loop-place.list.items _ _
      (λ b. ap (λ cs. cell_readers (cell_reads ports c.loop-place.place cs) b) (drop_all c.loop-place.place c.args.cells.now c.loop-place-test.false)) (c.loop-place.invariant ports are);
}
