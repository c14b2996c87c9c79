use Rattle.std.proofs.Common.{refl}
use Rattle.rtl_ir.specs.declared.cell.Cell.{Cell}
use Rattle.rtl_ir.specs.Flat.Cell.{cell_kind, cell_rows, cells_rows}
use Rattle.rtl_ir.specs.Flat.Tree.{design_ports}
use Rattle.flat_net.proofs.Kept.{within-Keeps}
use Rattle.flat_net.proofs.Reading.{Extends-then}
use Rattle.flat_net.proofs.Adding.{Leads-item, Leads-last}
use Rattle.flat_net.proofs.builder.Builder.add_cells.Goals as goal

pub add_cell-requires : goal.add_cell-requires
add_cell-requires c = record { in_range = within-Keeps _ _ _ c.loop-cell.invariant.grows.paths c.requires.in_range }

pub loop-cell-preserved : goal.loop-cell-preserved
loop-cell-preserved c = record {
  grows = Extends-then _ _ _ c.loop-cell.invariant.grows c.in_ok-add_cell.ensures.grows;
  rows = λ p path d table start is.
      let wires = c.args.scope.now.wires.now in
      let here = λ (x : Cell). cell_rows start (design_ports d) p wires x (cell_kind x) in
      Leads-item (cells_rows start (design_ports d) p wires) here (λ x xs. refl) refl c.args.cells.now _ _ _ _ c.loop-cell.cell-index c.cell-item.result c.loop-cell-test.true c.cell-item.is
      (c.loop-cell.invariant.rows p path d table start is) (c.in_ok-add_cell.ensures.rows p (c.loop-cell.invariant.grows.paths _ _ path) d table start is);
}

pub returns-clause-rows : goal.returns-clause-rows
returns-clause-rows c = λ p path d table start is.
    let wires = c.args.scope.now.wires.now in
    let here = λ (x : Cell). cell_rows start (design_ports d) p wires x (cell_kind x) in
    Leads-last (cells_rows start (design_ports d) p wires) here (λ x xs. refl) refl c.args.cells.now _ _ _ c.loop-cell.cell-index c.loop-cell-test.false (c.loop-cell.invariant.rows p path d table start is)
