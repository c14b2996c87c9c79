use Rattle.std.proofs.Common.{subst}
use Rattle.rtl_ir.specs.Flat.Cell.{cell_rows}
use Rattle.rtl_ir.specs.Flat.Tree.{design_ports}
use Rattle.flat_net.specs.Adds.{Adds}
use Rattle.flat_net.proofs.Moduling.{kind_found}
use Rattle.flat_net.proofs.Results.{if_ok}
use Rattle.flat_net.proofs.builder.Builder.add_cell.Goals as goal

pub returns-in-Some-clause-rows : goal.returns-in-Some-clause-rows
returns-in-Some-clause-rows c = λ p path d table start is.
    let found = kind_found c.args.cell.now _ _ c.in-Some.ensures.value c.as_slice.ensures.value in
    if_ok c.add_library_cell.result (c.add_library_cell.ensures.rows p path start is)
    (λ _ added. subst (λ k. Adds c.args.self.now c.add_library_cell.new.self (cell_rows start (design_ports d) p c.args.scope.now.wires.now c.args.cell.now k)) found added)

pub returns-in-None-clause-rows : goal.returns-in-None-clause-rows
returns-in-None-clause-rows c = λ p path d table start is.
    let found = kind_found c.args.cell.now _ _ c.in-None.ensures.value c.as_slice.ensures.value in
    if_ok c.add_instance.result (c.add_instance.ensures.rows p path d table)
    (λ _ added. subst (λ k. Adds c.args.self.now c.add_instance.new.self (cell_rows start (design_ports d) p c.args.scope.now.wires.now c.args.cell.now k)) found added)
