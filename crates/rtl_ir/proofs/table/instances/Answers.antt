use Rattle.std.proofs.Common.{◌∙◌, ap, sym}
use Rattle.rtl_ir.specs.Ports.{place_module}
use Rattle.rtl_ir.proofs.NameOrder.{all_cells, instance_next, no_cells}
use Rattle.rtl_ir.proofs.PortLemmas.{AreNamed-insert_entry, found_values, map-insert_entry-module}
use Rattle.rtl_ir.proofs.table.instances.Goals as goal
use Rattle.rtl_ir.proofs.table.instances.Goals.{in-Some+in_ok-insert, in_default}

pub loop-cell-init : goal.loop-cell-init
loop-cell-init c = rw c.new-found.ensures.empty (record { found = sym (no_cells c.args.design.now.modules.now); named = tt })

pub loop-cell-preserved : goal.loop-cell-preserved
loop-cell-preserved c = elim c.match-instance_of.branch [
  | in-Some+in_ok-insert w ↦
      rw (w.found-is, w.in_ok-insert.ensures.entries) (record {
        found =
            map-insert_entry-module _ _ w.as_slice-in-Some.ensures.value _ c.loop-cell.invariant.named
            ∙ ap (place_module w.in-Some.module.now) c.loop-cell.invariant.found
            ∙ sym (instance_next c.args.design.now.modules.now c.args.cells.now c.loop-cell.cell-index c.cell-item.result c.loop-cell-test.true c.cell-item.is _ c.as_slice.ensures.value _ w.in-Some.ensures.value);
        named = AreNamed-insert_entry _ _ w.as_slice-in-Some.ensures.value _ c.loop-cell.invariant.named;
      })
  | in_default w ↦
      rw w.found-is (record {
        found =
            c.loop-cell.invariant.found
            ∙ sym (instance_next c.args.design.now.modules.now c.args.cells.now c.loop-cell.cell-index c.cell-item.result c.loop-cell-test.true c.cell-item.is _ c.as_slice.ensures.value _ w.in_default.ensures.value);
        named = c.loop-cell.invariant.named;
      })
]

pub returns : goal.returns
returns c = record {
  value = found_values c.values_of.result c.loop-cell.found.entries _ (c.loop-cell.invariant.found ∙ all_cells c.args.design.now.modules.now c.args.cells.now c.loop-cell.cell-index c.loop-cell-test.false) c.values_of.ensures.value;
}
