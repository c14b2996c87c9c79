use Rattle.std.proofs.Common.{◌∙◌, flat_map}
use Rattle.rtl_ir.specs.Types.{cell_type}
use Rattle.rtl_check.specs.Tallies.{bits_of_cell, bits_of_pin, with_bits}
use Rattle.rtl_check.proofs.Tallying.{counted_next}
use Rattle.rtl_check.proofs.bits.count_cells.Goals as goal

pub loop-cell-preserved : goal.loop-cell-preserved
loop-cell-preserved c = record {
  widths = c.count_pins.ensures.widths ∙ c.loop-cell.invariant.widths;
  counted = λ ports are. counted_next (bits_of_cell ports) c.args.cells.now c.loop-cell.cell-index c.cell-item.result c.loop-cell-test.true c.cell-item.is c.loop-cell.tally c.count_pins.new.tally _
      (c.count_pins.ensures.value (cell_type ports c.as_slice.result.now) (c.find-cell_type.ensures.value ports are)
      ∙ (λ i. with_bits c.loop-cell.tally (flat_map (bits_of_pin (cell_type ports (c.as_slice.ensures.value i))) (c.as_slice-in-loop-cell.ensures.value i))))
      (c.loop-cell.invariant.counted ports are);
}
