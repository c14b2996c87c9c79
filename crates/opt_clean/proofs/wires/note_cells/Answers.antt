use Rattle.std.proofs.Common.{◌∙◌, ap}
use Rattle.std.specs.List.{flat_map}
use Rattle.rtl_ir.specs.Signals.{wire_bits}
use Rattle.rtl_ir.specs.declared.cell.Pin.{Pin}
use Rattle.opt_clean.specs.Moving.{noted}
use Rattle.opt_clean.specs.Wires.{cell_bits}
use Rattle.opt_clean.proofs.Tables.{noted_next}
use Rattle.opt_clean.proofs.wires.note_cells.Goals as goal

pub loop-cell-preserved : goal.loop-cell-preserved
loop-cell-preserved c =
    noted_next cell_bits c.args.cells.now c.loop-cell.cell-index c.cell-item.result c.loop-cell.named.items c.note_pins.new.named.items (noted c.args.named.now.items (flat_map cell_bits c.args.cells.now)) c.loop-cell-test.true c.cell-item.is
    (c.note_pins.ensures.value ∙ ap (λ pins. noted c.loop-cell.named.items (flat_map (λ (p : Pin). wire_bits p.sig) pins)) c.as_slice.ensures.value) c.loop-cell.invariant
