use Rattle.std.proofs.Common.{◌∙◌, ap}
use Rattle.std.specs.List.{flat_map}
use Rattle.rtl_ir.specs.Signals.{wire_bits}
use Rattle.rtl_ir.specs.declared.cell.Pin.{Pin}
use Rattle.opt_clean.specs.Moving.{noted}
use Rattle.opt_clean.proofs.Tables.{noted_next}
use Rattle.opt_clean.proofs.wires.note_pins.Goals as goal

pub loop-pin-preserved : goal.loop-pin-preserved
loop-pin-preserved c =
    noted_next (λ (p : Pin). wire_bits p.sig) c.args.pins.now c.loop-pin.pin-index c.pin-item.result c.loop-pin.named.items c.note_signal.new.named.items (noted c.args.named.now.items (flat_map (λ (p : Pin). wire_bits p.sig) c.args.pins.now)) c.loop-pin-test.true c.pin-item.is
    (c.note_signal.ensures.value ∙ ap (λ s. noted c.loop-pin.named.items (wire_bits s)) c.as_slice.ensures.value) c.loop-pin.invariant
