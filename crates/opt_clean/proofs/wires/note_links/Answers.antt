use Rattle.std.proofs.Common.{◌∙◌, ap, sym}
use Rattle.std.specs.List.{flat_map}
use Rattle.rtl_ir.specs.Signals.{wire_bits}
use Rattle.opt_clean.specs.Moving.{noted}
use Rattle.opt_clean.specs.Wires.{link_bits}
use Rattle.opt_clean.proofs.Tables.{noted_more, noted_next}
use Rattle.opt_clean.proofs.wires.note_links.Goals as goal

pub loop-link-preserved : goal.loop-link-preserved
loop-link-preserved c =
    let link = c.link-item.result in
    noted_next link_bits c.args.links.now c.loop-link.link-index link c.loop-link.named.items c.note_signal-in-loop-link.new.named.items (noted c.args.named.now.items (flat_map link_bits c.args.links.now)) c.loop-link-test.true c.link-item.is
    (c.note_signal-in-loop-link.ensures.value
    ∙ ap (λ s. noted c.note_signal.new.named.items (wire_bits s)) c.as_slice-in-loop-link.ensures.value
    ∙ ap (λ z. noted z (wire_bits link.right)) (c.note_signal.ensures.value ∙ ap (λ s. noted c.loop-link.named.items (wire_bits s)) c.as_slice.ensures.value)
    ∙ sym (noted_more c.loop-link.named.items (wire_bits link.left) (wire_bits link.right))) c.loop-link.invariant
