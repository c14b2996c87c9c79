use Rattle.std.proofs.Common.{◌∙◌, ap}
use Rattle.std.specs.Prelude.{codes, slice_index_or}
use Rattle.rtl_bits.specs.declared.bit.Bit.TheVariants.{X}
use Rattle.rtl_bits.specs.Tables.{seen_of}
use Rattle.rtl_ir.specs.Attributes.{attribute_bits}
use Rattle.proc_tree.proofs.Placing.{bits_next}
use Rattle.proc_tree.proofs.wires.start_bits.Goals as goal

pub loop-at-preserved : goal.loop-at-preserved
loop-at-preserved c = λ m are there.
    bits_next m c.args.place c.loop-at.at c.args.wire.now there c.args.starts.now are c.given-given.result c.given-given.ensures.value
    c.in_ok-init.init (c.in_ok-init.ensures.value ∙ ap (λ attributes. attribute_bits attributes (codes "\\init")) c.as_slice.ensures.value)
    c.bit_at.result (c.bit_at.ensures.value ∙ ap (λ bits. slice_index_or bits c.loop-at.at X) c.as_slice-in-loop-at.ensures.value)
    c.seen.result (c.seen.ensures.value ∙ ap seen_of c.unwrap_or-value.ensures)
    c.loop-at.bits.items c.push.new.self.items c.in_ok-push.ensures.items (c.loop-at.invariant m are there)
