use Rattle.std.proofs.Common.{◌∙◌, ◌++◌, ap, flat_map, refl}
use Rattle.rtl_ir.specs.declared.module.Link.{Link}
use Rattle.rtl_ir.specs.Assigns.{left_bits}
use Rattle.rtl_ir.specs.Signals.{wire_bits}
use Rattle.process_check.specs.Readings.{bit_edges}
use Rattle.process_check.proofs.Among.{put_all, put_next}
use Rattle.process_check.proofs.ReadingLemmas.{line_cons}
use Rattle.process_check.proofs.readings.put_assigns.Goals as goal

pub loop-line-preserved : goal.loop-line-preserved
loop-line-preserved c = λ bits are.
    let f = bit_edges bits c.args.signals.now c.args.assigns.now in
    put_next (λ ls. flat_map f (left_bits ls)) (λ (l : Link). flat_map f (wire_bits l.left)) (line_cons f) c.args.assigns.now c.loop-line.line-index c.line-item.result c.loop-line-test.true c.line-item.is
    c.loop-line.edges.items c.put_line.new.edges.items _
    (c.in_ok-put_line.ensures.ok bits are c.args.assigns.now c.in_ok-sources.ensures.sources ∙ ap (λ left. c.loop-line.edges.items ++ flat_map f (wire_bits left)) c.as_slice.ensures.value)
    (c.loop-line.invariant bits are)

pub returns : goal.returns
returns c = record {
  ok = λ bits are.
      let f = bit_edges bits c.args.signals.now c.args.assigns.now in
      put_all (λ ls. flat_map f (left_bits ls)) (λ (l : Link). flat_map f (wire_bits l.left)) (line_cons f) refl c.args.assigns.now c.loop-line.line-index c.loop-line-test.false
      c.loop-line.edges.items _ (c.loop-line.invariant bits are);
}
