use Rattle.std.proofs.Common.{◌∙◌, ap, arith, drop, ◌+◌}
use Rattle.std.proofs.lemmas.Grind.{common_steps}
use Rattle.rtl_ir.specs.Signals.{wire_bits}
use Rattle.opt_clean.specs.Kept.{right_bits}
use Rattle.opt_clean.specs.Linked.{cell_places}
use Rattle.opt_clean.specs.Marking.{mark_places, marking_of}
use Rattle.opt_clean.proofs.MarkSteps.{mark_step}
use Rattle.opt_clean.proofs.Steps.{here}
use Rattle.opt_clean.proofs.kept.Marks.mark_links.Goals as goal

pub loop-link-preserved : goal.loop-link-preserved
loop-link-preserved c = λ ports m is.
    let links = c.args.links.now in
    let i = c.loop-link.link-index in
    let link = c.link-item.result in
    mark_step ports m (marking_of c.loop-link.self) (marking_of c.mark_signal.new.self) (mark_places (marking_of c.args.self.now) (cell_places ports m (right_bits links)))
    (wire_bits link.right) (right_bits (drop (i + 1) links)) (right_bits (drop i links))
    (ap right_bits (here links i link c.loop-link-test.true c.link-item.is))
    (c.in_ok-mark_signal.ensures.value ports m is ∙ ap (λ s. mark_places (marking_of c.loop-link.self) (cell_places ports m (wire_bits s))) c.as_slice.ensures.value)
    (c.loop-link.invariant ports m is)

pub returns : goal.returns
returns c = record { value = λ ports m is. grind (arith, common_steps, c.loop-link.invariant ports m is) }
