use Rattle.std.proofs.Common.{◌∙◌, ap, subst}
use Rattle.rtl_ir.specs.Rules.{updated_bits}
use Rattle.process_check.specs.Updates.{AreAlike}
use Rattle.rtl_check.specs.Tallies.{with_bits}
use Rattle.rtl_check.proofs.Tallying.{updates_next}
use Rattle.rtl_check.proofs.bits.count_updates.Goals as goal

pub loop-process-preserved : goal.loop-process-preserved
loop-process-preserved c =
    updates_next c.args.processes.now c.loop-process.process-index c.process-item.result c.loop-process-test.true c.process-item.is
    c.args.tally.now c.loop-process.tally c.count_bits.new.tally c.in_ok-bits.bits.items
    (subst (λ rules. AreAlike c.in_ok-bits.bits.items (updated_bits rules)) c.as_slice.ensures.value c.in_ok-bits.ensures.value)
    (c.count_bits.ensures.value ∙ ap (with_bits c.loop-process.tally) c.as_slice-in-loop-process.ensures.value)
    c.loop-process.invariant
