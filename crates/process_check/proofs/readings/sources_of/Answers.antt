use Rattle.std.proofs.Common.{◌∙◌}
use Rattle.std.specs.HashMap.{get_by}
use Rattle.std.specs.Option.{option_or}
use Rattle.rtl_ir.specs.Assigns.{last_source}
use Rattle.rtl_ir.specs.Follow.{joins}
use Rattle.rtl_ir.specs.Signals.{same_bit}
use Rattle.process_check.proofs.ReadingLemmas.{assign_next}
use Rattle.process_check.proofs.readings.sources_of.Goals as goal

pub loop-line-preserved : goal.loop-line-preserved
loop-line-preserved c = λ b.
    assign_next c.args.assigns.now c.loop-line.line-index c.line-item.result c.loop-line-test.true c.line-item.is b (get_by (same_bit b) c.loop-line.sources) (get_by (same_bit b) c.put_sources.new.sources) _
    (c.in_ok-put_sources.ensures.ok b
    ∙ (λ i. option_or (last_source (joins (c.as_slice.ensures.value i) (c.as_slice-in-loop-line.ensures.value i)) b) (get_by (same_bit b) c.loop-line.sources)))
    (c.loop-line.invariant b)
