use Rattle.proc_reset.specs.Places.{reset_line}
use Rattle.proc_reset.proofs.Gathering.{flat_next}
use Rattle.proc_reset.proofs.rule.reset_lines.Goals as goal

pub loop-line-preserved : goal.loop-line-preserved
loop-line-preserved c = λ root bits are.
    flat_next (reset_line root bits) c.args.lines.now c.loop-line.line-index c.line-item.result c.loop-line-test.true c.line-item.is
    c.loop-line.updates.items c.put_line.new.updates.items _ (c.in_ok-put_line.ensures.ok root bits are) (c.loop-line.invariant root bits are)
