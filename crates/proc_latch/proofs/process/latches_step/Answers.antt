use Rattle.std.proofs.Common.{rules}
use Rattle.proc_latch.proofs.Exact.{process_over}
use Rattle.proc_latch.proofs.process.latches_step.Goals as goal

pub returns-in_err-builder-clause-over : goal.returns-in_err-builder-clause-over
returns-in_err-builder-clause-over c e =
    process_over c.args.processes.now c.loop-process.process-index c.process-item.result c.loop-process-test.true c.process-item.is c.loop-process.builder _ c.loop-process.invariant.all
    (search (rules, c.latch_process.ensures.over, e, c.from_residual.ensures))
