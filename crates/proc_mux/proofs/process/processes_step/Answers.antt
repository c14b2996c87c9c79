use Rattle.std.proofs.Common.{rules}
use Rattle.proc_mux.proofs.Exact.{process_goes, process_over}
use Rattle.proc_mux.proofs.process.processes_step.Goals as goal

pub returns-in_err-builder-clause-over : goal.returns-in_err-builder-clause-over
returns-in_err-builder-clause-over c e =
    process_over c.args.processes.now c.loop-process.process-index c.process-item.result c.loop-process-test.true c.process-item.is c.loop-process.builder _ c.loop-process.invariant.all
    (search (rules, c.process_step.ensures.over, e, c.from_residual.ensures))

pub loop-process-preserved : goal.loop-process-preserved
loop-process-preserved c = record {
  all =
      process_goes c.args.processes.now c.loop-process.process-index c.process-item.result c.loop-process-test.true c.process-item.is c.loop-process.builder c.in_ok-builder.builder _
      c.in_ok-builder.ensures.exact c.loop-process.invariant.all;
  within = λ few. c.in_ok-builder.ensures.within (c.loop-process.invariant.within few);
}
