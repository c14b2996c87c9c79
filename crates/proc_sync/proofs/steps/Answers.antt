use Rattle.std.proofs.Common.{rules}
use Rattle.proc_sync.specs.Writer.{body_of, done_of}
use Rattle.proc_sync.proofs.Stepping.{first_over}
use Rattle.proc_sync.proofs.steps.Goals as goal

pub returns-in_err-processes_step-clause-over : goal.returns-in_err-processes_step-clause-over
returns-in_err-processes_step-clause-over c e =
    first_over (body_of c.args.writer) (done_of c.args.writer) c.args.processes.now c.args.builder (search (rules, c.processes_step.ensures.over, e, c.from_residual.ensures))
