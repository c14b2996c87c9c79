use Rattle.std.proofs.Common.{rules}
use Rattle.proc_sync.proofs.Stepping.{module_over}
use Rattle.proc_sync.proofs.built.Goals as goal

pub returns-in_err-check_limits-clause-over : goal.returns-in_err-check_limits-clause-over
returns-in_err-check_limits-clause-over c e = module_over c.args.module.now (search (rules, c.check_limits.ensures.over, e, c.from_residual.ensures))
