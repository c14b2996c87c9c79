use Rattle.std.proofs.Common.{rules}
use Rattle.rtl_ir.specs.Build.{building_of}
use Rattle.match_cells.proofs.Growing.{over_later}
use Rattle.proc_latch.specs.Limits.{latched}
use Rattle.proc_latch.proofs.Exact.{processes_grow}
use Rattle.proc_latch.proofs.apply_owned.Goals as goal

pub returns-in_err-check_limits-clause-over : goal.returns-in_err-check_limits-clause-over
returns-in_err-check_limits-clause-over c e =
    over_later (building_of c.args.module) (latched c.args.module) (processes_grow c.args.module.processes (building_of c.args.module))
    (search (rules, c.check_limits.ensures.over, e, c.from_residual.ensures))
