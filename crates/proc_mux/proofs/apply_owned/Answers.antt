use Rattle.std.proofs.Common.{rules}
use Rattle.rtl_ir.specs.Build.{building_of}
use Rattle.proc_mux.specs.Limits.{muxed}
use Rattle.proc_mux.proofs.Exact.{processes_grow}
use Rattle.match_cells.proofs.Growing.{over_later}
use Rattle.proc_mux.proofs.apply_owned.Goals as goal

pub returns-in_err-check_limits-clause-over : goal.returns-in_err-check_limits-clause-over
returns-in_err-check_limits-clause-over c e =
    over_later (building_of c.args.module) (muxed c.args.module) (processes_grow (building_of c.args.module) c.args.module.processes)
    (search (rules, c.check_limits.ensures.over, e, c.from_residual.ensures))
