use Rattle.std.proofs.Common.{rules}
use Rattle.proc_sync.specs.Rules.{run_cell}
use Rattle.proc_sync.specs.Runs.{run_of}
use Rattle.proc_sync.specs.Sources.{joins_in}
use Rattle.proc_sync.proofs.Growing.{run_grows}
use Rattle.proc_sync.proofs.Turning.{mapped_over}
use Rattle.proc_sync.proofs.rules.line_step.Goals as goal

pub returns-in_err-run_cell-clause-over : goal.returns-in_err-run_cell-clause-over
returns-in_err-run_cell-clause-over c e =
    mapped_over (run_cell c.args.form.now (joins_in c.args.sources.now)) run_of c.as_slice-run-items.result.now c.loop-run.run-index c.run-item.result c.loop-run-test.true c.run-item.is
    (run_grows c.args.form.now (joins_in c.args.sources.now)) c.loop-run.builder _ c.loop-run.invariant.all
    (search (rules, c.run_cell.ensures.over, e, c.from_residual-in_err-run_cell.ensures))
