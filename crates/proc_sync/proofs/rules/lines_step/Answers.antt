use Rattle.std.proofs.Common.{rules}
use Rattle.proc_sync.specs.Rules.{line_step}
use Rattle.proc_sync.specs.Sources.{joins_in}
use Rattle.proc_sync.proofs.Growing.{line_grows}
use Rattle.proc_sync.proofs.Turning.{turn_over}
use Rattle.proc_sync.proofs.rules.lines_step.Goals as goal

pub returns-in_err-line_step-clause-over : goal.returns-in_err-line_step-clause-over
returns-in_err-line_step-clause-over c e =
    turn_over (line_step c.args.form.now (joins_in c.args.sources.now)) c.args.lines.now c.loop-line.line-index c.line-item.result c.loop-line-test.true c.line-item.is
    (line_grows c.args.form.now (joins_in c.args.sources.now)) c.loop-line.builder _ c.loop-line.invariant.all
    (search (rules, c.line_step.ensures.over, e, c.from_residual.ensures))
