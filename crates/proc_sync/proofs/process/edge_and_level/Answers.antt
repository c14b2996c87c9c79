use Rattle.std.proofs.Common.{rules, ◌≡◌, ◌∙◌, ap, subst}
use Rattle.rtl_ir.specs.Follow.{all_joins}
use Rattle.net_index.specs.Builder.{PassesLimit}
use Rattle.proc_sync.specs.Rules.{lines_step}
use Rattle.proc_sync.specs.Sources.{joins_in}
use Rattle.proc_sync.specs.declared.rules.Form.TheVariants.{AtLevel, Beside}
use Rattle.proc_sync.proofs.Exact.{both_is, both_over, on_ok}
use Rattle.proc_sync.proofs.process.edge_and_level.Goals as goal

pub returns-in_err-lines_step-clause-over : goal.returns-in_err-lines_step-clause-over
returns-in_err-lines_step-clause-over c e =
    both_over c.args.edge.now c.args.level.now c.args.edges.now c.args.levels.now c.args.builder.now (joins_in c.in_ok-given.given) c.in_ok-given.ensures.value
    (search (rules, c.lines_step.ensures.over, e, c.from_residual-in_err-lines_step.ensures))

pub returns-clause-exact : goal.returns-clause-exact
returns-clause-exact c =
    let first : c.lines_step.new.builder ≡ lines_step (Beside c.args.edge.now c.args.level.now) (all_joins c.args.levels.now) c.args.edges.now c.args.builder.now =
    c.in_ok-lines_step.ensures.exact ∙ ap (λ js. lines_step (Beside c.args.edge.now c.args.level.now) js c.args.edges.now c.args.builder.now) c.in_ok-given.ensures.value in
    on_ok c.lines_step-2.result _ _
    (λ h.
    h
    ∙ ap (λ js. lines_step (AtLevel c.args.level.now) js c.args.levels.now c.lines_step.new.builder) c.in_ok-taken.ensures.value
    ∙ both_is c.args.edge.now c.args.level.now c.args.edges.now c.args.levels.now c.args.builder.now c.lines_step.new.builder first)
    c.lines_step-2.ensures.exact

pub returns-clause-over : goal.returns-clause-over
returns-clause-over c e =
    let first : c.lines_step.new.builder ≡ lines_step (Beside c.args.edge.now c.args.level.now) (all_joins c.args.levels.now) c.args.edges.now c.args.builder.now =
    c.in_ok-lines_step.ensures.exact ∙ ap (λ js. lines_step (Beside c.args.edge.now c.args.level.now) js c.args.edges.now c.args.builder.now) c.in_ok-given.ensures.value in
    subst PassesLimit
    (ap (λ js. lines_step (AtLevel c.args.level.now) js c.args.levels.now c.lines_step.new.builder) c.in_ok-taken.ensures.value
    ∙ both_is c.args.edge.now c.args.level.now c.args.edges.now c.args.levels.now c.args.builder.now c.lines_step.new.builder first)
    (c.lines_step-2.ensures.over e)
