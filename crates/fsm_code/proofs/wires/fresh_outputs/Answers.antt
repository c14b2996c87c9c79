-- Past a limit with one wire, so with all.
use Rattle.std.proofs.Common.{rules, sym, ◌∙◌, ap}
use Rattle.fsm_code.specs.Outputs.{fresh_by, outputs_of}
use Rattle.fsm_code.proofs.Freshening.{after, output_over}
use Rattle.fsm_code.proofs.wires.fresh_outputs.Goals as goal

pub returns-in_err-after-clause-over : goal.returns-in_err-after-clause-over
returns-in_err-after-clause-over c e =
    output_over c.args.width c.in-Some.before c.next.new.self.rest.items c.loop-before.builder (outputs_of c.loop-before.outputs) (fresh_by c.args.width c.args.old.items c.args.builder.now)
    (ap (λ items. after (outputs_of c.loop-before.outputs) (fresh_by c.args.width items c.loop-before.builder)) (sym c.in-Some.ensures.steps.0) ∙ c.loop-before.invariant.all)
    (search (rules, c.output_wire.ensures.over, e, c.from_residual.ensures))
