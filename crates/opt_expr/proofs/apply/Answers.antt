use Rattle.std.proofs.Common.{subst}
use Rattle.rtl_ir.specs.declared.module.Module.{Module}
use Rattle.pass_laws.specs.Pass.{IsPass}
use Rattle.opt_expr.proofs.apply.Goals as goal

pub returns-clause-pass : goal.returns-clause-pass
returns-clause-pass c =
    subst (λ (m : Module). IsPass c.args.ports.now m c.in_ok-turn.turn.after) c.in_ok-copy.ensures.value c.in_ok-turn.ensures.pass
