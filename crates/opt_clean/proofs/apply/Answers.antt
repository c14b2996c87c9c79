use Rattle.std.proofs.Common.{subst}
use Rattle.rtl_ir.specs.declared.module.Module.{Module}
use Rattle.pass_laws.specs.Pass.{IsPass}
use Rattle.opt_clean.proofs.apply.Goals as goal

pub returns-clause-pass : goal.returns-clause-pass
returns-clause-pass c =
    subst (λ (m : Module). IsPass c.args.ports.now m c.in_ok-cleaned.cleaned.after) c.in_ok-copy.ensures.value c.in_ok-cleaned.ensures.pass
