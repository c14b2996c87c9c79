use Rattle.std.proofs.Common.{◌≡◌, subst}
use Rattle.std.specs.Prelude.{IfOk}
use Rattle.rtl_ir.specs.declared.module.Module.{Module}
use Rattle.pass_laws.specs.Pass.{IsPass}
use Rattle.opt_merge.specs.Merge.{merge_of}
use Rattle.opt_merge.proofs.apply.Goals as goal

pub returns-clause-exact : goal.returns-clause-exact
returns-clause-exact c =
    subst (λ (m : Module). IfOk c.apply_owned.result (λ after. after ≡ merge_of m)) c.in_ok-copy.ensures.value c.apply_owned.ensures.exact

pub returns-clause-pass : goal.returns-clause-pass
returns-clause-pass c =
    subst (λ (m : Module). IfOk c.apply_owned.result (IsPass c.args.ports.now m)) c.in_ok-copy.ensures.value c.apply_owned.ensures.pass
