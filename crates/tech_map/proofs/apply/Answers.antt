use Rattle.std.proofs.Common.{subst}
use Rattle.std.specs.Prelude.{IfOk}
use Rattle.net_model.specs.Within.{Each}
use Rattle.pass_laws.specs.Pass.{IsPass, StaysDriven}
use Rattle.pass_laws.specs.Replaces.{IsOutside}
use Rattle.tech_map.specs.Gates.{HasGatesAlone}
use Rattle.tech_map.proofs.apply.Goals as goal

pub returns-clause-pass : goal.returns-clause-pass
returns-clause-pass c = subst (λ m. IfOk c.apply_owned.result (IsPass c.args.ports.now m)) c.in_ok-copy.ensures.value c.apply_owned.ensures.pass

pub returns-clause-driven : goal.returns-clause-driven
returns-clause-driven c = subst (λ m. IfOk c.apply_owned.result (StaysDriven m)) c.in_ok-copy.ensures.value c.apply_owned.ensures.driven

pub returns-clause-gates : goal.returns-clause-gates
returns-clause-gates c =
    subst (λ m. IfOk c.apply_owned.result (λ after. Each IsOutside m.cells → HasGatesAlone after)) c.in_ok-copy.ensures.value c.apply_owned.ensures.gates
