use Rattle.pass_laws.proofs.Passes.{IsPass_refl, IsPass_trans}
use Rattle.pass_laws.proofs.laws.passes_in_turn.Goals as goal

pub returns-clause-none : goal.returns-clause-none
returns-clause-none c = IsPass_refl

pub returns-clause-both : goal.returns-clause-both
returns-clause-both c = IsPass_trans
