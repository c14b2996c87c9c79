use Rattle.proc_laws.proofs.Turns.{IsStep_refl, IsStep_trans}
use Rattle.proc_laws.proofs.laws.steps_in_turn.Goals as goal

pub returns-clause-none : goal.returns-clause-none
returns-clause-none c = IsStep_refl

pub returns-clause-both : goal.returns-clause-both
returns-clause-both c = IsStep_trans
