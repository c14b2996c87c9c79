use Rattle.sim_eval.proofs.Afterwards.{run_more}
use Rattle.sim_eval.proofs.laws.steps_are_runs.Goals as goal

pub returns-clause-one_more : goal.returns-clause-one_more
returns-clause-one_more c = run_more
