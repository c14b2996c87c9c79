use Rattle.std.proofs.Common.{◌∙◌, ◌++◌, ◌∷◌, [], sym}
use Rattle.sim_eval.proofs.Afterwards.{not_first}
use Rattle.sim_eval.proofs.Simulating.{outputs_at}
use Rattle.sim_eval.proofs.sim.Sim.step.Goals as goal

pub returns-clause-settled : goal.returns-clause-settled
returns-clause-settled c = λ order d m stimulus sim. (
  sim.0,
  record {
    apart = sim.1.apart;
    within = sim.1.within;
    counting = sim.1.counting;
    outputs = sim.1.outputs;
    outputs_within = sim.1.outputs_within;
    values = c.in_ok-now.ensures.settled order d m stimulus sim.0 sim.1;
    started = sym (not_first order d m stimulus c.args.inputs.now);
    ordered = sim.1.ordered;
  },
)

pub returns-clause-outputs : goal.returns-clause-outputs
returns-clause-outputs c = λ order d m stimulus sim.
    c.in_ok-outputs.ensures.value
    ∙ outputs_at order d m (stimulus ++ c.args.inputs.now ∷ []) sim.0 _ _ _ _ sim.1.apart sim.1.outputs sim.1.outputs_within (c.in_ok-now.ensures.settled order d m stimulus sim.0 sim.1) c.as_slice.ensures.value c.as_slice-2.ensures.value
