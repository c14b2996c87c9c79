use Rattle.sim_eval.proofs.Bridges.{advances_given}
use Rattle.sim_eval.proofs.settle.update_given.Goals as goal

pub returns-clause-advances : goal.returns-clause-advances
returns-clause-advances c = λ ps board within.
    advances_given ps c.args.moment.now c.args.output _ _ _ _ board within c.given.ensures.value c.put.ensures.value c.put.ensures.gains
