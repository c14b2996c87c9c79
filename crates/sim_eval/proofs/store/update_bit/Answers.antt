use Rattle.sim_eval.proofs.Bridges.{advances_kept}
use Rattle.sim_eval.proofs.store.update_bit.Goals as goal

pub returns-clause-advances : goal.returns-clause-advances
returns-clause-advances c = λ ps board within.
    advances_kept ps c.args.moment.now c.args.shape.now c.args.bit.now _ _ _ _ board within c.kept-value.ensures.value c.put.ensures.value c.put.ensures.gains
