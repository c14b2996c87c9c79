use Rattle.sim_eval.specs.Moment.{time_of}
use Rattle.sim_eval.proofs.Bridges.{board_on}
use Rattle.sim_eval.proofs.Stepping.{settling_least}
use Rattle.sim_eval.proofs.settle.settle_all.Goals as goal

pub returns : goal.returns
returns c = record {
  least = λ ps board within h.
      let k = c.in_ok-change.ensures.settling ps (board_on ps c.args.moment.now _ _ board c.loop.auto.now) within (c.loop.invariant.settling ps board within h) in
      settling_least ps (time_of ps c.args.moment.now) c.args.parts.now c.change.new.agenda c.change.new.now k.0 (k.1 c.if-branch.false);
}
