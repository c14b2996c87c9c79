use Rattle.sim_eval.proofs.Racing.{edge_same}
use Rattle.sim_eval.proofs.raced.edge_at.Goals as goal

pub returns : goal.returns
returns c = record {
  value = λ ps apart before now within.
      let e = edge_same ps c.args.before.now c.args.now.now c.args.first c.args.point c.args.level apart before now within in
      cc;
}
