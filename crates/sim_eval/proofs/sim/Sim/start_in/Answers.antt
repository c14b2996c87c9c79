use Rattle.sim_eval.proofs.Computable.{faultless_shapes}
use Rattle.sim_eval.proofs.Kept.{at_in, module_at}
use Rattle.sim_eval.proofs.sim.Sim.start_in.Goals as goal

pub returns : goal.returns
returns c = record {
  settled = λ m e.
      let net = c.in_ok-net.ensures.value m e in
      c.of.ensures.settled c.args.design.now m net.0 net.1;
}

pub of-requires : goal.of-requires
of-requires c =
    let d = c.args.design.now in
    let found = module_at d.modules c.args.at c.requires.in_range in
    let net = c.in_ok-net.ensures.value found.0 found.1 in
    record {
      shaped = record {
        design = d;
        body = found.0;
        bits = net.0;
        shapes = faultless_shapes d c.requires.faultless;
        among = at_in d.modules c.args.at found.0 found.1;
        is = net.1;
      };
    }
