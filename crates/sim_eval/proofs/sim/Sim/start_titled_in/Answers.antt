use Rattle.std.proofs.Common.{◌<◌, length, sym, subst}
use Rattle.std.proofs.lemmas.List.{length-map}
use Rattle.flat_net.specs.Titled.{titled_design, titled_module}
use Rattle.sim_eval.proofs.Kept.{at_in, module_at}
use Rattle.sim_eval.proofs.sim.Sim.start_titled_in.Goals as goal

pub returns : goal.returns
returns c = record {
  settled = λ m e.
      let net = c.in_ok-net.ensures.value m e in
      c.of.ensures.settled (titled_design c.args.modules.now) m net.0 net.1;
}

pub of-requires : goal.of-requires
of-requires c =
    let d = titled_design c.args.modules.now in
    let within : c.args.at < length d.modules = subst (λ n. c.args.at < n) (sym (length-map c.args.modules.now titled_module)) c.requires.in_range in
    let found = module_at d.modules c.args.at within in
    let net = c.in_ok-net.ensures.value found.0 found.1 in
    record {
      shaped = record {
        design = d;
        body = found.0;
        bits = net.0;
        shapes = c.requires.shapes;
        among = at_in d.modules c.args.at found.0 found.1;
        is = net.1;
      };
    }
