use Rattle.std.proofs.Common.{refl}
use Rattle.opt_merge.proofs.Stepping.{state_stay}
use Rattle.opt_merge.proofs.merger.Merger.stay.Goals as goal

pub returns : goal.returns
returns c = record {
  state = λ cells wires before s d here none is.
      state_stay wires before cells c.args.at s d here c.args.self.now _ is none (record { kept = c.in_ok-push.ensures.items; readers = refl; links = refl }) refl;
}
