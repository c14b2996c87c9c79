use Rattle.std.proofs.Common.{◌≡◌, length, subst, sym}
use Rattle.net_model.specs.Value.{value_of}
use Rattle.flat_net.specs.Parts.{held_row}
use Rattle.sim_eval.specs.Moment.{HasBefore, time_of}
use Rattle.sim_eval.specs.Shown.{shown}
use Rattle.sim_eval.proofs.Racing.{held_same}
use Rattle.sim_eval.proofs.held.held.Goals as goal

pub returns-in_ok-holds-in-Step : goal.returns-in_ok-holds-in-Step
returns-in_ok-holds-in-Step c = record {
  value = λ ps board tree within.
      let was : length ps ≡ length c.in-Step.before.now = subst (HasBefore ps) c.in-Step.is board.before in
      subst (λ m. value_of (held_row ps c.args.tree.now c.args.bit.now).driver (time_of ps m) (shown ps c.args.now.now) ≡ c.kept.result) (sym c.in-Step.is)
      (held_same ps c.in-Step.before.now c.in-Step.inputs.now c.args.now.now (record { first = c.in-Step.first; order = c.in-Step.order }) c.args.tree.now c.args.bit.now _ _ _ _ board.apart was board.now within
      (c.in_ok-holds-in-Step.ensures.value ps board.apart board.now within.0 tree within.1) c.bit_at-old.ensures.value c.read-new.ensures.value c.kept.ensures.value);
}
