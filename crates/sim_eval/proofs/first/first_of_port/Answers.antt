use Rattle.std.proofs.Common.{◌∙◌, ap}
use Rattle.flat_net.specs.declared.net.Output.{Output}
use Rattle.sim_eval.specs.First.{marked, unmarked}
use Rattle.sim_eval.proofs.first.first_of_port.Goals as goal

pub returns : goal.returns
returns c =
    let seen = c.args.seen.now in
    let address = c.in_ok-address.ensures.value ∙ c.as_slice.ensures.value in
    let outputs = c.in_ok-outputs.ensures.value ∙ ap (unmarked (λ (o : Output). o.number) seen) c.as_slice-2.ensures.value in
    record {
      value = λ i. record { address = address i; outputs = outputs i };
      seen = c.in_ok-outputs.ensures.seen ∙ ap (marked (λ (o : Output). o.number) seen) c.as_slice-2.ensures.value;
    }
