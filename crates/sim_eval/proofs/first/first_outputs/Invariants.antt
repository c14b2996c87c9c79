-- What is kept so far and what is left give all.
use Rattle.std.proofs.Common.{◌≡◌, ◌++◌, drop}
use Rattle.flat_net.specs.declared.net.Output.{Output}
use Rattle.sim_eval.specs.First.{marked, unmarked}
use Rattle.sim_eval.proofs.first.first_outputs.Given as goal

abbrev pub invariant-loop-output : goal.invariant-loop-output
invariant-loop-output l = record {
  kept : l.kept ++ unmarked (λ (x : Output). x.number) l.seen (drop l.output-index l.outputs) ≡ unmarked (λ (x : Output). x.number) l.fn.seen l.outputs;
  seen : marked (λ (x : Output). x.number) l.seen (drop l.output-index l.outputs) ≡ marked (λ (x : Output). x.number) l.fn.seen l.outputs;
}
