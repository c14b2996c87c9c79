use Rattle.std.proofs.Common.{◌++◌, ◌∷◌, [], cond, ◌∙◌, ap}
use Rattle.fsm_find.proofs.machine.push_comparing.Goals as goal

pub returns : goal.returns
returns c = record {
  ok = λ ports m view. c.in_ok-push_if.ensures.ok ∙ ap (λ t. c.args.places.now ++ cond t (c.args.at ∷ []) []) (c.in_ok-yes.ensures.value ports m view);
}
