use Rattle.std.proofs.Common.{refl, sym, ◌∙◌, ap, ◌++◌, ◌∷◌, []}
use Rattle.fsm_find.proofs.Visiting.{learn_new}
use Rattle.fsm_find.proofs.reach.Reach.learn.Goals as goal

pub returns-in_ok-push : goal.returns-in_ok-push
returns-in_ok-push c = record {
  ok = learn_new c.args.self.now _ c.args.signal.now (sym c.is_state_constant.ensures.value ∙ c.if-is_state_constant.true) (c.in_ok-push.ensures.items ∙ ap (λ b. c.args.self.now.known.items ++ b ∷ []) c.in_ok-constants_of.ensures.value) refl refl refl;
}
