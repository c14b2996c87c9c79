use Rattle.std.proofs.Common.{◌∙◌, ap, sym, cond, ◌++◌, ◌∷◌, []}
use Rattle.fsm_find.specs.Order.{is_done}
use Rattle.fsm_find.proofs.Comparing.{places_more}
use Rattle.fsm_find.proofs.readers.marked_places.Goals as goal

pub loop-at-preserved : goal.loop-at-preserved
loop-at-preserved c = c.in_ok-push_marked.ensures.ok ∙ ap (λ ps. ps ++ cond (is_done c.args.marks.now c.loop-at.at) (c.loop-at.at ∷ []) []) c.loop-at.invariant ∙ sym (places_more (is_done c.args.marks.now) c.loop-at.at)
