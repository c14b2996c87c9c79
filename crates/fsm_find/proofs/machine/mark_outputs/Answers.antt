use Rattle.std.proofs.Common.{◌++◌, ◌∙◌, ap, sym, append_assoc, append-nil, drop, get_or, ◌+◌, ◌∷◌, [], refl, subst, drop_of_length-le}
use Rattle.net_model.specs.Fsm.Find.{tree_outputs}
use Rattle.fsm_find.specs.Readers.{AreMarks}
use Rattle.fsm_find.proofs.Placed.{outputs_next}
use Rattle.fsm_find.proofs.machine.mark_outputs.Goals as goal

pub loop-place-init : goal.loop-place-init
loop-place-init c = λ bits are. record { done = bits; all_are = refl; are = are }

pub loop-place-preserved : goal.loop-place-preserved
loop-place-preserved c = λ bits are.
    let inv = c.loop-place.invariant bits are in
    let m = c.args.module.now in
    record {
      done = inv.done ++ tree_outputs m (get_or c.args.places.now c.loop-place.place-index 0 ∷ []);
      all_are =
          append_assoc inv.done (tree_outputs m (get_or c.args.places.now c.loop-place.place-index 0 ∷ [])) (tree_outputs m (drop (c.loop-place.place-index + 1) c.args.places.now))
          ∙ ap (λ ws. inv.done ++ ws) (sym (outputs_next m c.args.places.now c.loop-place.place-index c.loop-place-test.true)) ∙ inv.all_are;
      are = c.in_ok-mark_output.ensures.ok inv.done inv.are;
    }

pub returns : goal.returns
returns c = record {
  ok = λ bits are.
      let inv = c.loop-place.invariant bits are in
      let m = c.args.module.now in
      subst (AreMarks c.loop-place.table)
      (sym (append-nil inv.done) ∙ ap (λ ps. inv.done ++ tree_outputs m ps) (sym (drop_of_length-le c.args.places.now c.loop-place-test.false)) ∙ inv.all_are) inv.are;
}
