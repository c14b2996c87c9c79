use Rattle.std.proofs.Common.{◌≡◌, ◌-◌, ◌<◌, ◌∙◌, ap, arith, false, length, replicate, subst, true}
use Rattle.std.proofs.lemmas.List.{length-replicate}
use Rattle.sim_eval.proofs.Marking.{behind_last, no_mark, all_marked, mark_within}
use Rattle.sim_eval.proofs.agenda.Agenda.whole.Goals as goal

pub loop-place-preserved : goal.loop-place-preserved
loop-place-preserved c = λ at l m.
    behind_last c.loop-place.places.items c.push.new.self.items (c.loop-place.place - 1) at c.in_ok-push.ensures.items (λ k. c.loop-place.invariant at (omega (arith, k)) m) l

pub returns : goal.returns
returns c =
    let marks : c.in_ok-vec.field-0.items ≡ replicate c.args.parts true = c.in_ok-vec.ensures.items_if_clones_equal (λ y e. e) in
    let told : c.in_ok-vec-2.field-0.items ≡ replicate c.args.bits false = c.in_ok-vec-2.ensures.items_if_clones_equal (λ y e. e) in
    record {
      whole = record {
        marks = ap length marks ∙ length-replicate c.args.parts true;
        told = ap length told ∙ length-replicate c.args.bits false;
        all = λ at l. all_marked c.in_ok-vec.field-0.items c.args.parts at marks l;
        none = λ n. no_mark c.in_ok-vec-2.field-0.items c.args.bits n told;
        listed = λ at e.
            let l : at < c.args.parts = subst (λ z. at < z) (ap length marks ∙ length-replicate c.args.parts true) (mark_within c.in_ok-vec.field-0.items at e) in
            c.loop-place.invariant at (omega arith) l;
      };
    }
