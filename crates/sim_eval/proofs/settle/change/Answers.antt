use Rattle.std.proofs.Common.{◌≡◌, ◌<◌, ◌∙◌, Some, ap, arith, false, length, refl, subst, sym}
use Rattle.std.specs.Prelude.{slice_get}
use Rattle.std.proofs.lemmas.Bool.{true≢false}
use Rattle.std.proofs.lemmas.List.{length-set}
use Rattle.std.proofs.lemmas.Option.{slice_get-get_or}
use Rattle.flat_net.specs.Parts.{part_rows}
use Rattle.flat_net.specs.Within.{IsPartWithin}
use Rattle.sim_eval.specs.declared.agenda.Agenda.{Agenda}
use Rattle.sim_eval.specs.Advance.{Advances, AreFewer}
use Rattle.sim_eval.specs.Agenda.{IsSettling}
use Rattle.sim_eval.specs.Moment.{time_of}
use Rattle.sim_eval.specs.Reads.{AreRead}
use Rattle.sim_eval.proofs.Bridges.{board_on}
use Rattle.sim_eval.proofs.Stepping.{settling_emptied, settling_still, settling_taken, settling_told}
use Rattle.sim_eval.proofs.Taking.{all_at, fewer_more}
use Rattle.sim_eval.proofs.settle.change.Goals as goal

pub bounds-parts-place : goal.bounds-parts-place
bounds-parts-place c = omega (arith, c.in-Some.ensures.takes.within, c.loop-place.invariant.sized)

pub loop-place-preserved : goal.loop-place-preserved
loop-place-preserved c =
    let parts = c.args.parts.now in
    let place = c.in-Some.place in
    let taken = c.in-Some.ensures.takes in
    let part = c.index-parts-place.result in
    let old = c.loop-place.now in
    let new = c.evaluate.new.now in
    let still = c.in_ok-evaluate.ensures.still c.if-branch.false in
    let lt : place < length parts = omega (arith, taken.within, c.loop-place.invariant.sized) in
    let found : slice_get parts place ≡ Some part = slice_get-get_or parts place part lt ∙ ap (λ z. Some z) (sym c.index-parts-place.is) in
    record {
      sized = ap (λ (a : Agenda). length a.marks.items) still ∙ (ap length taken.marks ∙ (length-set c.loop-place.agenda.marks.items place false ∙ c.loop-place.invariant.sized));
      fewer = fewer_more _ _ _ false false c.loop-place.invariant.fewer (subst (λ z. AreFewer old new z) c.if-branch.false c.in_ok-evaluate.ensures.fewer);
      settling = λ ps board within h.
          let t = time_of ps c.args.moment.now in
          let was = board_on ps c.args.moment.now _ _ board c.loop-place.auto.now in
          let is = board_on ps c.args.moment.now _ _ was c.evaluate.auto.now in
          let inside = subst (IsPartWithin (length ps)) (sym c.index-parts-place.is) (all_at (IsPartWithin (length ps)) parts place part within lt) in
          let adv = subst (λ z. Advances ps t (part_rows ps part) old new z) c.if-branch.false (c.in_ok-evaluate.ensures.advances ps was inside) in
          subst (λ a. IsSettling ps t parts a new) (sym still)
          (settling_still ps c.args.moment.now parts place part old new was is within found c.next.new.self (settling_taken ps t parts c.loop-place.agenda c.next.new.self old place (c.loop-place.invariant.settling ps board within h) taken) adv);
    }

pub returns-then-branch-clause-sized : goal.returns-then-branch-clause-sized
returns-then-branch-clause-sized c =
    let taken = c.in-Some.ensures.takes in
    (c.in_ok-evaluate.ensures.tells c.if-branch.true).same ∙ (ap length taken.marks ∙ (length-set c.loop-place.agenda.marks.items c.in-Some.place false ∙ c.loop-place.invariant.sized))

pub returns-then-branch-clause-settling : goal.returns-then-branch-clause-settling
returns-then-branch-clause-settling c = λ ps board within h.
    let parts = c.args.parts.now in
    let place = c.in-Some.place in
    let taken = c.in-Some.ensures.takes in
    let part = c.index-parts-place.result in
    let old = c.loop-place.now in
    let new = c.evaluate.new.now in
    let lt : place < length parts = omega (arith, taken.within, c.loop-place.invariant.sized) in
    let found : slice_get parts place ≡ Some part = slice_get-get_or parts place part lt ∙ ap (λ z. Some z) (sym c.index-parts-place.is) in
    let t = time_of ps c.args.moment.now in
    let was = board_on ps c.args.moment.now _ _ board c.loop-place.auto.now in
    let is = board_on ps c.args.moment.now _ _ was c.evaluate.auto.now in
    let inside = subst (IsPartWithin (length ps)) (sym c.index-parts-place.is) (all_at (IsPartWithin (length ps)) parts place part within lt) in
    let read = subst (λ n. AreRead c.args.readers.now parts n) (sym c.loop-place.auto.now) c.requires.read in (
      settling_told ps c.args.moment.now parts place part old new was is within found c.args.readers.now c.next.new.self c.evaluate.new.agenda _ read
          (settling_taken ps t parts c.loop-place.agenda c.next.new.self old place (c.loop-place.invariant.settling ps board within h) taken) (c.in_ok-evaluate.ensures.advances ps was inside) (c.in_ok-evaluate.ensures.tells c.if-branch.true),
      λ e. absurd (true≢false e),
    )

pub returns-clause-sized : goal.returns-clause-sized
returns-clause-sized c = ap length (c.in_default.ensures.none refl).marks ∙ c.loop-place.invariant.sized

pub returns-clause-settling : goal.returns-clause-settling
returns-clause-settling c = λ ps board within h.
    let emptied = settling_emptied ps (time_of ps c.args.moment.now) c.args.parts.now c.loop-place.agenda c.next.new.self c.loop-place.now (c.loop-place.invariant.settling ps board within h) (c.in_default.ensures.none refl) in
    (emptied.0, λ e. emptied.1)
