use Rattle.std.proofs.Common.{◌≡◌, ◌+◌, ◌-◌, ◌≤◌, length, arith, sym, ◌∙◌, subst}
use Rattle.std.specs.Prelude.{slice_index_or}
use Rattle.std.specs.Arc.{arc_value}
use Rattle.std.proofs.lemmas.Result.{on_ok_weaker}
use Rattle.opt_more.specs.Ends.{IsKnown}
use Rattle.opt_more.proofs.ends.Arm.learn_word.Goals as goal

pub returns-clause-ends : goal.returns-clause-ends
returns-clause-ends c =
    on_ok_weaker c.learn.result
    (λ learned cells slots links ends room each.
    let same : arc_value c.in_ok-shared.shared ≡ c.args.word.now = c.in_ok-shared.ensures.ok ∙ c.in_ok-from_slice.ensures.value in
    let few : 0 + length c.args.passed.now ≤ length slots = omega (arith, room) in
    learned cells slots links ends few
    (λ back lt.
    let none : 0 + back ≡ back = omega arith in
    subst (λ z. IsKnown c.args.self.now.name cells slots links (slice_index_or c.args.passed.now (length c.args.passed.now - 1 - back) 0) z (arc_value c.in_ok-shared.shared)) (sym none)
    (subst (λ z. IsKnown c.args.self.now.name cells slots links (slice_index_or c.args.passed.now (length c.args.passed.now - 1 - back) 0) back z) (sym same) (each back lt))))
    c.learn.ensures.ends
