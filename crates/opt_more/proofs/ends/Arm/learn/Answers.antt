use Rattle.std.proofs.Common.{◌≡◌, ◌+◌, ◌-◌, ◌<◌, ℕ, length, arith, sym, ◌∙◌, subst}
use Rattle.std.specs.Prelude.{slice_index_or}
use Rattle.std.specs.Arc.{arc_value}
use Rattle.opt_more.specs.Ends.{IsKnown}
use Rattle.opt_more.proofs.Knowing.{one_more}
use Rattle.opt_more.proofs.ends.Arm.learn.Goals as goal

pub loop-back-preserved : goal.loop-back-preserved
loop-back-preserved c = record {
  name = c.put.ensures.name ∙ c.loop-back.invariant.name;
  ends = λ cells slots links ends room each.
      let place : ℕ = slice_index_or c.args.passed.now (length c.args.passed.now - 1 - c.loop-back.back) 0 in
      let within : c.loop-back.back < length c.args.passed.now = c.loop-back-test.true in
      let lt : c.args.steps + c.loop-back.back < length slots = omega (arith, room, within) in
      let same : arc_value c.in_ok-word.word ≡ arc_value c.args.word.now = c.in_ok-word.ensures in
      one_more c.loop-back.self c.put.new.self place (record { word = c.in_ok-word.word; steps = c.args.steps + c.loop-back.back }) cells slots links c.put.ensures.name c.in_ok-put.ensures.ends
      (subst (λ z. IsKnown z cells slots links place (c.args.steps + c.loop-back.back) (arc_value c.in_ok-word.word)) (sym c.loop-back.invariant.name)
      (subst (λ z. IsKnown c.args.self.now.name cells slots links place (c.args.steps + c.loop-back.back) z) (sym same) (each c.loop-back.back within)))
      lt (c.loop-back.invariant.ends cells slots links ends room each);
}
