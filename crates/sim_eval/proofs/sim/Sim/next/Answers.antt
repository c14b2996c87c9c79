use Rattle.std.proofs.Common.{◌≡◌, ◌∙◌, ap, length, subst, sym}
use Rattle.flat_net.specs.Within.{ArePartsWithin}
use Rattle.sim_eval.proofs.Simulating.{if_ok_two, next_at}
use Rattle.sim_eval.proofs.Taking.{if_ok_more}
use Rattle.sim_eval.proofs.sim.Sim.next.Goals as goal

pub returns : goal.returns
returns c = record {
  settled = λ order d m stimulus ps at.
      let before = c.as_slice-before.result.now in
      let parts = c.as_slice-2.result.now in
      let was : before ≡ c.args.self.now.values.items = c.as_slice-before.ensures.value in
      let same : parts ≡ c.args.self.now.parts = c.as_slice-2.ensures.value in
      let count : length ps ≡ length before = at.values.count ∙ ap length (sym was) in
      if_ok_two c.settle.result _ _ _ (λ now long least.
      next_at order d m stimulus ps c.args.self.now before c.as_slice.result.now c.args.inputs.now now.items parts at was c.as_slice.ensures.value same long
      (least ps at.apart count count (subst (ArePartsWithin (length ps)) (sym same) at.within)))
      c.settle.ensures.count c.settle.ensures.least;
  count = if_ok_more c.settle.result _ _ (λ now e. e ∙ ap length c.as_slice-before.ensures.value) c.settle.ensures.count;
}
