use Rattle.std.proofs.Common.{sym, subst}
use Rattle.opt_more.specs.Gather.{AreAlike}
use Rattle.opt_more.specs.Reduce.{gathered, standing_for}
use Rattle.opt_more.proofs.Stopping.{alike_left, alike_or, alike_through}
use Rattle.opt_more.proofs.folds.gathered.Goals as goal

pub loop-bit-preserved : goal.loop-bit-preserved
loop-bit-preserved c = record {
  bits = λ cells links places aliases.
      alike_through c.args.neutral (standing_for c.args.neutral cells c.args.others.now.done.now c.args.others.now.rest.now.items links) c.args.inputs.now c.loop-bit.bit-index _ c.loop-bit.bits.bits c.add_standing.new.bits.bits _ c.loop-bit-test.true
      (c.in_ok-add_standing.ensures.bits cells links places (c.loop-bit.invariant.keeps links aliases))
      (c.loop-bit.invariant.bits cells links places aliases);
  seen = c.in_ok-add_standing.ensures.seen;
  keeps = λ links aliases. c.add_standing.ensures.keeps links (c.loop-bit.invariant.keeps links aliases);
}

pub returns-clause-value : goal.returns-clause-value
returns-clause-value c = λ cells links places aliases.
    subst (λ z. AreAlike z (gathered c.args.neutral cells c.args.others.now.done.now c.args.others.now.rest.now.items links c.args.inputs.now)) (sym c.in_ok-all.ensures.value)
    (alike_or c.args.neutral c.loop-bit.bits.bits _
    (alike_left c.args.neutral (standing_for c.args.neutral cells c.args.others.now.done.now c.args.others.now.rest.now.items links) c.args.inputs.now c.loop-bit.bit-index c.loop-bit.bits.bits _ c.loop-bit-test.false (c.loop-bit.invariant.bits cells links places aliases)))
