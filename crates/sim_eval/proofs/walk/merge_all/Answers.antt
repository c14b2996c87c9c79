use Rattle.std.proofs.Common.{◌<◌, ◌∙◌, arith, length, refl}
use Rattle.rtl_bits.specs.declared.bit.Bit.TheVariants.{S0}
use Rattle.rtl_bits.specs.Tables.{merge_of}
use Rattle.sim_eval.proofs.TreeLoops.{any_bit, merge_end, merge_next}
use Rattle.sim_eval.proofs.walk.merge_all.Goals as goal

pub loop-at-preserved : goal.loop-at-preserved
loop-at-preserved c =
    let lt : c.loop-at.at < length c.loop-at.bits = omega arith in
    merge_next c.loop-at.at c.args.bits.now c.args.others.now c.loop-at.bits _ c.merge.result lt c.loop-at.invariant
    (c.merge.ensures.value ∙ (λ i. merge_of (c.bit_in.ensures.value i) (any_bit c.loop-at.bits c.loop-at.at S0 lt i))) refl

pub returns : goal.returns
returns c = record { value = merge_end c.loop-at.at c.args.bits.now c.args.others.now c.loop-at.bits (omega arith) c.loop-at.invariant }
