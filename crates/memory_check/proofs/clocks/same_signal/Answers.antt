use Rattle.std.proofs.Common.{◌<◌, arith, length}
use Rattle.rtl_bits.specs.declared.bit.Bit.TheVariants.{S0}
use Rattle.rtl_sig.specs.declared.sig.SigBit.TheVariants.{Fixed}
use Rattle.rtl_ir.specs.Follow.{follow}
use Rattle.memory_check.proofs.Same.{place_agrees, place_differs}
use Rattle.memory_check.proofs.clocks.same_signal.Goals as goal

pub returns-then-not-have_same_end : goal.returns-then-not-have_same_end
returns-then-not-have_same_end c = record {
  value = λ m is.
      let lx : c.loop-at.at < length c.args.one.now = omega arith in
      let ly : c.loop-at.at < length c.args.other.now = omega arith in
      place_differs (follow m.links) c.args.one.now c.args.other.now c.loop-at.at _ (c.loop-at.invariant m is) (Fixed S0) lx ly c.have_same_end.result
      (c.have_same_end.ensures.value m is) c.if-not-have_same_end.true;
}

pub loop-at-preserved : goal.loop-at-preserved
loop-at-preserved c = λ m is.
    let lx : c.loop-at.at < length c.args.one.now = omega arith in
    let ly : c.loop-at.at < length c.args.other.now = omega arith in
    place_agrees (follow m.links) c.args.one.now c.args.other.now c.loop-at.at _ (c.loop-at.invariant m is) (Fixed S0) lx ly c.have_same_end.result
    (c.have_same_end.ensures.value m is) c.if-not-have_same_end.false
