use Rattle.std.proofs.Common.{◌∙◌, arith, sym}
use Rattle.rtl_bits.specs.Tables.{and_of}
use Rattle.sim_eval.proofs.TreeLoops.{pattern_here, pattern_none}
use Rattle.sim_eval.proofs.matching.pattern_match.Goals as goal

pub loop-at-init : goal.loop-at-init
loop-at-init c = sym (pattern_none c.args.values.now c.args.signal.now c.args.pattern.now _ (omega arith))

pub loop-at-preserved : goal.loop-at-preserved
loop-at-preserved c =
    c.bit_and-all.ensures.value ∙ (λ i. and_of (c.place_match.ensures.value i) (c.loop-at.invariant i))
    ∙ pattern_here c.args.values.now c.args.signal.now c.args.pattern.now c.loop-at.at _ _ c.loop-at-test.true (omega (arith, c.loop-at.auto.at, c.min-at.ensures)) (omega (arith, c.loop-at.auto.at, c.min-at.ensures))
