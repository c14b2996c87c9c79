use Rattle.std.proofs.Common.{◌+◌, ◌∙◌, ap, sym, map, drop}
use Rattle.std.specs.Prelude.{◌||◌}
use Rattle.std.proofs.Math.ListN.{drop_of_length-le}
use Rattle.rtl_ir.specs.Follow.{follow}
use Rattle.rtl_ir.specs.Signals.{wire_bits}
use Rattle.net_model.specs.Fsm.Find.{meets_any}
use Rattle.fsm_find.proofs.Marking.{meets_step}
use Rattle.fsm_find.proofs.readers.meets.Goals as goal

pub returns-then-is_marked : goal.returns-then-is_marked
returns-then-is_marked c = record {
  value = λ ports m bits view are.
      let step = meets_step (follow m.links) c.args.signal.now c.loop-at.at c.bit_of-bit.result c.follow.result c.is_marked.result c.loop-at-test.true c.bit_of-bit.ensures.value bits (c.follow.ensures.value ports m view.index) (c.is_marked.ensures.value bits are) in
      sym (c.loop-at.invariant ports m bits view are ∙ step ∙ ap (λ t. t || meets_any (wire_bits (map (follow m.links) (drop (c.loop-at.at + 1) c.args.signal.now))) bits) c.if-is_marked.true);
}

pub loop-at-preserved : goal.loop-at-preserved
loop-at-preserved c = λ ports m bits view are.
    let step = meets_step (follow m.links) c.args.signal.now c.loop-at.at c.bit_of-bit.result c.follow.result c.is_marked.result c.loop-at-test.true c.bit_of-bit.ensures.value bits (c.follow.ensures.value ports m view.index) (c.is_marked.ensures.value bits are) in
    c.loop-at.invariant ports m bits view are ∙ step ∙ ap (λ t. t || meets_any (wire_bits (map (follow m.links) (drop (c.loop-at.at + 1) c.args.signal.now))) bits) c.if-is_marked.false

pub returns : goal.returns
returns c = record {
  value = λ ports m bits view are. sym (c.loop-at.invariant ports m bits view are ∙ ap (λ d. meets_any (wire_bits (map (follow m.links) d)) bits) (drop_of_length-le c.args.signal.now c.loop-at-test.false));
}
