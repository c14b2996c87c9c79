use Rattle.std.proofs.Common.{◌++◌, map, sym, ◌∙◌, ap, arith, append-nil}
use Rattle.std.proofs.Math.ListN.{drop_of_length-le}
use Rattle.rtl_ir.specs.Follow.{follow}
use Rattle.net_model.specs.Fsm.Find.{parts_of}
use Rattle.fsm_parts.proofs.Parts.{no_parts, part_more}
use Rattle.fsm_parts.proofs.forks.push_parts.Goals as goal

pub returns-then-from-signal : goal.returns-then-from-signal
returns-then-from-signal c = record {
  ok = λ ports m is.
      let none = no_parts _ c.args.width in
      sym (ap (λ ps. c.loop-part.arms.items ++ map (map (follow m.links)) ps) (ap (parts_of _ c.args.width) (drop_of_length-le c.args.signal.now c.if-from-signal.true) ∙ none) ∙ append-nil c.loop-part.arms.items)
      ∙ c.loop-part.invariant.parts ports m is;
}

pub loop-part-preserved : goal.loop-part-preserved
loop-part-preserved c = record {
  within = let k = c.min.ensures in omega (arith, k, c.loop-part.invariant.within);
  parts = λ ports m is.
      part_more (map (follow m.links)) c.args.signal.now c.loop-part.from c.loop-part._part c.args.width c.min.result c.loop-part.arms.items c.push.new.self.items _ c.in_ok-followed.field-0 c.if-from-signal.false c.loop-part-test.true c.min.ensures (c.in_ok-followed.ensures.value ports m is) c.in_ok-push.ensures.items (c.loop-part.invariant.parts ports m is);
}
