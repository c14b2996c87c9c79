use Rattle.std.proofs.Common.{Vec, Global, ap, ◌∙◌}
use Rattle.rtl_sig.specs.declared.sig.SigBit.{SigBit}
use Rattle.process_trees.specs.Leaves.{sources_summary}
use Rattle.process_trees.specs.Rounds.{leaf_summary}
use Rattle.process_trees.proofs.Leveling.{made_next}
use Rattle.process_trees.proofs.round.Round.next.Goals as goal

pub loop-row-preserved : goal.loop-row-preserved
loop-row-preserved c = λ bits are.
    let f = leaf_summary c.args.self.now.asked bits c.args.self.now.summaries.now in
    made_next (λ (v : Vec SigBit Global). sources_summary f v.items) c.args.rows.now c.loop-row.row-index c.row-item.result c.loop-row-test.true c.row-item.is c.loop-row.next.items c.push.new.self.items
    c.together.result c.in_ok-push.ensures.items (c.together.ensures.value bits are ∙ ap (sources_summary f) c.as_slice.ensures.value) (c.loop-row.invariant bits are)
