use Rattle.std.proofs.Common.{◌+◌, ◌<◌, ◌≤◌, drop, length, ap, ◌∙◌, arith}
use Rattle.process_trees.specs.Leaves.{joined, joined_over}
use Rattle.process_trees.specs.Rounds.{leaf_summary}
use Rattle.process_trees.proofs.Together.{together_end, together_next}
use Rattle.process_trees.proofs.round.Round.together.Goals as goal

pub loop-at-preserved : goal.loop-at-preserved
loop-at-preserved c = λ bits are.
    let f = leaf_summary c.args.self.now.asked bits c.args.self.now.summaries.now in
    let inside : c.loop-at.at < length c.args.sources.now = grind (arith, c.loop-at-test.true) in
    ap (λ v. joined_over f v (drop (c.loop-at.at + 1) c.args.sources.now)) (c.joined-value.ensures.value ∙ ap (joined c.loop-at.value) (c.leaf-in-loop-at.ensures.value bits are))
    ∙ together_next f c.args.sources.now c.loop-at.at _ inside c.loop-at.value _ (c.loop-at.invariant bits are)

pub returns : goal.returns
returns c = record {
  value = λ bits are.
      let past : length c.args.sources.now ≤ c.loop-at.at = grind (arith, c.loop-at-test.false) in
      together_end (leaf_summary c.args.self.now.asked bits c.args.self.now.summaries.now) c.args.sources.now c.loop-at.at past c.loop-at.value _ (c.loop-at.invariant bits are);
}
