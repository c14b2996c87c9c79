use Rattle.std.proofs.Common.{◌≡◌, ◌+◌, ◌-◌, length, sym, ◌∙◌, arith, subst}
use Rattle.process_trees.specs.Leaves.{rows_summaries}
use Rattle.process_trees.specs.Rounds.{AreAfter, leaf_summary}
use Rattle.process_trees.proofs.Equals.{equal_lists}
use Rattle.process_trees.proofs.Settling.{first_are, next_are, stays}
use Rattle.process_trees.proofs.reaching.Reaching.settled.Goals as goal

pub loop-round-init : goal.loop-round-init
loop-round-init c = λ root are.
    subst (AreAfter c.args.asked root c.args.bits.now 0) (sym c.in_ok-summaries.ensures.value) (first_are c.args.asked c.args.bits.now root)

pub loop-round-preserved : goal.loop-round-preserved
loop-round-preserved c = λ root are.
    next_are c.args.asked c.args.bits.now root c.args.self.now are c.loop-round._round c.loop-round.summaries.items (c.loop-round.invariant root are) c.in_ok-next.next.items
    (c.in_ok-next.ensures.value c.args.bits.now are.numbers
    ∙ (λ i. rows_summaries (leaf_summary c.args.asked c.args.bits.now (c.as_slice.ensures.value i)) (c.as_slice-in-loop-round.ensures.value i)))

pub returns-then-eq : goal.returns-then-eq
returns-then-eq c = record {
  value = λ root are.
      let same : c.in_ok-next.next.items ≡ c.loop-round.summaries.items = equal_lists c.in_ok-next.next.items c.loop-round.summaries.items (sym c.eq.ensures ∙ c.if-eq.true) in
      let again =
      sym same ∙ c.in_ok-next.ensures.value c.args.bits.now are.numbers
      ∙ (λ i. rows_summaries (leaf_summary c.args.asked c.args.bits.now (c.as_slice.ensures.value i)) (c.as_slice-in-loop-round.ensures.value i)) in
      let more : length c.args.bits.now ≡ (length c.args.bits.now - c.loop-round._round) + c.loop-round._round = grind (arith, c.loop-round-test.true) in
      stays c.args.asked c.args.bits.now root c.args.self.now are c.loop-round._round c.loop-round.summaries.items (c.loop-round.invariant root are) again
      (length c.args.bits.now) (length c.args.bits.now - c.loop-round._round) more;
}

pub returns : goal.returns
returns c = record {
  value = λ root are.
      let all : c.loop-round._round ≡ length c.args.bits.now = grind (arith, c.loop-round-test.false, c.loop-round.auto._round-end) in
      subst (λ n. AreAfter c.args.asked root c.args.bits.now n c.loop-round.summaries.items) all (c.loop-round.invariant root are);
}
