use Rattle.process_check.proofs.Updating.{rule_next}
use Rattle.process_check.proofs.updates.updated_bits.Goals as goal

pub loop-rule-preserved : goal.loop-rule-preserved
loop-rule-preserved c = record {
  counts = c.in_ok-put_rule.ensures.counts c.loop-rule.invariant.counts;
  all = λ b.
      rule_next c.args.rules.now c.loop-rule.rule-index c.rule-item.result c.loop-rule-test.true c.rule-item.is c.loop-rule.given.items c.put_rule.new.given.items
      (c.in_ok-put_rule.ensures.raised c.loop-rule.invariant.counts) b _ (c.loop-rule.invariant.all b);
}
