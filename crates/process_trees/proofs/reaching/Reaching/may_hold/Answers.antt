use Rattle.std.proofs.Common.{Some, sym, ap, ◌∙◌}
use Rattle.process_trees.specs.declared.summary.Summary.{Summary}
use Rattle.process_trees.specs.Rounds.{leaf_summary}
use Rattle.process_trees.proofs.Settling.{source_is}
use Rattle.process_trees.proofs.Unread.{none_held}
use Rattle.process_trees.proofs.reaching.Reaching.may_hold.Goals as goal

pub returns-then-not-is_read : goal.returns-then-not-is_read
returns-then-not-is_read c = record {
  value = λ root are.
      sym (none_held c.args.self.now root c.args.bits.now are c.args.bit (sym c.if-not-is_read.ensures.value) c.args.source (sym c.if-not-is_bit.ensures.value));
}

pub returns : goal.returns
returns c = record {
  value = λ root are.
      ap (λ (s : Summary). s.asked)
      (c.leaf.ensures.value c.args.bits.now are.numbers
      ∙ ap (λ values. leaf_summary (Some c.args.bit) c.args.bits.now values c.args.source) c.as_slice.ensures.value
      ∙ source_is (Some c.args.bit) c.args.bits.now root c.in_ok-summaries.summaries.items (c.in_ok-summaries.ensures.value root are) c.args.source);
}
