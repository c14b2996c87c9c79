use Rattle.rtl_ir.specs.Decisions.{expanded, leaves_of}
use Rattle.rtl_ir.specs.Faults.TwoEdges.{are_all, are_one_constant}
use Rattle.process_check.proofs.Settled.{settled_constant, settled_itself, settled_neither}
use Rattle.process_check.proofs.values.is_settled.Goals as goal

pub returns-then-is_one_constant : goal.returns-then-is_one_constant
returns-then-is_one_constant c = record {
  value = λ root bits are.
      let leaves = leaves_of (expanded root bits c.args.source) in
      settled_constant (are_one_constant leaves) _ c.is_one_constant.result c.if-is_one_constant.true
      (c.is_one_constant.ensures.value _ leaves (c.of_source-summary.ensures.value root bits are));
}

pub returns-then-itself : goal.returns-then-itself
returns-then-itself c = record {
  value = λ root bits are.
      let d = expanded root bits c.args.source in
      settled_itself (are_one_constant (leaves_of d)) (are_all c.args.bit (leaves_of d)) c.args.itself c.is_one_constant.result c.are_all.result c.if-is_one_constant.false
      (c.is_one_constant.ensures.value _ (leaves_of d) (c.of_source-summary.ensures.value root bits are)) c.if-itself.true
      (c.are_all.ensures.value _ d (c.of_source-summary.ensures.value root bits are));
}

pub returns-else-itself : goal.returns-else-itself
returns-else-itself c = record {
  value = λ root bits are.
      let leaves = leaves_of (expanded root bits c.args.source) in
      settled_neither (are_one_constant leaves) (are_all c.args.bit leaves) c.args.itself c.is_one_constant.result c.if-is_one_constant.false
      (c.is_one_constant.ensures.value _ leaves (c.of_source-summary.ensures.value root bits are)) c.if-itself.false;
}
