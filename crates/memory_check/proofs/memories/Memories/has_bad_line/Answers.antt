use Rattle.std.proofs.Common.{◌++◌, ◌<◌, ◌≤◌, ◌∙◌, ap, get_or, length, subst, sym, take, take_all, flat_map}
use Rattle.memory_check.specs.Memories.{KnowsLines, rule_lines}
use Rattle.memory_check.proofs.Behind.{bad_here, good_here, taken}
use Rattle.memory_check.proofs.memories.Memories.has_bad_line.Goals as goal

pub loop-rule-preserved : goal.loop-rule-preserved
loop-rule-preserved c = λ m before knows.
    let i = c.loop-rule.rule-index in
    let rules = c.args.process.now.syncs in
    let x = c.rule-item.result in
    let are = c.as_slice-rule-items.ensures.value in
    let lt = subst (λ rs. i < length rs) are c.loop-rule-test.true in
    let is = c.rule-item.is ∙ ap (λ rs. get_or rs i x) are in
    let so = c.loop-rule.invariant m before knows in
    let behind = before ++ flat_map rule_lines (take i rules) in
    let good = sym (c.in_ok-has_bad_in.ensures.bad m behind so.0) ∙ c.if-branch.false in (
      subst (KnowsLines c.has_bad_in.new.self m) (sym (taken rule_lines m before rules i x lt is)) (c.in_ok-has_bad_in.ensures.noted c.if-branch.false m behind so.0),
      good_here rule_lines m before rules i x lt is _ so.1 good,
    )

pub returns-then-branch-clause-bad : goal.returns-then-branch-clause-bad
returns-then-branch-clause-bad c = λ m before knows.
    let i = c.loop-rule.rule-index in
    let rules = c.args.process.now.syncs in
    let x = c.rule-item.result in
    let are = c.as_slice-rule-items.ensures.value in
    let lt = subst (λ rs. i < length rs) are c.loop-rule-test.true in
    let is = c.rule-item.is ∙ ap (λ rs. get_or rs i x) are in
    let so = c.loop-rule.invariant m before knows in
    let behind = before ++ flat_map rule_lines (take i rules) in
    bad_here rule_lines m before rules i x lt is _ so.1 (sym (c.in_ok-has_bad_in.ensures.bad m behind so.0) ∙ c.if-branch.true)

pub returns-clause-noted : goal.returns-clause-noted
returns-clause-noted c = λ good m before knows.
    let i = c.loop-rule.rule-index in
    let past = subst (λ rs. length rs ≤ i) c.as_slice-rule-items.ensures.value c.loop-rule-test.false in
    subst (λ rs. KnowsLines c.loop-rule.self m (before ++ flat_map rule_lines rs)) (take_all i c.args.process.now.syncs past) (c.loop-rule.invariant m before knows).0
