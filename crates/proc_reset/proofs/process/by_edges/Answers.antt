use Rattle.std.proofs.Common.{sym, ◌∙◌}
use Rattle.proc_reset.proofs.Choosing.{first_chosen, second_chosen}
use Rattle.proc_reset.proofs.process.by_edges.Goals as goal

pub returns-then-tested : goal.returns-then-tested
returns-then-tested c = record {
  value = λ ports is.
      first_chosen c.with_level.result _ _ _ (sym (c.in_ok-tested.ensures.value ports is.tests is.fit) ∙ c.if-tested.true) (c.with_level.ensures.value ports is);
}

pub returns-else-tested : goal.returns-else-tested
returns-else-tested c = record {
  value = λ ports is.
      second_chosen c.with_level-else-tested.result _ _ _ (sym (c.in_ok-tested.ensures.value ports is.tests is.fit) ∙ c.if-tested.false) (c.with_level-else-tested.ensures.value ports is);
}
