use Rattle.std.proofs.Common.{◌∙◌}
use Rattle.proc_reset.proofs.process.with_level.Goals as goal

pub by_leaves-requires : goal.by_leaves-requires
by_leaves-requires c = record { bits = c.as_slice-tree.ensures.value ∙ c.in_ok-bits.ensures.value }

pub returns : goal.returns
returns c = record {
  value = λ ports is.
      c.by_leaves.ensures.value ports c.in_ok-active.active is (c.in_ok-active.ensures.value ports is) c.in_ok-leaves.ensures.value;
}
