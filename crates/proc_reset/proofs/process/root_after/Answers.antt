use Rattle.std.proofs.Common.{not}
use Rattle.rtl_ir.specs.EventTests.{switch_test}
use Rattle.process_trees.specs.Levels.{open_case}
use Rattle.proc_reset.proofs.Choosing.{first_chosen, second_chosen}
use Rattle.proc_reset.proofs.process.root_after.Goals as goal

pub returns-then-free : goal.returns-then-free
returns-then-free c = record { value = λ ports is. first_chosen c.root_at.result c.args.free _ c.args.root.now c.if-free.true (c.root_at.ensures.value ports is) }

pub returns-else-free : goal.returns-else-free
returns-else-free c = record {
  value = λ ports is.
      second_chosen c.copy.result c.args.free (open_case (switch_test ports c.args.outer.now.«module».now c.args.reset.bit) (not c.args.reset.level) c.args.root.now) c.args.root.now c.if-free.false c.copy.ensures.value;
}
