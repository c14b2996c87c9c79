use Rattle.std.proofs.Common.{◌≡◌, IfOk, cond, not, subst}
use Rattle.rtl_ir.specs.EventTests.{switch_test}
use Rattle.process_trees.specs.Levels.{open_case}
use Rattle.proc_reset.proofs.process.level_root.Goals as goal

pub returns : goal.returns
returns c = record {
  value = λ ports active is leaves.
      subst (λ t. IfOk c.root_after.result (λ made. made ≡ cond t (open_case (switch_test ports c.args.setting.now.outer.now.«module».now c.args.reset.bit) (not c.args.reset.level) c.args.setting.now.process.now.root) c.args.setting.now.process.now.root))
      (c.in_ok-free.ensures.value ports c.args.setting.now.outer.now.«module».now active is.reads leaves) (c.root_after.ensures.value ports is);
}
