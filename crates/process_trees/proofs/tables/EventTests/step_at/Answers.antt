use Rattle.std.proofs.Common.{◌≡◌, IfOk, sym, subst}
use Rattle.std.specs.Prelude.{option_map}
use Rattle.rtl_ir.specs.EventTests.{step_at}
use Rattle.process_trees.specs.Steps.{step_as}
use Rattle.process_trees.proofs.tables.EventTests.step_at.Goals as goal

pub returns-in-Wire : goal.returns-in-Wire
returns-in-Wire c = record {
  value = λ ports are fit.
      subst (λ p. IfOk c.step_from.result (λ step. option_map step_as step ≡ step_at ports c.args.module.now p)) (sym c.in-Wire.is) (c.step_from.ensures.value ports are fit);
}
