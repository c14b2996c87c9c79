use Rattle.std.proofs.Common.{◌≡◌, IfOk, None, sym, ◌∙◌, ap, subst}
use Rattle.std.specs.Prelude.{if◌then◌else◌}
use Rattle.rtl_ir.specs.EventTests.{test_of}
use Rattle.process_trees.proofs.tables.EventTests.place_test.Goals as goal

pub returns-then-have_constants : goal.returns-then-have_constants
returns-then-have_constants c = record {
  value = λ ports are fit.
      let test = test_of ports c.args.module.now c.args.event c.args.place in
      subst (λ z. IfOk c.test_of.result (λ t. t ≡ z)) (ap (λ b. if b then test else None) (sym c.if-have_constants.true ∙ c.have_constants.ensures.value)) (c.test_of.ensures.value ports are fit);
}
