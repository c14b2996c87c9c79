use Rattle.std.proofs.Common.{◌∙◌, ap, refl, sym, take}
use Rattle.rtl_ir.specs.declared.store.Store.{Store}
use Rattle.mem_steps.proofs.FirstCells.{left_of}
use Rattle.mem_steps.proofs.staying_first.Goals as goal

pub returns : goal.returns
returns c = record {
  value = λ s there.
      left_of c.args.module.now c.index-as_slice-0.result s c.as_slice.result.now c.as_slice-name.result.now c.as_slice-cells.result.now (take c.min-first.result c.as_slice-cells.result.now) c.min-first.result c.args.count c.staying.result
      c.as_slice.ensures.value c.index-as_slice-0.is (c.as_slice-name.ensures.value ∙ ap (λ (y : Store). y.name) (sym c.index-as_slice-0.is)) c.as_slice-cells.ensures.value c.min-first.ensures refl c.staying.ensures.value there;
}
