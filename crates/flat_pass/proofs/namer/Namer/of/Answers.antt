use Rattle.std.proofs.Common.{◌∙◌, arith, ap, map}
use Rattle.rtl_ir.specs.declared.cell.Cell.{Cell}
use Rattle.rtl_ir.specs.declared.process.Process.{Process}
use Rattle.rtl_ir.specs.declared.store.Store.{Store}
use Rattle.rtl_ir.specs.declared.wire.Wire.{Wire}
use Rattle.flat_pass.specs.ByName.{names_now}
use Rattle.flat_pass.specs.Counts.{count_of}
use Rattle.flat_pass.proofs.Counting.{all_counted}
use Rattle.flat_pass.proofs.namer.Namer.of.Goals as goal

pub returns : goal.returns
returns c = record {
  value = record {
    counts = λ r.
        all_counted c.args.module.now r (count_of c.make-counts.result r) (count_of c.add_all.new.self r) (count_of c.add_all-2.new.self r) (count_of c.add_all-3.new.self r) (count_of c.add_all-4.new.self r) (names_now c.as_slice-2.result.now) (names_now c.as_slice-4.result.now) (names_now c.as_slice-6.result.now) (names_now c.as_slice-8.result.now)
        (c.make-counts.ensures.none r)
        (c.in_ok-add_all.ensures.ok r)
        (ap names_now c.as_slice-2.ensures.value ∙ c.in_ok-wire_names.ensures.value ∙ ap (map (λ (w : Wire). w.name)) c.as_slice.ensures.value)
        (c.in_ok-add_all-2.ensures.ok r)
        (ap names_now c.as_slice-4.ensures.value ∙ c.in_ok-store_names.ensures.value ∙ ap (map (λ (s : Store). s.name)) c.as_slice-3.ensures.value)
        (c.in_ok-add_all-3.ensures.ok r)
        (ap names_now c.as_slice-6.ensures.value ∙ c.in_ok-cell_names.ensures.value ∙ ap (map (λ (k : Cell). k.name)) c.as_slice-5.ensures.value)
        (c.in_ok-add_all-4.ensures.ok r)
        (ap names_now c.as_slice-8.ensures.value ∙ c.in_ok-process_names.ensures.value ∙ ap (map (λ (p : Process). p.name)) c.as_slice-7.ensures.value);
    next = c.first_number-next.ensures.value;
    small = omega (arith, c.first_number-next.ensures.value, c.first_number-next.ensures.small);
  };
}
