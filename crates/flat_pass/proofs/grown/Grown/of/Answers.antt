use Rattle.std.proofs.Common.{◌∙◌, ap, sym, subst}
use Rattle.net_index.specs.Numbering.{bit_count, widths_of}
use Rattle.rtl_ir.specs.declared.module.Module.{Module}
use Rattle.flat_pass.specs.Counts.{AreNames}
use Rattle.flat_pass.specs.Flat.{first_instance}
use Rattle.flat_pass.proofs.Visiting.{starts}
use Rattle.flat_pass.proofs.grown.Grown.of.Goals as goal

pub returns-clause-value : goal.returns-clause-value
returns-clause-value c =
    starts c.args.module.now c.in_ok-without_cells.field-0 c.in_ok-namer.namer c.from_vec.result.items c.in_ok-without_cells.ensures.value (c.from_vec.ensures.items ∙ c.in_ok-cells.ensures.value ∙ c.as_slice-2.ensures.value) c.in_ok-namer.ensures.value

pub returns-clause-sound : goal.returns-clause-sound
returns-clause-sound c =
    let start = starts c.args.module.now c.in_ok-without_cells.field-0 c.in_ok-namer.namer c.from_vec.result.items c.in_ok-without_cells.ensures.value (c.from_vec.ensures.items ∙ c.in_ok-cells.ensures.value ∙ c.as_slice-2.ensures.value) c.in_ok-namer.ensures.value in
    record {
      names = subst (AreNames c.in_ok-namer.namer) (sym start) c.in_ok-namer.ensures.value;
      bits = c.count_bits-bits.ensures.value ∙ ap (λ ws. bit_count (widths_of ws)) c.as_slice.ensures.value ∙ ap (λ (m : Module). bit_count (widths_of m.wires)) (sym c.in_ok-without_cells.ensures.value);
      library = ap (λ (m : Module). first_instance m.cells) c.in_ok-without_cells.ensures.value;
    }
