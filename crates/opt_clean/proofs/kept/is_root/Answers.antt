use Rattle.std.proofs.Common.{◌∙◌, ap, subst, sym}
use Rattle.std.specs.List.{list_any}
use Rattle.rtl_ir.specs.Flat.Cell.{cell_kind}
use Rattle.rtl_ir.specs.Types.{cell_type}
use Rattle.net_index.specs.Types.{IsType}
use Rattle.pass_laws.specs.Bits.{pin_bits}
use Rattle.opt_clean.specs.Keep.{is_shown_bit, output_bits, stays_by}
use Rattle.rtl_ir.specs.Attributes.{is_kept}
use Rattle.opt_clean.specs.Marking.{is_seen}
use Rattle.opt_clean.proofs.MarkSteps.{root_last, seen_shown}
use Rattle.opt_clean.proofs.kept.is_root.Goals as goal

pub returns : goal.returns
returns c = record {
  value = λ ports wires are shown.
      let type = cell_type ports c.args.cell.now.kind_name in
      let is : IsType c.find-cell_type.result type = subst (λ name. IsType c.find-cell_type.result (cell_type ports name)) c.as_slice-2.ensures.value (c.find-cell_type.ensures.value ports are) in
      let drives = c.drives_shown.ensures.value type is ∙ ap (λ pins. list_any (is_seen c.args.shown.now) (pin_bits type pins)) c.as_slice-3.ensures.value ∙ seen_shown wires c.args.shown.now (output_bits ports c.args.cell.now) shown in
      let keep = sym c.if-branch.false ∙ c.in_ok-is_kept.ensures.value ∙ ap is_kept c.as_slice.ensures.value in
      root_last (stays_by (cell_kind c.args.cell.now)) (is_kept c.args.cell.now.attributes) (list_any (is_shown_bit wires) (output_bits ports c.args.cell.now)) c.drives_shown.result c.if-stays.ensures.value keep drives;
}
