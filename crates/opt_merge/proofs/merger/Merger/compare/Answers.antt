use Rattle.std.proofs.Common.{[], ◌∙◌, ap, length, refl, sym}
use Rattle.rtl_ir.specs.Flat.Start.{start_of}
use Rattle.opt_merge.specs.Late.{late_at}
use Rattle.opt_merge.specs.Rows.{row_of}
use Rattle.opt_merge.specs.Table.{at_row}
use Rattle.opt_merge.specs.Traits.{traits_of}
use Rattle.opt_merge.proofs.Sofar.{get_there}
use Rattle.opt_merge.proofs.Stepping.{state_settled}
use Rattle.opt_merge.proofs.merger.Merger.compare.Goals as goal

pub returns-in_ok-merge-in-Some : goal.returns-in_ok-merge-in-Some
returns-in_ok-merge-in-Some c = record {
  state = λ wires before s d here own is.
      let row = c.in_ok-row.ensures.value wires s.links is.view ∙ ap (λ x. row_of (traits_of (start_of wires []) s.links c.args.kind x)) (c.index-cells-at.is ∙ get_there c.args.cells.now c.args.at d here c.index-cells-at.result) in
      let settled = c.in_ok-settle.ensures.settles in
      let seen = c.row.ensures.keeps wires s.links is.view in
      c.in_ok-merge-in-Some.ensures.state wires before s d here own (ap (at_row c.settle.new.self.table) (sym (c.as_slice.ensures.value ∙ row)) ∙ sym c.in-Some.ensures.value)
      (ap (late_at c.settle.new.self.late) (ap length (sym row) ∙ sym c.in_ok-row.row.ok.0 ∙ sym c.len.ensures) ∙ settled.none)
      (state_settled wires before c.args.cells.now c.args.at s d here c.args.self.now _ is (c.in_ok-settle.ensures.keeps wires s.links seen) (settled.enters wires s.links seen) settled.kinds settled.lengths refl refl refl);
}

pub returns-in_ok-first-in-None : goal.returns-in_ok-first-in-None
returns-in_ok-first-in-None c = record {
  state = λ wires before s d here own is.
      let row = c.in_ok-row.ensures.value wires s.links is.view ∙ ap (λ x. row_of (traits_of (start_of wires []) s.links c.args.kind x)) (c.index-cells-at.is ∙ get_there c.args.cells.now c.args.at d here c.index-cells-at.result) in
      let settled = c.in_ok-settle.ensures.settles in
      let seen = c.row.ensures.keeps wires s.links is.view in
      c.in_ok-first-in-None.ensures.state c.args.cells.now wires before s d here own row (ap (at_row c.settle.new.self.table) (sym c.as_slice.ensures.value) ∙ sym c.in-None.ensures.value)
      (ap (late_at c.settle.new.self.late) (sym c.in_ok-row.row.ok.0 ∙ sym c.len.ensures) ∙ settled.none)
      (state_settled wires before c.args.cells.now c.args.at s d here c.args.self.now _ is (c.in_ok-settle.ensures.keeps wires s.links seen) (settled.enters wires s.links seen) settled.kinds settled.lengths refl refl refl);
}
