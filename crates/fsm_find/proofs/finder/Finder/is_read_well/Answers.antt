use Rattle.std.proofs.Common.{List, [], ◌++◌, ◌∙◌, ap, sym, subst}
use Rattle.std.specs.Prelude.{◌&&◌}
use Rattle.rtl_sig.specs.declared.sig.SigBit.{SigBit}
use Rattle.rtl_ir.specs.Signals.{wire_bits}
use Rattle.net_model.specs.Fsm.Find.{cells_read_well, ports_read_well, tree_outputs}
use Rattle.fsm_find.specs.Readers.{AreMarks}
use Rattle.fsm_find.proofs.finder.Finder.is_read_well.Goals as goal

pub returns-then-not-branch : goal.returns-then-not-branch
returns-then-not-branch c = record {
  value = λ ports is view are.
      let m = c.args.self.now.body.now in
      let s = c.args.view.now.state in
      let muxes = c.args.muxes.now in
      let bits = tree_outputs m muxes in
      let state = subst (λ (sig : List SigBit). AreMarks c.mark.new.table (wire_bits sig)) c.as_slice.ensures.value (c.in_ok-mark.ensures.ok [] c.in_ok-state.ensures.none) in
      let outputs = c.in_ok-mark_outputs.ensures.ok [] c.in_ok-outputs.ensures.none in
      let cells = ap (λ cs. cells_read_well ports m muxes c.args.places.now.flop s bits 0 cs) (sym c.as_slice-cells.ensures.value) ∙ sym (c.in_ok-cells_read_well.ensures.value ports m muxes bits view is.types are outputs state) in
      sym (ap (λ t. t && ports_read_well m (wire_bits s ++ bits) 0 m.wires) (cells ∙ c.if-not-branch.true));
}

pub returns : goal.returns
returns c = record {
  value = λ ports is view are.
      let m = c.args.self.now.body.now in
      let s = c.args.view.now.state in
      let muxes = c.args.muxes.now in
      let bits = tree_outputs m muxes in
      let state = subst (λ (sig : List SigBit). AreMarks c.mark.new.table (wire_bits sig)) c.as_slice.ensures.value (c.in_ok-mark.ensures.ok [] c.in_ok-state.ensures.none) in
      let outputs = c.in_ok-mark_outputs.ensures.ok [] c.in_ok-outputs.ensures.none in
      let cells = ap (λ cs. cells_read_well ports m muxes c.args.places.now.flop s bits 0 cs) (sym c.as_slice-cells.ensures.value) ∙ sym (c.in_ok-cells_read_well.ensures.value ports m muxes bits view is.types are outputs state) in
      c.in_ok-well.ensures.value ports m (wire_bits s ++ bits) view (c.in_ok-mark_outputs-2.ensures.ok (wire_bits s) state)
      ∙ ap (λ ws. ports_read_well m (wire_bits s ++ bits) 0 ws) c.as_slice-wires.ensures.value
      ∙ sym (ap (λ t. t && ports_read_well m (wire_bits s ++ bits) 0 m.wires) (cells ∙ c.if-not-branch.false));
}
