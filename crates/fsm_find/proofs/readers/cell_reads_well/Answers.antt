use Rattle.std.proofs.Common.{◌∙◌}
use Rattle.std.specs.Prelude.{◌&&◌, ◌||◌}
use Rattle.rtl_ir.specs.Signals.{wire_bits}
use Rattle.fsm_find.proofs.readers.cell_reads_well.Goals as goal

pub returns : goal.returns
returns c = record {
  value = λ ports m places bits view types are outputs state.
      let o = c.reads_well-outputs_well.ensures.value ports m places bits view types are outputs in
      let s = c.reads_well-state_well.ensures.value ports m places (wire_bits c.args.readers.now.view.now.state) view types are state in
      let k = c.in_ok-compared.ensures.value ports m view in
      c.are_well.ensures.value ∙ (λ i. o i && (k i || s i));
}
