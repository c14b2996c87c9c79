use Rattle.std.proofs.Common.{◌≡◌, length, ◌∙◌, ap}
use Rattle.std.specs.Prelude.{codes}
use Rattle.rtl_ir.specs.Build.{new_cell}
use Rattle.rtl_ir.specs.Constants.{value_bits}
use Rattle.rtl_ir.specs.Flat.Access.{line_mask, write_trigger}
use Rattle.rtl_ir.specs.Flat.Process.{Trigger}
use Rattle.net_index.specs.Builder.{new_params}
use Rattle.net_model.specs.Proc.Sync.{ports_in}
use Rattle.proc_sync.specs.Lines.{numbers_of}
use Rattle.proc_sync.specs.Writes.{write_params, write_pins}
use Rattle.proc_sync.proofs.writes.write_cell.Goals as goal

pub returns-clause-exact : goal.returns-clause-exact
returns-clause-exact c =
    let mask : c.as_slice.result.now ≡ line_mask c.args.number (ports_in c.args.line.now.memory (numbers_of c.args.rule.now)) (value_bits c.args.line.now.mask) = c.as_slice.ensures.value ∙ c.in_ok-mask.ensures.value in
    let params : new_params c.as_slice-2.result.now ≡ write_params c.args.line.now.memory (length c.args.line.now.address) (length c.args.line.now.value) (write_trigger c.args.event.now).level c.args.number (line_mask c.args.number (ports_in c.args.line.now.memory (numbers_of c.args.rule.now)) (value_bits c.args.line.now.mask)) =
    ap new_params c.as_slice-2.ensures.value
    ∙ c.in_ok-params.ensures.value
    ∙ (λ i. write_params c.args.line.now.memory (length c.args.line.now.address) (length c.args.line.now.value) (c.write_trigger-control.ensures.value i).level c.args.number (mask i)) in
    let pins : c.as_slice-3.result.now ≡ write_pins (write_trigger c.args.event.now).signal c.args.line.now.enable c.args.line.now.address c.args.line.now.value =
    c.as_slice-3.ensures.value
    ∙ c.in_ok-pins.ensures.value
    ∙ ap (λ (t : Trigger). write_pins t.signal c.args.line.now.enable c.args.line.now.address c.args.line.now.value) c.write_trigger-control.ensures.value in
    c.in_ok-add_cell.ensures.exact ∙ (λ i. new_cell (codes "$memwr_v2") (params i) (pins i) c.args.builder.now)
