use Rattle.std.proofs.Common.{◌∙◌, ap, map}
use Rattle.rtl_ir.specs.Follow.{follow}
use Rattle.fsm_find.proofs.Comparing.{compared_is}
use Rattle.fsm_find.proofs.readers.compares_state.Goals as goal

pub returns : goal.returns
returns c = record {
  value = λ ports m view.
      compared_is m c.args.view.now.state c.as_slice.result.now c.as_slice-2.result.now c.as_slice-3.result.now c.args.cell.now c.in_ok-signed.signed c.is_compared-yes.result c.as_slice.ensures.value
      (c.as_slice-2.ensures.value ∙ c.in_ok-a.ensures.value ports m view.index ∙ ap (map (follow m.links)) c.at_pin.ensures.value)
      (c.as_slice-3.ensures.value ∙ c.in_ok-b.ensures.value ports m view.index ∙ ap (map (follow m.links)) c.at_pin-2.ensures.value)
      c.in_ok-signed.ensures.value c.is_compared-yes.ensures.value;
}
