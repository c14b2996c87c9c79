-- The cell of the tree from its parts.
use Rattle.std.proofs.Common.{◌∙◌, ap, List, length}
use Rattle.std.specs.Prelude.{drop, flat_map, slice_get}
use Rattle.rtl_sig.specs.declared.sig.SigBit.{SigBit}
use Rattle.net_model.specs.Fsm.Code.{fork_params, or_nothing, output_code}
use Rattle.fsm_code.specs.Outputs.{coding_of, outputs_of}
use Rattle.fsm_code.specs.Parts.{fork_pins}
use Rattle.fsm_code.proofs.Placing.{fork_is}
use Rattle.fsm_code.proofs.fork.coded_fork.Goals as goal

pub returns : goal.returns
returns c = record {
  value = λ ports m is t.
      fork_is m (coding_of c.args.coding.now) c.args.cell c.in_ok-arms.arms.items c.in_ok-a.a c.in_ok-b.b c.in_ok-y.y c.from_vec.result c.from_vec-2.result
      (c.in_ok-arms.ensures.value ports m is t)
      (c.in_ok-a.ensures.value ∙ ap (λ z. or_nothing (slice_get z 0)) c.as_slice.ensures.value)
      (c.in_ok-b.ensures.value ∙ ap (λ z. flat_map (λ (s : List SigBit). s) (drop 1 z)) c.as_slice-2.ensures.value)
      (c.in_ok-y.ensures.value t ∙ ap (λ z. or_nothing (output_code (outputs_of c.args.coding.now.outputs) z)) c.at_pin.ensures.value)
      (c.from_vec.ensures.value ∙ c.in_ok-params.ensures.value ∙ (λ i. fork_params (c.cell_kind.ensures.value i) (length c.args.coding.now.states.now) (length (c.at_pin-s.ensures.value i))))
      (c.from_vec-2.ensures.value ∙ c.in_ok-pins.ensures.value ∙ (λ i. fork_pins (c.as_slice-3.ensures.value i) (c.as_slice-4.ensures.value i) (c.at_pin-s.ensures.value i) (c.as_slice-5.ensures.value i)));
}
