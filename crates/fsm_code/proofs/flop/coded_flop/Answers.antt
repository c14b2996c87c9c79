-- The flip-flop from its parts.
use Rattle.std.proofs.Common.{◌∙◌, ap, map}
use Rattle.net_model.specs.Fsm.Code.{coded}
use Rattle.rtl_ir.specs.Follow.{follow}
use Rattle.fsm_code.specs.Outputs.{coding_of}
use Rattle.fsm_code.specs.Parts.{pins_of}
use Rattle.fsm_code.proofs.Placing.{flop_is}
use Rattle.fsm_code.proofs.flop.coded_flop.Goals as goal

pub returns : goal.returns
returns c = record {
  value = λ ports m is t.
      flop_is m (coding_of c.args.coding.now) c.args.cell c.args.reset.now c.in_ok-next.next c.in_ok-d.d c.from_vec.result c.from_vec-2.result
      (c.in_ok-next.ensures.value ports m is ∙ ap (map (follow m.links)) c.at_pin.ensures.value)
      (c.in_ok-d.ensures.value t ∙ ap (coded (coding_of c.args.coding.now)) c.as_slice.ensures.value)
      (c.from_vec.ensures.value ∙ c.in_ok-params.ensures.value)
      (c.from_vec-2.ensures.value ∙ c.in_ok-pins.ensures.value ∙ (λ i. pins_of c.args.cell c.args.reset.now (c.as_slice-2.ensures.value i) (c.as_slice-3.ensures.value i)));
}
