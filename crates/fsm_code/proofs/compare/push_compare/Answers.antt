-- A compare in the code, with the bit of the constant.
use Rattle.std.proofs.Common.{◌∙◌, ap}
use Rattle.rtl_bits.specs.Numbers.{number_of}
use Rattle.net_model.specs.Fsm.Code.{is_equal, state_bit}
use Rattle.fsm_code.specs.Links.{linked}
use Rattle.fsm_code.specs.Outputs.{coding_of}
use Rattle.fsm_code.proofs.Placing.{compare_is}
use Rattle.fsm_code.proofs.compare.push_compare.Goals as goal

pub returns : goal.returns
returns c = record {
  ok = λ ports m b is.
      compare_is m (coding_of c.args.coding.now) c.args.cell c.is_equal-equal.result c.state_bit-bit.result (number_of c.in_ok-bits.bits) (linked b c.args.links.now) c.args.cells.now.items (c.place_compare.new.cells.items, linked b c.place_compare.new.links)
      (c.is_equal-equal.ensures.value ∙ ap is_equal c.cell_kind.ensures.value)
      (c.state_bit-bit.ensures.value ∙ (λ i. state_bit c.args.coding.now.states.now (c.as_slice.ensures.value i) (number_of (c.as_slice-2.ensures.value i))))
      (c.in_ok-bits.ensures.value ports m is)
      (c.in_ok-place_compare.ensures.ok m (coding_of c.args.coding.now) b);
}
