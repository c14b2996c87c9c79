use Rattle.std.proofs.Common.{◌∙◌, ap, map, sym}
use Rattle.std.specs.Prelude.{◌&&◌}
use Rattle.std.proofs.lemmas.List.Folds.{list_all-map}
use Rattle.rtl_bits.specs.Knowledge.{all_known, is_known}
use Rattle.rtl_ir.specs.Signals.{constant_of}
use Rattle.fsm_parts.proofs.signals.is_state_constant.Goals as goal

pub returns-then-is_all_constant : goal.returns-then-is_all_constant
returns-then-is_all_constant c = record {
  value =
      c.are_known.ensures.value
      ∙ sym (list_all-map is_known constant_of c.args.signal.now)
      ∙ sym (ap (λ t. t && all_known (map constant_of c.args.signal.now)) (sym c.is_all_constant.ensures.value ∙ c.if-is_all_constant.true));
}
