use Rattle.std.proofs.Common.{◌∙◌}
use Rattle.net_index.proofs.GivenParams.{chars_written}
use Rattle.net_index.proofs.builder_given.memory_param.Goals as goal

pub returns : goal.returns
returns c = record {
  value = chars_written c.args.memory.now c.in_ok-from_slice.field-0 c.in_ok-char_bits.field-0 (λ k l. (c.type_inv.memory k).fits)
      (c.in_ok-from_slice.ensures.value ∙ c.text.ensures.value) c.in_ok-char_bits.ensures.value;
}
