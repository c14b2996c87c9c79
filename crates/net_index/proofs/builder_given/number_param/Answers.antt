use Rattle.std.proofs.Common.{◌∙◌, ap}
use Rattle.rtl_bits.specs.Numbers.{bits_of}
use Rattle.net_index.proofs.GivenParams.{number_written}
use Rattle.net_index.proofs.builder_given.number_param.Goals as goal

pub returns : goal.returns
returns c = record {
  value = number_written c.args.name c.args.number c.in_ok-from_slice.field-0 c.in_ok-from_number.field-0 c.requires.small c.requires.number
      (c.in_ok-from_slice.ensures.value ∙ c.text.ensures.value) (c.in_ok-from_number.ensures.value ∙ ap (λ n. bits_of n 32) c.from.ensures);
}
