use Rattle.std.proofs.Common.{◌-◌, arith}
use Rattle.rtl_bits.specs.declared.bit.Bit.TheVariants.{S0}
use Rattle.net_index.proofs.NewParams.{char_small, char_step}
use Rattle.net_index.proofs.builder_params.char_of.Goals as goal

pub overflow_mul-number : goal.overflow_mul-number
overflow_mul-number c =
    omega (arith, c.loop-at.invariant, char_step c.args.bits.now c.loop-at.at S0 c.loop-at-test.true c.loop-at.auto.at, char_small c.args.bits.now (c.loop-at.at - 1) c.requires.few)
