use Rattle.std.proofs.Common.{◌-◌, ◌<◌, ◌∙◌, ap, arith, length, sym}
use Rattle.rtl_bits.specs.declared.bit.Bit.TheVariants.{S0}
use Rattle.rtl_bits.specs.Knowledge.{is_known}
use Rattle.rtl_sig.specs.declared.sig.SigBit.TheVariants.{Fixed}
use Rattle.memory_check.proofs.Starting.{neither, unknown_at}
use Rattle.memory_check.proofs.starts.constant_number.Goals as goal

pub returns-in_default : goal.returns-in_default
returns-in_default c = record {
  value =
      let lt : c.loop-at.at - 1 < length c.args.signal.now = omega arith in
      unknown_at c.args.signal.now (c.loop-at.at - 1) (Fixed S0) lt (ap is_known (sym c.constant_of.ensures.value) ∙ neither c.constant_of.result c.in_default.not-S0 c.in_default.not-S1);
}
