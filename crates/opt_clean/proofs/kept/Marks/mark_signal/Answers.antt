use Rattle.std.proofs.Common.{arith, ◌+◌, [], ◌∷◌, drop, get_or}
use Rattle.std.proofs.lemmas.Grind.{common_steps}
use Rattle.std.proofs.lemmas.List.{get_or_default}
use Rattle.rtl_bits.specs.declared.bit.Bit.TheVariants.{S0}
use Rattle.rtl_sig.specs.declared.sig.SigBit.{SigBit}
use Rattle.rtl_sig.specs.declared.sig.SigBit.TheVariants.{Fixed}
use Rattle.rtl_ir.specs.Signals.{wire_bits}
use Rattle.opt_clean.specs.Linked.{cell_places}
use Rattle.opt_clean.specs.Marking.{mark_places, marking_of}
use Rattle.opt_clean.proofs.Steps.{bits_next}
use Rattle.opt_clean.proofs.MarkSteps.{mark_step}
use Rattle.opt_clean.proofs.kept.Marks.mark_signal.Goals as goal

pub loop-bit-preserved : goal.loop-bit-preserved
loop-bit-preserved c = λ ports m is.
    let signal = c.args.signal.now in
    let i = c.loop-bit.bit-index in
    let bit : SigBit = get_or signal i (Fixed S0) in
    mark_step ports m (marking_of c.loop-bit.self) (marking_of c.mark_driver.new.self) (mark_places (marking_of c.args.self.now) (cell_places ports m (wire_bits signal)))
    (wire_bits (bit ∷ [])) (wire_bits (drop (i + 1) signal)) (wire_bits (drop i signal))
    (bits_next signal i bit c.loop-bit-test.true (get_or_default signal i (Fixed S0) bit c.loop-bit-test.true))
    (c.in_ok-mark_driver.ensures.value ports m is) (c.loop-bit.invariant ports m is)

pub returns : goal.returns
returns c = record { value = λ ports m is. grind (arith, common_steps, c.loop-bit.invariant ports m is) }
