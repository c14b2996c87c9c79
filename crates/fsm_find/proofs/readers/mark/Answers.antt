use Rattle.std.proofs.Common.{◌++◌, ◌∙◌, ap, sym, append_assoc, drop, ◌+◌, ◌∷◌, []}
use Rattle.rtl_ir.specs.Signals.{wire_bits}
use Rattle.fsm_find.proofs.Marking.{bits_next}
use Rattle.fsm_find.proofs.readers.mark.Goals as goal

pub loop-at-preserved : goal.loop-at-preserved
loop-at-preserved c = λ bits are.
    let inv = c.loop-at.invariant bits are in
    let bit = c.bit_of-bit.result in
    record {
      done = inv.done ++ wire_bits (bit ∷ []);
      all_are = append_assoc inv.done (wire_bits (bit ∷ [])) (wire_bits (drop (c.loop-at.at + 1) c.args.signal.now)) ∙ ap (λ ws. inv.done ++ ws) (sym (bits_next c.args.signal.now c.loop-at.at bit c.loop-at-test.true c.bit_of-bit.ensures.value)) ∙ inv.all_are;
      are = c.in_ok-mark_bit.ensures.ok inv.done inv.are;
    }
