use Rattle.std.proofs.Common.{Bool, false, ◌++◌, ◌∷◌, [], ◌∙◌, ap, sym, arith, if◌then◌else◌}
use Rattle.std.proofs.lemmas.List.FromFn.{map-range_with_len_more}
use Rattle.rtl_bits.specs.declared.bit.Bit.TheVariants.{S0, S1}
use Rattle.rtl_ir.specs.Flat.Access.{line_follows}
use Rattle.rtl_ir.proofs.LineMarks.{get_any}
use Rattle.rtl_ir.proofs.line_masks.line_mask.Goals as goal

pub loop-port-preserved : goal.loop-port-preserved
loop-port-preserved c =
    c.in_ok-push.ensures.items
    ∙ (λ i. c.loop-port.invariant i ++ (c.mask_bit.ensures.value ∙ ap (λ (t : Bool). if t then S1 else S0) (c.index.ensures ∙ get_any c.in_ok-marks.marks.items c.loop-port.port c.index.result.now false (omega (arith, c.in_ok-marks.ensures.length)) ∙ c.in_ok-marks.ensures.value c.loop-port.port (omega arith))) i ∷ [])
    ∙ sym (map-range_with_len_more (λ port. if line_follows port c.args.before.now c.args.mask.now then S1 else S0) 0 c.loop-port.port c.loop-port.port (omega arith))
