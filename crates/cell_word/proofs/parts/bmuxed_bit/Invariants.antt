use Rattle.std.proofs.Common.{◌≡◌, ◌+◌, ◌*◌, slice_index_or}
use Rattle.rtl_bits.specs.declared.bit.Bit.TheVariants.{X}
use Rattle.cell_word.specs.Parts.{may_be, merge_where}
use Rattle.cell_word.proofs.parts.bmuxed_bit.Given as goal

-- what the parts so far have in common
abbrev pub invariant-loop-part : goal.invariant-loop-part
invariant-loop-part l =
    l.common ≡ merge_where (may_be l.s) (λ part. slice_index_or l.a (part * l.width + l.at) X) l.part
