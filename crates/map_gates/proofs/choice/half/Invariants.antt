use Rattle.std.proofs.Common.{◌≡◌, map, slice_index_or}
use Rattle.std.specs.List.{range_with_len}
use Rattle.rtl_bits.specs.declared.bit.Bit.TheVariants.{X}
use Rattle.rtl_sig.specs.declared.sig.SigBit.TheVariants.{Fixed}
use Rattle.map_gates.specs.Choice.{place_of}
use Rattle.map_gates.proofs.choice.half.Given as goal

-- the bits so far
abbrev pub invariant-loop-at : goal.invariant-loop-at
invariant-loop-at l = l.half ≡ map (λ at. slice_index_or l.word (place_of l.odd l.width at) (Fixed X)) (range_with_len 0 l.at)
