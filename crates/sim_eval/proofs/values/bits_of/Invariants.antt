-- The bits so far.
use Rattle.std.proofs.Common.{◌≡◌, map, take, slice_index_or}
use Rattle.rtl_bits.specs.declared.bit.Bit.TheVariants.{X}
use Rattle.sim_eval.proofs.values.bits_of.Given as goal

abbrev pub invariant-loop-number : goal.invariant-loop-number
invariant-loop-number l = l.bits ≡ map (λ number. slice_index_or l.values number X) (take l.number-index l.numbers)
