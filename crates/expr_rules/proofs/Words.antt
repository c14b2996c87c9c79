-- Words made place by place.
use Rattle.std.proofs.Common.{◌≡◌, ℕ, ◌+◌, List, [], ◌∷◌, ◌++◌, arith}
use Rattle.std.specs.Prelude.{slice_index_or}
use Rattle.std.proofs.lemmas.List.FromFn.{map-range_with_len_more}
use Rattle.rtl_bits.specs.declared.bit.Bit.TheVariants.{X}
use Rattle.rtl_sig.specs.declared.sig.SigBit.{SigBit}
use Rattle.rtl_sig.specs.declared.sig.SigBit.TheVariants.{Fixed}
use Rattle.expr_rules.specs.Signals.{part_of}

-- a part of one more place
pub part_more : (word : List SigBit) (offset n : ℕ) → part_of word offset (n + 1) ≡ part_of word offset n ++ slice_index_or word (offset + n) (Fixed X) ∷ []
part_more word offset n = map-range_with_len_more (λ at. slice_index_or word (offset + at) (Fixed X)) 0 n n (omega arith)
