-- The part of a signal that was read last, by its bits.
use Rattle.std.specs.Prelude.{ℕ, zero, suc, ◌+◌, ◌-◌, List, [], ◌∷◌}
use Rattle.rtl_sig.specs.declared.sig.SigBit.{SigBit}
use Rattle.rtl_sig.specs.declared.sig.SigBit.TheVariants as bits
use Rattle.rtl_read.specs.declared.part.Piece.{Piece}
use Rattle.rtl_read.specs.declared.part.Piece.TheVariants.{Bits, Range}

-- so many bits of a wire, from a place up
unfoldable pub range_bits : ℕ → ℕ → ℕ → List SigBit
range_bits wire low zero = []
range_bits wire low (suc n) = bits.Wire (record { wire = wire; at = low }) ∷ range_bits wire (low + 1) n

-- the bits of a part
abbrev pub piece_bits : Piece → List SigBit
piece_bits (Bits sig) = sig
piece_bits (Range wire from to) = range_bits wire from (to - from)
