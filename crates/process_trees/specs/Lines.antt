-- What a place of a line names.
use Rattle.std.specs.Prelude.{Bool, false}
use Rattle.rtl_sig.specs.declared.sig.SigBit.{SigBit}
use Rattle.rtl_sig.specs.declared.sig.SigBit.TheVariants.{Fixed, Wire as OnWire}
use Rattle.rtl_sig.specs.declared.sig.WireBit.{WireBit}
use Rattle.rtl_ir.specs.Signals.{same_bit}

-- a place of a left side is the bit
abbrev pub is_bit : SigBit → WireBit → Bool
is_bit (Fixed c) b = false
is_bit (OnWire a) b = same_bit a b
