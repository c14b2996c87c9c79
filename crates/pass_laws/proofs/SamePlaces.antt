-- Constants, bits and signals that tests find equal are one.
use Rattle.std.proofs.Common.{◌≡◌, true, List}
use Rattle.rtl_bits.specs.declared.bit.Bit.{Bit}
use Rattle.rtl_sig.specs.declared.sig.SigBit.{SigBit}
use Rattle.rtl_ir.specs.Signals.{same_place, same_signal, same_value}
use Rattle.rtl_ir.proofs.SamePlaces as places

pub value_is : (a b : Bit) → same_value a b ≡ true → a ≡ b
value_is a b e = places.value_is a b e

pub place_is : (a b : SigBit) → same_place a b ≡ true → a ≡ b
place_is a b e = places.place_is a b e

pub signal_is : (a b : List SigBit) → same_signal a b ≡ true → a ≡ b
signal_is a b e = places.signal_is a b e
