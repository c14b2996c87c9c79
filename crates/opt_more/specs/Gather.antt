-- Lists in which each bit stands once, with tables of their bits.
use Rattle.std.specs.Prelude.{◌≡◌, ◌<◌, ◌⊎◌, List, length}
use Rattle.std.specs.HashSet.{contains}
use Rattle.std.specs.List.{list_any}
use Rattle.rtl_bits.specs.declared.bit.Bit.{Bit}
use Rattle.rtl_sig.specs.declared.sig.SigBit.{SigBit}
use Rattle.rtl_sig.specs.declared.sig.SigBit.TheVariants as sig
use Rattle.rtl_sig.specs.declared.sig.WireBit.{WireBit}
use Rattle.rtl_ir.specs.Signals.{same_bit, same_place, same_value}
use Rattle.opt_more.specs.declared.gather.Gathered.{Gathered}

-- the tables have the bits of the list: those of wires, and the constants
pub record AreSeen (g : Gathered) : Type 0 where
  pub wires : (b : WireBit) → contains same_bit g.wires b ≡ list_any (same_place (sig.Wire b)) g.bits
  pub constants : (c : Bit) → list_any (same_value c) g.constants.items ≡ list_any (same_place (sig.Fixed c)) g.bits

-- two lists are one, or both have more bits than a fold may read
abbrev pub AreAlike : List SigBit → List SigBit → Type 0
AreAlike xs ys = (xs ≡ ys) ⊎ ((4096 < length xs) × (4096 < length ys))
