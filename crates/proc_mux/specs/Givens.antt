-- What a run has before the assigns of a tree.
use Rattle.std.specs.Prelude.{List, map}
use Rattle.rtl_bits.specs.declared.bit.Bit.TheVariants.{X}
use Rattle.rtl_sig.specs.declared.sig.SigBit.{SigBit}
use Rattle.rtl_sig.specs.declared.sig.SigBit.TheVariants.{Fixed}
use Rattle.rtl_sig.specs.declared.sig.WireBit.{WireBit}

-- as many unknown constants as a run has bits
abbrev pub unknowns : List WireBit → List SigBit
unknowns run = map (λ b. Fixed X) run
