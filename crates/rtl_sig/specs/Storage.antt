-- Where a signal keeps its bits.
use Rattle.std.specs.Prelude.{List, []}
use Rattle.rtl_sig.specs.declared.sig.SigBit.{SigBit}
use Rattle.rtl_sig.specs.declared.sig.Storage.{Storage}
use Rattle.rtl_sig.specs.declared.sig.Storage.TheVariants.{Nothing, Inline, Heap}

-- the bits that lie there
abbrev pub stored_bits : Storage → List SigBit
stored_bits Nothing = []
stored_bits (Inline bits) = bits
stored_bits (Heap bits) = bits.value.items
