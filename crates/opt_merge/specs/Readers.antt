-- The places of the cells that read a bit.
use Rattle.std.specs.Prelude.{ℕ, List, [], Option, Some, None, map, flat_map, slice_index_or}
use Rattle.std.specs.Global.{Vec}
use Rattle.rtl_sig.specs.declared.sig.SigBit.{SigBit}
use Rattle.rtl_sig.specs.declared.sig.SigBit.TheVariants.{Fixed, Wire as OnWire}
use Rattle.rtl_sig.specs.declared.sig.WireBit.{WireBit}
use Rattle.net_index.specs.Numbering.{number_of}
use Rattle.opt_merge.specs.declared.readers.Readers.{Readers}

-- the places at the number of a bit, or those of all bits without a number
abbrev pub places_at : List (Vec ℕ) → List ℕ → Option ℕ → List ℕ
places_at inside outside (Some number) = slice_index_or (map (λ (places : Vec ℕ). places.items) inside) number []
places_at inside outside None = outside

-- the places of the cells that read a bit, and maybe of others
abbrev pub readers_at : Readers → WireBit → List ℕ
readers_at readers b = places_at readers.inside.items readers.outside.items (number_of readers.numbering b)

-- those of a bit or a constant
abbrev pub readers_of_bit : Readers → SigBit → List ℕ
readers_of_bit readers (Fixed c) = []
readers_of_bit readers (OnWire b) = readers_at readers b

-- those of each bit of a signal
abbrev pub readers_of_signal : Readers → List SigBit → List ℕ
readers_of_signal readers signal = flat_map (readers_of_bit readers) signal
