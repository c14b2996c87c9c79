-- The connections of a module to what the outside sees.
use Rattle.std.specs.Prelude.{ℕ, ◌+◌, Bool, List, [], ◌∷◌, ◌++◌, map, is_some, if◌then◌else◌}
use Rattle.rtl_sig.specs.declared.sig.SigBit.{SigBit}
use Rattle.rtl_sig.specs.declared.sig.SigBit.TheVariants.{Wire as OnWire}
use Rattle.rtl_sig.specs.declared.sig.WireBit.{WireBit}
use Rattle.rtl_ir.specs.Follow.{all_joins, follow, source_at}
use Rattle.rtl_ir.specs.Signals.{bits_of_wire}
use Rattle.rtl_ir.specs.declared.module.Link.{Link}
use Rattle.rtl_ir.specs.declared.wire.Wire.{Wire}
use Rattle.opt_clean.specs.Keep.{is_shown}

-- a run that has ended, where it has bits
abbrev pub ended : List WireBit → List (List WireBit)
ended [] = []
ended (b ∷ run) = (b ∷ run) ∷ []

-- the longest runs of bits that fit, in order, behind a run that has not ended
abbrev pub runs : (WireBit → Bool) → List WireBit → List WireBit → List (List WireBit)
runs fits run [] = ended run
runs fits run (b ∷ bits) = if fits b then runs fits (run ++ b ∷ []) bits else ended run ++ runs fits [] bits

-- a connection drives the bit
abbrev pub is_connected : List Link → WireBit → Bool
is_connected links b = is_some (source_at (all_joins links) b)

-- a connection of the sources of these bits to them
abbrev pub run_link : (WireBit → SigBit) → List WireBit → Link
run_link source run = record { left = map OnWire run; right = map source run }

-- the connections of the wire at a place, which has this width: one for each longest run of bits that fit
abbrev pub wire_links : (WireBit → Bool) → (WireBit → SigBit) → ℕ → ℕ → List Link
wire_links fits source wire width = map (run_link source) (runs fits [] (bits_of_wire wire width))

-- the connections of those of the wires from a place on that the outside sees
abbrev pub shown_links : (WireBit → Bool) → (WireBit → SigBit) → ℕ → List Wire → List Link
shown_links fits source wire [] = []
shown_links fits source wire (w ∷ ws) =
    (if is_shown w then wire_links fits source wire w.width else []) ++ shown_links fits source (wire + 1) ws

-- what a bit is followed to
abbrev pub source_of : List Link → WireBit → SigBit
source_of links b = follow links (OnWire b)

-- the connections that a module gets: its connected bits that the outside sees, from what they are followed to
unfoldable pub links_of : List Wire → List Link → List Link
links_of wires links = shown_links (is_connected links) (source_of links) 0 wires
