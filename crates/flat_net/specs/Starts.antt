-- The start values of the bits of a module.
use Rattle.std.specs.Prelude.{◌≡◌, List, [], ◌++◌, map, slice_index_or, unwrap_or}
use Rattle.rtl_bits.specs.declared.bit.Bit.{Bit}
use Rattle.rtl_bits.specs.declared.bit.Bit.TheVariants.{X}
use Rattle.rtl_bits.specs.Tables.{seen_of}
use Rattle.rtl_sig.specs.declared.sig.SigBit.{SigBit}
use Rattle.rtl_sig.specs.declared.sig.SigBit.TheVariants.{Fixed, Wire as OnWire}
use Rattle.rtl_sig.specs.declared.sig.WireBit.{WireBit}
use Rattle.rtl_ir.specs.declared.wire.Wire.{Wire}
use Rattle.rtl_ir.specs.Starts.{inits_of}
use Rattle.rtl_ir.specs.Decisions.{expanded, leaves_of}
use Rattle.rtl_ir.specs.Flat.Start.{Begun, first_constant, last_start}
use Rattle.rtl_ir.specs.declared.follow.Join.{Join}
use Rattle.rtl_ir.specs.Tree.{CaseView}
use Rattle.net_index.specs.IndexTable.{at_bit}
use Rattle.flat_net.specs.declared.starts.Starts.{Starts}

-- the start value of a bit: the one that a process gives, else that of the attribute
abbrev pub start_at : Starts → SigBit → Bit
start_at starts (Fixed b) = X
start_at starts (OnWire b) =
    seen_of (unwrap_or (at_bit starts.given b) (slice_index_or (slice_index_or starts.said.items b.wire []) b.at X))

-- the bits have these start values
abbrev pub IsStart : Starts → (SigBit → Bit) → Type 0
IsStart starts start = (s : SigBit) → start_at starts s ≡ start s

-- what is known is what the wires say, and that these start values are given, one after another
pub record AreStarts (starts : Starts) (wires : List Wire) (all : List Begun) : Type 0 where
  pub said : starts.said.items ≡ inits_of wires
  pub given : (b : WireBit) → at_bit starts.given b ≡ last_start all b

-- the start values at these places, by a root case whose switches are read by the rules
abbrev pub starts_by : CaseView → List WireBit → List Join → List Begun
starts_by root bits js =
    map (λ (j : Join). record { bit = j.bit; value = first_constant (leaves_of (expanded root bits j.source)) }) js

-- these start values came behind the others
pub record Gains (old new : Starts) (more : List Begun) : Type 0 where
  pub gains : (wires : List Wire) (all : List Begun) → AreStarts old wires all → AreStarts new wires (all ++ more)
