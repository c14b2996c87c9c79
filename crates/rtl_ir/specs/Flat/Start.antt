-- The start values of storage bits.
use Rattle.std.specs.Prelude.{List, [], ◌∷◌, map, flat_map, Option, Some, None, slice_get, slice_index_or, if◌then◌else◌, unwrap_or, codes}
use Rattle.std.specs.Option.{option_or}
use Rattle.rtl_bits.specs.declared.bit.Bit.{Bit}
use Rattle.rtl_bits.specs.declared.bit.Bit.TheVariants.{X}
use Rattle.rtl_bits.specs.Tables.{seen_of}
use Rattle.rtl_sig.specs.declared.sig.SigBit.{SigBit}
use Rattle.rtl_sig.specs.declared.sig.SigBit.TheVariants.{Fixed, Wire as OnWire}
use Rattle.rtl_sig.specs.declared.sig.WireBit.{WireBit}
use Rattle.rtl_ir.specs.declared.process.Process.{Process}
use Rattle.rtl_ir.specs.declared.wire.Wire.{Wire}
use Rattle.rtl_ir.specs.Assigns.{tree_bits}
use Rattle.rtl_ir.specs.Attributes.{attribute_bits}
use Rattle.rtl_ir.specs.Decisions.{expanded, leaves_of}
use Rattle.rtl_ir.specs.Follow.{all_joins}
use Rattle.rtl_ir.specs.declared.follow.Join.{Join}
use Rattle.rtl_ir.specs.Rules.{init_lines}
use Rattle.rtl_ir.specs.Signals.{same_bit}
use Rattle.rtl_ir.specs.SwitchRules.{root_by_rules}

-- the bits of the attribute `\init` of a wire that may be there
abbrev pub init_bits : Option Wire → List Bit
init_bits (Some w) = attribute_bits w.attributes (codes "\\init")
init_bits None = []

-- what the attribute `\init` of its wire says of a bit
abbrev pub init_bit : List Wire → WireBit → Bit
init_bit wires b = slice_index_or (init_bits (slice_get wires b.wire)) b.at X

-- a bit, and a start value that a process gives it
pub record Begun : Type 0 where
  pub bit : WireBit
  pub value : Bit

-- the constant that stands first among leaves
abbrev pub first_constant : List SigBit → Bit
first_constant (Fixed b ∷ leaves) = b
first_constant leaves = X

-- the start values that a process gives: of each line the constant that its right side comes to
abbrev pub process_starts : Process → List Begun
process_starts p =
    map
    (λ (j : Join). record {
      bit = j.bit;
      value = first_constant (leaves_of (expanded (root_by_rules p.root) (tree_bits p.root) j.source));
    })
    (all_joins (init_lines p.syncs))

-- the last of these start values of a bit
abbrev pub last_start : List Begun → WireBit → Option Bit
last_start [] b = None
last_start (s ∷ starts) b = option_or (last_start starts b) (if same_bit s.bit b then Some s.value else None)

-- the start value of a storage bit: the last one that a process gives, else that of the attribute; x where it is not known
abbrev pub start_of : List Wire → List Process → SigBit → Bit
start_of wires processes (Fixed b) = X
start_of wires processes (OnWire b) =
    seen_of (unwrap_or (last_start (flat_map process_starts processes) b) (init_bit wires b))
