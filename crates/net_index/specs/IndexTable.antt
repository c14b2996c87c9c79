-- Tables over the bits of a module.
use Rattle.std.specs.Prelude.{ℕ, List, Option, Some, None, slice_index_or}
use Rattle.std.specs.HashMap.{HashMap, get_by}
use Rattle.std.specs.declared.hash.FoldHasher.{FoldHasher}
use Rattle.std.specs.declared.hash.BuildHasherDefault.{BuildHasherDefault}
use Rattle.rtl_sig.specs.declared.sig.WireBit.{WireBit}
use Rattle.rtl_ir.specs.Signals.{same_bit}
use Rattle.net_index.specs.declared.index_table.BitTable.{BitTable}
use Rattle.net_index.specs.Numbering.{number_of}

-- values of bits by themselves
abbrev pub ByBit : Type 0 → Type 0
ByBit T = HashMap WireBit T (BuildHasherDefault FoldHasher)

-- the value at the number of a bit, or that of the bit by itself where it has no number
abbrev pub value_at : {T : Type 0} → List (Option T) → ByBit T → WireBit → Option ℕ → Option T
value_at inside outside b (Some number) = slice_index_or inside number None
value_at inside outside b None = get_by (same_bit b) outside

-- the value of a bit
abbrev pub at_bit : {T : Type 0} → BitTable T → WireBit → Option T
at_bit table b = value_at table.inside.items table.outside b (number_of table.numbering b)
