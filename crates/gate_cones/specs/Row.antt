-- The leaves of a cone, and a bit for each.
use Rattle.rtl_bits.specs.declared.bit.Bit.{Bit}
use Rattle.rtl_bits.specs.Knowledge.{Below}
use Rattle.rtl_bits.specs.Tables.{IsPlain, seen_of}
use Rattle.gate_cones.specs.declared.row.Leaf.{Leaf}
use Rattle.gate_cones.specs.declared.row.Leaf.TheVariants.{L0, L1, L2, L3, L4}
use Rattle.gate_cones.specs.declared.row.Row.{Row}

-- the bit at a leaf
abbrev pub bit_at : Row → Leaf → Bit
bit_at row L0 = row.l0
bit_at row L1 = row.l1
bit_at row L2 = row.l2
bit_at row L3 = row.l3
bit_at row L4 = row.l4

-- the row with another bit at a leaf
abbrev pub with_bit : Row → Leaf → Bit → Row
with_bit row L0 b = record row { l0 = b }
with_bit row L1 b = record row { l1 = b }
with_bit row L2 b = record row { l2 = b }
with_bit row L3 b = record row { l3 = b }
with_bit row L4 b = record row { l4 = b }

-- the row as cells see it: z is x
abbrev pub seen_row : Row → Row
seen_row row = record {
  l0 = seen_of row.l0;
  l1 = seen_of row.l1;
  l2 = seen_of row.l2;
  l3 = seen_of row.l3;
  l4 = seen_of row.l4;
}

-- a row is plain where each leaf is 0, 1 or x; there are 243 of these
abbrev pub IsPlainRow : Row → Type 0
IsPlainRow row = (leaf : Leaf) → IsPlain (bit_at row leaf)

-- a row says no more than another one, leaf by leaf
abbrev pub RowBelow : Row → Row → Type 0
RowBelow low high = (leaf : Leaf) → Below (bit_at low leaf) (bit_at high leaf)
