-- Cones keep the order of knowledge, and so a cone that says no less in each plain row says no less in any.
use Rattle.std.proofs.Common.{refl}
use Rattle.rtl_bits.specs.declared.bit.Bit.{Bit}
use Rattle.rtl_bits.specs.declared.bit.Bit.TheVariants.{S0, S1, X}
use Rattle.rtl_bits.specs.Knowledge.{Below}
use Rattle.rtl_bits.specs.Tables.{seen_of}
use Rattle.rtl_bits.proofs.Orders.{Below_refl, Below_trans}
use Rattle.rtl_bits.proofs.Tables.{seen_of_plain}
use Rattle.cell_gate.proofs.Monotone.{output_below}
use Rattle.gate_cones.specs.declared.cone.Cone.{Cone}
use Rattle.gate_cones.specs.declared.cone.Cone.TheVariants.{At, Fixed, One', Two', Three'}
use Rattle.gate_cones.specs.declared.row.Leaf.TheVariants.{L0, L1, L2, L3, L4}
use Rattle.gate_cones.specs.declared.row.Row.{Row}
use Rattle.gate_cones.specs.Below.{IsBelow}
use Rattle.gate_cones.specs.Cone.{cone_value}
use Rattle.gate_cones.specs.Row.{IsPlainRow, RowBelow, bit_at, seen_row}

pub value_below : (cone : Cone) (low high : Row) → RowBelow low high → Below (cone_value cone low) (cone_value cone high)
value_below (At leaf) low high h = h leaf
value_below (Fixed b) low high h = Below_refl b
value_below (One' kind p a) low high h = output_below kind _ _ X X X X (value_below a low high h) tt tt
value_below (Two' kind p a q b) low high h =
    output_below kind _ _ _ _ X X (value_below a low high h) (value_below b low high h) tt
value_below (Three' kind p a q b r s) low high h =
    output_below kind _ _ _ _ _ _ (value_below a low high h) (value_below b low high h) (value_below s low high h)

above_seen : (b : Bit) → Below b (seen_of b)
above_seen S0 = refl
above_seen S1 = refl
above_seen b = tt

seen_under : (a b : Bit) → Below a b → Below (seen_of a) b
seen_under S0 b h = h
seen_under S1 b h = h
seen_under a b h = tt

row_plain : (row : Row) → IsPlainRow (seen_row row)
row_plain row L0 = seen_of_plain row.l0
row_plain row L1 = seen_of_plain row.l1
row_plain row L2 = seen_of_plain row.l2
row_plain row L3 = seen_of_plain row.l3
row_plain row L4 = seen_of_plain row.l4

-- no bit says less than what a cell sees of it
pub row_seen : (row : Row) → RowBelow row (seen_row row)
row_seen row L0 = above_seen row.l0
row_seen row L1 = above_seen row.l1
row_seen row L2 = above_seen row.l2
row_seen row L3 = above_seen row.l3
row_seen row L4 = above_seen row.l4

pub seen_below : (low high : Row) → RowBelow low high → RowBelow (seen_row low) high
seen_below low high h L0 = seen_under low.l0 high.l0 (h L0)
seen_below low high h L1 = seen_under low.l1 high.l1 (h L1)
seen_below low high h L2 = seen_under low.l2 high.l2 (h L2)
seen_below low high h L3 = seen_under low.l3 high.l3 (h L3)
seen_below low high h L4 = seen_under low.l4 high.l4 (h L4)

pub row_refl : (row : Row) → RowBelow row row
row_refl row leaf = Below_refl (bit_at row leaf)

-- in any two rows the second of which says no less
pub below_anywhere : (first second : Cone) → IsBelow first second → (low high : Row) → RowBelow low high → Below (cone_value first low) (cone_value second high)
below_anywhere first second h low high b =
    Below_trans _ _ _ (value_below first low (seen_row low) (row_seen low))
    (Below_trans _ _ _ (h (seen_row low) (row_plain low)) (value_below second (seen_row low) high (seen_below low high b)))

pub seen_less : (cone : Cone) (row : Row) → Below (cone_value cone (seen_row row)) (cone_value cone row)
seen_less cone row = value_below cone (seen_row row) row (seen_below row row (row_refl row))

pub seen_more : (cone : Cone) (row : Row) → Below (cone_value cone row) (cone_value cone (seen_row row))
seen_more cone row = value_below cone row (seen_row row) (row_seen row)

pub IsBelow_refl : (cone : Cone) → IsBelow cone cone
IsBelow_refl cone row p = Below_refl _

pub IsBelow_trans : (a b c : Cone) → IsBelow a b → IsBelow b c → IsBelow a c
IsBelow_trans a b c h k row p = Below_trans _ _ _ (h row p) (k row p)
