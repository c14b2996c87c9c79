-- What cones give.
use Rattle.rtl_bits.specs.declared.bit.Bit.{Bit}
use Rattle.rtl_bits.specs.declared.bit.Bit.TheVariants.{X}
use Rattle.cell_gate.specs.Gates.{output_of}
use Rattle.gate_cones.specs.declared.cone.Cone.{Cone}
use Rattle.gate_cones.specs.declared.cone.Cone.TheVariants.{At, Fixed, One', Two', Three'}
use Rattle.gate_cones.specs.declared.row.Row.{Row}
use Rattle.gate_cones.specs.Row.{bit_at}

-- what a cone gives for a row of bits at its leaves; a pin that is left out is x
abbrev pub cone_value : Cone → Row → Bit
cone_value (At leaf) row = bit_at row leaf
cone_value (Fixed b) row = b
cone_value (One' kind p a) row = output_of kind (cone_value a row) X X
cone_value (Two' kind p a q b) row = output_of kind (cone_value a row) (cone_value b row) X
cone_value (Three' kind p a q b r s) row = output_of kind (cone_value a row) (cone_value b row) (cone_value s row)
