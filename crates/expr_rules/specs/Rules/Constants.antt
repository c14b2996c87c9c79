-- Rules for cells whose value is a constant.
use Rattle.std.specs.Prelude.{◌&&◌, List, [], ◌∷◌, map, slice_index_or, Option}
use Rattle.rtl_bits.specs.Knowledge.{all_known}
use Rattle.rtl_bits.specs.declared.bit.Bit.{Bit}
use Rattle.rtl_bits.specs.declared.bit.Bit.TheVariants.{X}
use Rattle.rtl_sig.specs.declared.sig.SigBit.TheVariants.{Fixed}
use Rattle.rtl_ir.specs.Signals.{is_all_constant}
use Rattle.cell_gate.specs.Gates.{output_of}
use Rattle.cell_types.specs.declared.kind.CellKind.{CellKind}
use Rattle.cell_types.specs.declared.kind.CellKind.TheVariants.{Gate}
use Rattle.cell_types.specs.declared.shape.Shape.{Shape}
use Rattle.cell_word.specs.Values.{word_value_of}
use Rattle.expr_rules.specs.Change.{when}
use Rattle.expr_rules.specs.Signals.{constants_of}
use Rattle.expr_rules.specs.declared.change.Change.{Change}
use Rattle.expr_rules.specs.declared.change.Change.TheVariants.{Gives}
use Rattle.expr_rules.specs.declared.operands.Operands.{Operands}

-- the value of a cell for these words at A, B and S, by its kind
abbrev pub value_by : CellKind → Shape → List Bit → List Bit → List Bit → List Bit
value_by (Gate kind) shape a b s =
    output_of kind (slice_index_or a 0 X) (slice_index_or b 0 X) (slice_index_or s 0 X) ∷ []
value_by kind shape a b s = word_value_of shape (a ∷ b ∷ s ∷ [])

-- the value of a cell with all bits that are not constant as x
abbrev pub constant_value : Shape → Operands → List Bit
constant_value shape o = value_by shape.kind shape (constants_of o.a) (constants_of o.b) (constants_of o.s)

-- all inputs are constants: gives the value
abbrev pub constant_inputs : Shape → Operands → Option Change
constant_inputs shape o =
    when (is_all_constant o.a && (is_all_constant o.b && is_all_constant o.s)) (Gives (map Fixed (constant_value shape o)))

-- the value is wholly known, whatever the bits of wires have: gives it
abbrev pub known_value : Shape → Operands → Option Change
known_value shape o = when (all_known (constant_value shape o)) (Gives (map Fixed (constant_value shape o)))
