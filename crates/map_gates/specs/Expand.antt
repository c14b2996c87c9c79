-- The gates of a cell, by its kind.
use Rattle.std.specs.Prelude.{Bool, true, false, if◌then◌else◌, List, [], ◌∷◌, ◌++◌, drop, length}
use Rattle.cell_types.specs.declared.kind.CellKind.{CellKind}
use Rattle.cell_types.specs.declared.kind.CellKind.TheVariants.{Word}
use Rattle.cell_types.specs.declared.gate.GateKind.TheVariants as Gate
use Rattle.cell_types.specs.declared.pin_name.PinName.TheVariants.{A, B, S, Y}
use Rattle.cell_types.specs.declared.shape.Shape.{Shape}
use Rattle.cell_types.specs.declared.word.EqualKind.{EqualKind}
use Rattle.cell_types.specs.declared.word.UnaryKind.TheVariants.{Not, Pos}
use Rattle.cell_types.specs.declared.word.WordKind.{WordKind}
use Rattle.cell_types.specs.declared.word.WordKind.TheVariants.{Unary, Fold, Bitwise, Logic, Equal, Mux, Pmux, Slice, Concat, Buf, Bwmux, Bmux, Demux}
use Rattle.cell_word.specs.Values.{both_signed}
use Rattle.rtl_ir.specs.Build.{Build, Building}
use Rattle.rtl_ir.specs.declared.cell.Cell.{Cell}
use Rattle.rtl_sig.specs.declared.sig.SigBit.{SigBit}
use Rattle.map_laws.specs.Operand.{pin_signal}
use Rattle.gate_nets.specs.Gate.{◌>>=◌, gate_for, pure}
use Rattle.gate_nets.specs.Give.{given}
use Rattle.gate_nets.specs.Operand.{greater_width, operand_of}
use Rattle.map_gates.specs.Bitwise.{binary_gates, bwmux_gates, mux_gates, unary_gates}
use Rattle.map_gates.specs.Choice.{chosen_of, halved_of}
use Rattle.map_gates.specs.Folds.{equality_of, folded_of, logic_of}
use Rattle.map_gates.specs.Gates.{bit_at}
use Rattle.map_gates.specs.Parts.{demux_gates}

-- the value of a kind is made by a net, whose result is given to Y
abbrev pub is_given : WordKind → Bool
is_given (Unary Pos) = true
is_given (Fold kind) = true
is_given (Logic kind) = true
is_given (Equal kind) = true
is_given Pmux = true
is_given Slice = true
is_given Concat = true
is_given Buf = true
is_given Bmux = true
is_given kind = false

-- a kind becomes gates here
abbrev pub is_mapped : CellKind → Bool
is_mapped (Word (Unary Not)) = true
is_mapped (Word (Bitwise kind)) = true
is_mapped (Word Mux) = true
is_mapped (Word Bwmux) = true
is_mapped (Word Demux) = true
is_mapped (Word kind) = is_given kind
is_mapped kind = false

-- a net of one bit, as a word
abbrev pub one_bit : Build SigBit → Build (List SigBit)
one_bit net = do
  y ← net
  pure (y ∷ [])

-- the bit of `$eq` or `$ne`, of the operands at the greater width
abbrev pub compared_of : EqualKind → Shape → Cell → Build SigBit
compared_of kind shape c =
    equality_of kind (operand_of c A (greater_width c) (both_signed shape)) (operand_of c B (greater_width c) (both_signed shape))

-- the net of the value of a cell
abbrev pub value_of : WordKind → Shape → Cell → Build (List SigBit)
value_of (Unary Pos) shape c = pure (operand_of c A shape.widths.y shape.signs.a)
value_of (Fold kind) shape c = one_bit (folded_of kind (pin_signal c A))
value_of (Logic kind) shape c = one_bit (logic_of kind (pin_signal c A) (pin_signal c B))
value_of (Equal kind) shape c = one_bit (compared_of kind shape c)
value_of Pmux shape c = chosen_of (length (pin_signal c A)) (pin_signal c A) (pin_signal c B) (pin_signal c S)
value_of Slice shape c = pure (drop shape.offset (pin_signal c A))
value_of Concat shape c = pure (pin_signal c A ++ pin_signal c B)
value_of Buf shape c = pure (operand_of c A shape.widths.y false)
value_of Bmux shape c = halved_of shape.widths.y (pin_signal c A) (pin_signal c S)
value_of kind shape c = pure []

-- the gates of a cell go last
abbrev pub gates_of : CellKind → Shape → Cell → Building → Building
gates_of (Word (Unary Not)) shape c = unary_gates Gate.Not shape.signs.a (pin_signal c A) (pin_signal c Y)
gates_of (Word (Bitwise kind)) shape c =
    binary_gates (gate_for kind) (both_signed shape) (pin_signal c A) (pin_signal c B) (pin_signal c Y)
gates_of (Word Mux) shape c =
    mux_gates (pin_signal c A) (pin_signal c B) (bit_at false (pin_signal c S) 0) (pin_signal c Y)
gates_of (Word Bwmux) shape c = bwmux_gates (pin_signal c A) (pin_signal c B) (pin_signal c S) (pin_signal c Y)
gates_of (Word Demux) shape c = demux_gates (pin_signal c A) (pin_signal c S) (pin_signal c Y)
gates_of (Word kind) shape c = λ b. if is_given kind then given (pin_signal c Y) (value_of kind shape c) b else b
gates_of kind shape c = λ b. b

-- what a cell of this shape becomes
abbrev pub map_of : Shape → Cell → Building → Building
map_of shape c b = gates_of shape.kind shape c b
