-- The operands of a cell, as they stand and as the rules mean them.
use Rattle.std.specs.Prelude.{◌≡◌, ℕ, max, Bool, List, [], length, Option, Some, None}
use Rattle.cell_types.specs.declared.gate.GateKind.{GateKind}
use Rattle.cell_types.specs.declared.gate.GateKind.TheVariants as GateOf
use Rattle.cell_types.specs.declared.kind.CellKind.{CellKind}
use Rattle.cell_types.specs.declared.kind.CellKind.TheVariants.{Word, Gate}
use Rattle.cell_types.specs.declared.shape.Shape.{Shape}
use Rattle.cell_types.specs.declared.word.BitwiseKind.TheVariants as Bits
use Rattle.cell_types.specs.declared.word.UnaryKind.TheVariants.{Not, Pos}
use Rattle.cell_types.specs.declared.word.WordKind.{WordKind}
use Rattle.cell_types.specs.declared.word.WordKind.TheVariants.{Unary, Bitwise, Equal, Order, Division, Mux}
use Rattle.cell_word.specs.Values.{both_signed}
use Rattle.rtl_sig.specs.Signal.{extended}
use Rattle.rtl_sig.specs.declared.sig.SigBit.{SigBit}
use Rattle.expr_rules.specs.declared.operands.Operands.{Operands}

-- the word cell of width 1 that a gate counts as; those with an inverse at an input or at the output count as none
abbrev pub counted_gate : GateKind → Option WordKind
counted_gate GateOf.Buf = Some (Unary Pos)
counted_gate GateOf.Not = Some (Unary Not)
counted_gate GateOf.And = Some (Bitwise Bits.And)
counted_gate GateOf.Or = Some (Bitwise Bits.Or)
counted_gate GateOf.Xor = Some (Bitwise Bits.Xor)
counted_gate GateOf.Xnor = Some (Bitwise Bits.Xnor)
counted_gate GateOf.Mux = Some Mux
counted_gate kind = None

-- the word cell that a cell counts as
abbrev pub counted_as : CellKind → Option WordKind
counted_as (Word kind) = Some kind
counted_as (Gate kind) = counted_gate kind
counted_as kind = None

-- the width to which operands are extended, by their own widths and that of Y
abbrev pub meant_width : WordKind → ℕ → ℕ → ℕ → ℕ
meant_width (Equal kind) a b y = max a b
meant_width (Order kind) a b y = max a b
meant_width (Division kind) a b y = max (max a b) y
meant_width kind a b y = y

-- whether they are extended with their top bits
abbrev pub meant_signed : WordKind → Shape → Bool
meant_signed (Unary kind) shape = shape.signs.a
meant_signed kind shape = both_signed shape

-- an operand as it is meant, of a word cell of a kind with these operands; of a cell that counts as none it is not read
abbrev pub meant_as : Option WordKind → Shape → List SigBit → List SigBit → List SigBit → List SigBit
meant_as (Some kind) shape a b operand =
    extended operand (meant_width kind (length a) (length b) shape.widths.y) (meant_signed kind shape)
meant_as None shape a b operand = []

-- the same of a cell of a shape
abbrev pub meant_of : Shape → List SigBit → List SigBit → List SigBit → List SigBit
meant_of shape a b operand = meant_as (counted_as shape.kind) shape a b operand

-- the operands of a cell of a shape with these signals at A, B and S, and these signals of the inverters below it
abbrev pub operands_of : Shape → List SigBit → List SigBit → List SigBit → Option SigBit → Option (List SigBit) → Operands
operands_of shape a b s inverted inner = record {
  a = a;
  b = b;
  s = s;
  left = meant_of shape a b a;
  right = meant_of shape a b b;
  inverted = inverted;
  inner = inner;
}

-- the meant operands are those of the signals
pub record IsMeant (shape : Shape) (o : Operands) : Type 0 where
  pub left : o.left ≡ meant_of shape o.a o.b o.a
  pub right : o.right ≡ meant_of shape o.a o.b o.b
