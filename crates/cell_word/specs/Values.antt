-- The values of combinational cells on words.
use Rattle.std.specs.Prelude.{ℕ, ◌≤◌, ◌&&◌, Bool, false, List, [], length, slice_index_or}
use Rattle.rtl_bits.specs.declared.bit.Bit.{Bit}
use Rattle.rtl_bits.specs.declared.bit.Bit.TheVariants.{X}
use Rattle.rtl_bits.specs.Knowledge.{Placewise}
use Rattle.cell_types.specs.declared.kind.CellKind.{CellKind}
use Rattle.cell_types.specs.declared.kind.CellKind.TheVariants as Cell
use Rattle.cell_types.specs.declared.shape.Shape.{Shape}
use Rattle.cell_types.specs.declared.word.UnaryKind.{UnaryKind}
use Rattle.cell_types.specs.declared.word.UnaryKind.TheVariants.{Not, Pos, Neg}
use Rattle.cell_types.specs.declared.word.WordKind.{WordKind}
use Rattle.cell_types.specs.declared.word.WordKind.TheVariants.{Unary, Fold, Bitwise, Logic, Equal, Order, Arith, Division, Shift, Mux, Pmux, Slice, Concat, Buf, Bwmux, Bmux, Demux}
use Rattle.cell_word.specs.Words.{one_bit_of}
use Rattle.cell_word.specs.Bitwise.{inverse_of, itself_of, bitwise_of}
use Rattle.cell_word.specs.Folds.{folded_of, logic_of, equality_of}
use Rattle.cell_word.specs.Arithmetic.{negative_of, arith_of, division_of, order_of}
use Rattle.cell_word.specs.Shifts.{shifted_of}
use Rattle.cell_word.specs.Choice.{muxed_of, bwmuxed_of, picked_of, part_of, joined_of}
use Rattle.cell_word.specs.Parts.{bmuxed_of, demuxed_of}

-- whether both operands of a shape are signed
abbrev pub both_signed : Shape → Bool
both_signed shape = shape.signs.a && shape.signs.b

-- the value of a kind with one operand
abbrev pub unary_of : UnaryKind → Bool → List Bit → ℕ → List Bit
unary_of Not signed a width = inverse_of signed a width
unary_of Pos signed a width = itself_of signed a width
unary_of Neg signed a width = negative_of signed a width

-- the value of a kind, of the words at its pins A, B and S, of which it reads those that it has
abbrev pub value_of : WordKind → Shape → List Bit → List Bit → List Bit → List Bit
value_of (Unary kind) shape a b s = unary_of kind shape.signs.a a shape.widths.y
value_of (Fold kind) shape a b s = one_bit_of (folded_of kind a) shape.widths.y
value_of (Bitwise kind) shape a b s = bitwise_of kind (both_signed shape) a b shape.widths.y
value_of (Logic kind) shape a b s = one_bit_of (logic_of kind a b) shape.widths.y
value_of (Equal kind) shape a b s = one_bit_of (equality_of kind (both_signed shape) a b) shape.widths.y
value_of (Order kind) shape a b s = one_bit_of (order_of kind (both_signed shape) a b) shape.widths.y
value_of (Arith kind) shape a b s = arith_of kind (both_signed shape) a b shape.widths.y
value_of (Division kind) shape a b s = division_of kind (both_signed shape) a b shape.widths.y
value_of (Shift kind) shape a b s = shifted_of kind shape.signs.a shape.signs.b a b shape.widths.y
value_of Mux shape a b s = muxed_of a b (slice_index_or s 0 X) shape.widths.y
value_of Pmux shape a b s = picked_of a b s shape.widths.y
value_of Slice shape a b s = part_of a shape.offset shape.widths.y
value_of Concat shape a b s = joined_of a b
value_of Buf shape a b s = itself_of false a shape.widths.y
value_of Bwmux shape a b s = bwmuxed_of a b s shape.widths.y
value_of Bmux shape a b s = bmuxed_of a s shape.widths.y
value_of Demux shape a b s = demuxed_of a s

-- the word at an input, by its place among the pins A, B and S
abbrev pub input_of : List (List Bit) → ℕ → List Bit
input_of inputs at = slice_index_or inputs at []

-- the value by the kind of cell
abbrev pub value_by : CellKind → Shape → List (List Bit) → List Bit
value_by (Cell.Word kind) shape inputs =
    value_of kind shape (input_of inputs 0) (input_of inputs 1) (input_of inputs 2)
value_by kind shape inputs = []

-- the value of a word cell; that of any other cell is empty, which nothing reads
abbrev pub word_value_of : Shape → List (List Bit) → List Bit
word_value_of shape inputs = value_by shape.kind shape inputs

-- how many inputs a kind has, counted up to its last one
abbrev pub input_count : WordKind → ℕ
input_count (Unary _) = 1
input_count (Fold _) = 1
input_count Slice = 1
input_count Mux = 3
input_count Pmux = 3
input_count Buf = 1
input_count Bwmux = 3
input_count Bmux = 3
input_count Demux = 3
input_count _ = 2

-- a kind has the pins A and B alone
abbrev pub IsBinary : WordKind → Type 0
IsBinary (Unary _) = ⊥
IsBinary (Fold _) = ⊥
IsBinary Slice = ⊥
IsBinary Mux = ⊥
IsBinary Pmux = ⊥
IsBinary Buf = ⊥
IsBinary Bwmux = ⊥
IsBinary Bmux = ⊥
IsBinary Demux = ⊥
IsBinary _ = Unit {0}

-- a kind has the pin S
abbrev pub IsChoice : WordKind → Type 0
IsChoice Mux = Unit {0}
IsChoice Pmux = Unit {0}
IsChoice Bwmux = Unit {0}
IsChoice Bmux = Unit {0}
IsChoice Demux = Unit {0}
IsChoice _ = ⊥

-- the widths within which a kind is computed
abbrev pub IsWithin : WordKind → List Bit → List Bit → List Bit → ℕ → Type 0
IsWithin (Unary Neg) a b s y = (length a ≤ 128) × (y ≤ 128)
IsWithin (Order kind) a b s y = (length a ≤ 128) × (length b ≤ 128)
IsWithin (Arith kind) a b s y = (length a ≤ 128) × (length b ≤ 128) × (y ≤ 128)
IsWithin (Division kind) a b s y = (length a ≤ 128) × (length b ≤ 128) × (y ≤ 128)
IsWithin (Shift kind) a b s y = length a ≤ 4096
IsWithin Pmux a b s y = length s ≤ 4096
IsWithin Bmux a b s y = length s ≤ 12
IsWithin Demux a b s y = length s ≤ 12
IsWithin kind a b s y = Unit {0}

-- the inputs of a word cell are there, and within the limits of its kind
abbrev pub HasInputs : CellKind → Shape → List (List Bit) → Type 0
HasInputs (Cell.Word kind) shape inputs =
    (input_count kind ≤ length inputs)
    × IsWithin kind (input_of inputs 0) (input_of inputs 1) (input_of inputs 2) shape.widths.y
HasInputs kind shape inputs = ⊥

-- the inputs of a cell stand in an order of bits, each word place by place
abbrev pub InputsBelow : (Bit → Bit → Type 0) → List (List Bit) → List (List Bit) → Type 0
InputsBelow order low high = (at : ℕ) → Placewise order (input_of low at) (input_of high at)
