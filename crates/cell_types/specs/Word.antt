-- combinational cells on words
use Rattle.std.specs.Prelude.{ℕ, List, [], ◌∷◌, Option, codes}
use Rattle.cell_types.specs.declared.word.WordKind.{WordKind}
use Rattle.cell_types.specs.declared.word.WordKind.TheVariants as Word
use Rattle.cell_types.specs.declared.word.UnaryKind.TheVariants as Unary
use Rattle.cell_types.specs.declared.word.FoldKind.TheVariants as Fold
use Rattle.cell_types.specs.declared.word.BitwiseKind.TheVariants as Bitwise
use Rattle.cell_types.specs.declared.word.LogicKind.TheVariants as Logic
use Rattle.cell_types.specs.declared.word.EqualKind.TheVariants as Equal
use Rattle.cell_types.specs.declared.word.OrderKind.TheVariants as Order
use Rattle.cell_types.specs.declared.word.ArithKind.TheVariants as Arith
use Rattle.cell_types.specs.declared.word.DivisionKind.TheVariants as Division
use Rattle.cell_types.specs.declared.word.ShiftKind.TheVariants as Shift
use Rattle.cell_types.specs.Names.{named}

-- the word cells with their names
abbrev pub words : List (List ℕ × WordKind)
words =
    ((codes "$not", Word.Unary Unary.Not)
    ∷ (codes "$pos", Word.Unary Unary.Pos)
    ∷ (codes "$neg", Word.Unary Unary.Neg)
    ∷ (codes "$reduce_and", Word.Fold Fold.And)
    ∷ (codes "$reduce_or", Word.Fold Fold.Or)
    ∷ (codes "$reduce_xor", Word.Fold Fold.Xor)
    ∷ (codes "$reduce_xnor", Word.Fold Fold.Xnor)
    ∷ (codes "$reduce_bool", Word.Fold Fold.Bool)
    ∷ (codes "$logic_not", Word.Fold Fold.LogicNot)
    ∷ (codes "$and", Word.Bitwise Bitwise.And)
    ∷ (codes "$or", Word.Bitwise Bitwise.Or)
    ∷ (codes "$xor", Word.Bitwise Bitwise.Xor)
    ∷ (codes "$xnor", Word.Bitwise Bitwise.Xnor)
    ∷ (codes "$logic_and", Word.Logic Logic.And)
    ∷ (codes "$logic_or", Word.Logic Logic.Or)
    ∷ (codes "$eq", Word.Equal Equal.Eq)
    ∷ (codes "$ne", Word.Equal Equal.Ne)
    ∷ (codes "$lt", Word.Order Order.Lt)
    ∷ (codes "$le", Word.Order Order.Le)
    ∷ (codes "$ge", Word.Order Order.Ge)
    ∷ (codes "$gt", Word.Order Order.Gt)
    ∷ (codes "$add", Word.Arith Arith.Add)
    ∷ (codes "$sub", Word.Arith Arith.Sub)
    ∷ (codes "$mul", Word.Arith Arith.Mul)
    ∷ (codes "$div", Word.Division Division.Div)
    ∷ (codes "$mod", Word.Division Division.Mod)
    ∷ (codes "$divfloor", Word.Division Division.DivFloor)
    ∷ (codes "$modfloor", Word.Division Division.ModFloor)
    ∷ (codes "$shl", Word.Shift Shift.Shl)
    ∷ (codes "$sshl", Word.Shift Shift.Sshl)
    ∷ (codes "$shr", Word.Shift Shift.Shr)
    ∷ (codes "$sshr", Word.Shift Shift.Sshr)
    ∷ (codes "$shift", Word.Shift Shift.Shift)
    ∷ (codes "$shiftx", Word.Shift Shift.Shiftx)
    ∷ (codes "$mux", Word.Mux)
    ∷ (codes "$pmux", Word.Pmux)
    ∷ (codes "$slice", Word.Slice)
    ∷ (codes "$concat", Word.Concat)
    ∷ (codes "$buf", Word.Buf)
    ∷ (codes "$bwmux", Word.Bwmux)
    ∷ (codes "$bmux", Word.Bmux)
    ∷ (codes "$demux", Word.Demux)
    ∷ [])

-- the word cell of this name
abbrev pub word_of : List ℕ → Option WordKind
word_of name = named words name
