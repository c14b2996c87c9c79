-- One bit made of all bits of words.
use Rattle.std.specs.Prelude.{List}
use Rattle.cell_types.specs.declared.word.BitwiseKind.{BitwiseKind}
use Rattle.cell_types.specs.declared.word.BitwiseKind.TheVariants.{And, Or, Xor, Xnor}
use Rattle.cell_types.specs.declared.word.EqualKind.{EqualKind}
use Rattle.cell_types.specs.declared.word.EqualKind.TheVariants.{Eq, Ne}
use Rattle.cell_types.specs.declared.word.FoldKind.{FoldKind}
use Rattle.cell_types.specs.declared.word.FoldKind.TheVariants as Fold
use Rattle.cell_types.specs.declared.word.LogicKind.{LogicKind}
use Rattle.cell_types.specs.declared.word.LogicKind.TheVariants as Logic
use Rattle.rtl_ir.specs.Build.{Build}
use Rattle.rtl_sig.specs.declared.sig.SigBit.{SigBit}
use Rattle.gate_nets.specs.Gate.{◌>>=◌, gate_of}
use Rattle.gate_nets.specs.Words.{bitwise_of, fold_of}
use Rattle.gate_nets.specs.declared.gate.Gate.TheVariants.{Not, Bitwise}

-- the bits of a word joined by a kind, and the inverse of that
abbrev pub fold_inverted : BitwiseKind → List SigBit → Build SigBit
fold_inverted kind bits = do
  y ← fold_of kind bits
  gate_of (Not y)

-- the bit that a kind makes of a word
abbrev pub folded_of : FoldKind → List SigBit → Build SigBit
folded_of Fold.And a = fold_of And a
folded_of Fold.Or a = fold_of Or a
folded_of Fold.Xor a = fold_of Xor a
folded_of Fold.Xnor a = fold_inverted Xor a
folded_of Fold.Bool a = fold_of Or a
folded_of Fold.LogicNot a = fold_inverted Or a

-- what joins two truths
abbrev pub joining : LogicKind → BitwiseKind
joining Logic.And = And
joining Logic.Or = Or

-- the bit that a kind makes of two words, each of which counts as true where one of its bits is 1
abbrev pub logic_of : LogicKind → List SigBit → List SigBit → Build SigBit
logic_of kind a b = do
  x ← fold_of Or a
  y ← fold_of Or b
  gate_of (Bitwise (joining kind) x y)

-- whether two words of one width agree at all places
abbrev pub equal_of : List SigBit → List SigBit → Build SigBit
equal_of a b = do
  agreeing ← bitwise_of Xnor a b
  fold_of And agreeing

-- the inverse of that
abbrev pub different_of : List SigBit → List SigBit → Build SigBit
different_of a b = do
  y ← equal_of a b
  gate_of (Not y)

-- the bit of `$eq`, and that of `$ne`
abbrev pub equality_of : EqualKind → List SigBit → List SigBit → Build SigBit
equality_of Eq a b = equal_of a b
equality_of Ne a b = different_of a b
