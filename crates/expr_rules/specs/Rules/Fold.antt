-- The rule for folds of one bit, and for `$pmux` of one.
use Rattle.std.specs.Prelude.{◌==◌, ◌&&◌, length, Option, None}
use Rattle.cell_types.specs.declared.kind.CellKind.{CellKind}
use Rattle.cell_types.specs.declared.shape.Shape.{Shape}
use Rattle.cell_types.specs.declared.word.FoldKind.{FoldKind}
use Rattle.cell_types.specs.declared.word.FoldKind.TheVariants.{Xnor, LogicNot}
use Rattle.cell_types.specs.declared.word.WordKind.{WordKind}
use Rattle.cell_types.specs.declared.word.WordKind.TheVariants.{Fold, Pmux}
use Rattle.expr_rules.specs.Change.{chooser, inverter, when}
use Rattle.expr_rules.specs.declared.change.Change.{Change}
use Rattle.expr_rules.specs.declared.change.Change.TheVariants.{Gives}
use Rattle.expr_rules.specs.declared.operands.Operands.{Operands}

-- a fold of one bit is that bit; `$logic_not` and `$reduce_xnor` are its inverse, which is made where Y has one bit
abbrev pub folded_bit : FoldKind → CellKind → Shape → Operands → Option Change
folded_bit Xnor own shape o = when ((length o.a == 1) && (shape.widths.y == 1)) (inverter own o.a)
folded_bit LogicNot own shape o = when ((length o.a == 1) && (shape.widths.y == 1)) (inverter own o.a)
folded_bit kind own shape o = when (length o.a == 1) (Gives o.a)

-- a fold of one bit; `$pmux` of one part, which becomes `$mux`
abbrev pub one_bit : WordKind → CellKind → Shape → Operands → Option Change
one_bit (Fold kind) own shape o = folded_bit kind own shape o
one_bit Pmux own shape o = when (length o.s == 1) (chooser own o.a o.b o.s)
one_bit kind own shape o = None
