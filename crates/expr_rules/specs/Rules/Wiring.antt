-- Rules for cells that only pass bits on.
use Rattle.std.specs.Prelude.{◌++◌, Option, Some, None}
use Rattle.cell_types.specs.declared.shape.Shape.{Shape}
use Rattle.cell_types.specs.declared.word.UnaryKind.TheVariants.{Pos}
use Rattle.cell_types.specs.declared.word.WordKind.{WordKind}
use Rattle.cell_types.specs.declared.word.WordKind.TheVariants.{Unary, Slice, Concat, Buf}
use Rattle.expr_rules.specs.Signals.{part_of}
use Rattle.expr_rules.specs.declared.change.Change.{Change}
use Rattle.expr_rules.specs.declared.change.Change.TheVariants.{Gives}
use Rattle.expr_rules.specs.declared.operands.Operands.{Operands}

-- `$pos`, `$buf`, `$_BUF_`: gives the extended A; of `$buf` that is A itself
abbrev pub buffer : WordKind → Operands → Option Change
buffer (Unary Pos) o = Some (Gives o.left)
buffer Buf o = Some (Gives o.a)
buffer kind o = None

-- `$slice`, `$concat`: gives its bits
abbrev pub wiring : WordKind → Shape → Operands → Option Change
wiring Slice shape o = Some (Gives (part_of o.a shape.offset shape.widths.y))
wiring Concat shape o = Some (Gives (o.a ++ o.b))
wiring kind shape o = None
