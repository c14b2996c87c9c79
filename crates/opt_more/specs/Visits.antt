-- What each of the passes makes of a cell.
use Rattle.std.specs.Prelude.{List}
use Rattle.rtl_ir.specs.Types.{Ports}
use Rattle.rtl_ir.specs.declared.cell.Cell.{Cell}
use Rattle.rtl_ir.specs.declared.wire.Wire.{Wire}
use Rattle.opt_more.specs.declared.sweep.Pass.{Pass}
use Rattle.opt_more.specs.declared.sweep.Pass.TheVariants.{Reduce, Dff}
use Rattle.opt_more.specs.Reduce.{reduce_visit}
use Rattle.opt_more.specs.Dff.{dff_visit}
use Rattle.opt_more.specs.Sweep.{Visiting}

-- the visit of a pass
abbrev pub visit_by : Pass → Ports → List Wire → List Cell → Visiting
visit_by Reduce ports wires cells = reduce_visit ports cells
visit_by Dff ports wires cells = dff_visit ports wires
