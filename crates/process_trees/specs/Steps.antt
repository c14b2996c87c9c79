-- Steps back through cells, as contracts see them.
use Rattle.std.specs.Prelude.{Bool, Option, Some, None, option_map}
use Rattle.cell_types.specs.declared.kind.CellKind.{CellKind}
use Rattle.cell_types.specs.declared.kind.CellKind.TheVariants as Cells
use Rattle.rtl_sig.specs.declared.sig.SigBit.{SigBit}
use Rattle.rtl_ir.specs.EventTests as rtl
use Rattle.process_trees.specs.declared.steps.Step.{Step}

-- a step, as the definitions have it
abbrev pub step_as : Step → rtl.Step
step_as s = record { input = s.input; inverse = s.inverse }

-- the step to an input, where it is known what it gives
abbrev pub step_by : SigBit → Option Bool → Option rtl.Step
step_by input inverse = option_map (λ i. record { input = input; inverse = i }) inverse

-- a kind that is combinational
abbrev pub combinational : Option CellKind → Option CellKind
combinational (Some (Cells.Word kind)) = Some (Cells.Word kind)
combinational (Some (Cells.Gate kind)) = Some (Cells.Gate kind)
combinational kind = None
