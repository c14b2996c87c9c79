use Rattle.std.proofs.Common.{◌∙◌, ap}
use Rattle.rtl_ir.specs.Faults.Cells.{pin_widths}
use Rattle.rtl_ir.specs.Parameters.{given_params}
use Rattle.rtl_ir.proofs.Shapes.{shape_is, fault_is}
use Rattle.rtl_ir.proofs.shape.cell_shape.Goals as goal

pub returns-clause-shape : goal.returns-clause-shape
returns-clause-shape c = shape_is c.args.kind c.args.cell.now c.as_slice-3.result.now c.as_slice-4.result.now (c.as_slice-3.ensures.value ∙ c.in_ok-params.ensures.value ∙ ap given_params c.as_slice.ensures.value) (c.as_slice-4.ensures.value ∙ c.in_ok-pins.ensures.value ∙ ap pin_widths c.as_slice-2.ensures.value) c.shape_of.result c.shape_of.ensures.ok

pub returns-clause-fault : goal.returns-clause-fault
returns-clause-fault c = fault_is c.args.kind c.args.cell.now c.as_slice-3.result.now c.as_slice-4.result.now (c.as_slice-3.ensures.value ∙ c.in_ok-params.ensures.value ∙ ap given_params c.as_slice.ensures.value) (c.as_slice-4.ensures.value ∙ c.in_ok-pins.ensures.value ∙ ap pin_widths c.as_slice-2.ensures.value) c.shape_of.result c.shape_of.ensures.fault
