-- The shape of a cell is that of its parameters, and a cell that fits its kind has one.
use Rattle.std.proofs.Common.{◌≡◌, Option, Some, None, Ok, ap}
use Rattle.cell_types.specs.Fault.{fault_of}
use Rattle.cell_types.specs.Shape.{made_shape, unless}
use Rattle.cell_types.specs.declared.fault.CellFault.{CellFault}
use Rattle.cell_types.specs.declared.kind.CellKind.{CellKind}
use Rattle.cell_types.specs.declared.shape.Shape.{Shape}
use Rattle.rtl_ir.specs.Faults.Cells.{misfit, pin_widths}
use Rattle.rtl_ir.specs.Flat.Cell.{cell_kind, cell_shape}
use Rattle.rtl_ir.specs.Parameters.{given_params}
use Rattle.rtl_ir.specs.declared.cell.Cell.{Cell}
use Rattle.map_laws.specs.Operand.{IsShapeOf}

made_is : (fault : Option CellFault) (made shape : Shape) → unless fault made ≡ Ok shape → shape ≡ made
made_is None made shape e = cc
made_is (Some fault) made shape e = absurd (cc)

no_fault : (fault : Option CellFault) (made shape : Shape) → unless fault made ≡ Ok shape → fault ≡ None
no_fault None made shape e = cc
no_fault (Some fault) made shape e = absurd (cc)

-- the shape of a cell is that of its parameters
pub shape_is : (c : Cell) (shape : Shape) → IsShapeOf c shape → shape ≡ cell_shape shape.kind c.params
unfolding cell_shape
shape_is c shape is =
    made_is (fault_of shape.kind (given_params c.params) (pin_widths c.pins)) (made_shape shape.kind (given_params c.params)) shape is.given

-- and the cell fits its kind
pub fits_shape : (c : Cell) (shape : Shape) → IsShapeOf c shape → misfit shape.kind c ≡ None
unfolding misfit
fits_shape c shape is =
    no_fault (fault_of shape.kind (given_params c.params) (pin_widths c.pins)) (made_shape shape.kind (given_params c.params)) shape is.given

-- a cell that fits its kind has the shape of its parameters
pub shape_fits : (c : Cell) (kind : CellKind) → cell_kind c ≡ Some kind → misfit kind c ≡ None → IsShapeOf c (cell_shape kind c.params)
unfolding misfit cell_shape
shape_fits c kind own fit = record { kind = own; given = ap (λ fault. unless fault (made_shape kind (given_params c.params))) fit }
