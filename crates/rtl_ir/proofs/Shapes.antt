-- A cell has its shape, or the fault of its parameters and pins.
use Rattle.std.proofs.Common.{◌≡◌, ◌≢◌, List, Option, Some, None, Result, Ok, Err, refl, sym, ◌∙◌, ap}
use Rattle.std.specs.Prelude.{IfErr, IfOk}
use Rattle.cell_types.specs.declared.fault.CellFault.{CellFault}
use Rattle.cell_types.specs.declared.fault.CellFault.TheVariants as cell
use Rattle.cell_types.specs.declared.given.Param.{Param}
use Rattle.cell_types.specs.declared.given.PinWidth.{PinWidth}
use Rattle.cell_types.specs.declared.kind.CellKind.{CellKind}
use Rattle.cell_types.specs.declared.shape.Shape.{Shape}
use Rattle.cell_types.specs.Fault.{fault_of}
use Rattle.cell_types.specs.Shape.{unless, shape_of, made_shape}
use Rattle.rtl_ir.specs.declared.cell.Cell.{Cell}
use Rattle.rtl_ir.specs.Faults.Cells.{misfit, pin_widths}
use Rattle.rtl_ir.specs.Flat.Cell.{cell_shape}
use Rattle.rtl_ir.specs.Parameters.{given_params}

no_fault : (o : Option CellFault) (made shape : Shape) → unless o made ≡ Ok shape → (o ≡ None) × (shape ≡ made)
no_fault None made shape e = (refl, cc)
no_fault (Some f) made shape e = absurd (cc)

one_fault : (o : Option CellFault) (made : Shape) (fault : CellFault) → unless o made ≡ Err fault → o ≡ Some fault
one_fault None made fault e = absurd (cc)
one_fault (Some f) made fault e = cc

-- a cell with a shape has no fault, and the shape is its own
pub shape_is : (kind : CellKind) (c : Cell) (params : List Param) (pins : List PinWidth) → params ≡ given_params c.params → pins ≡ pin_widths c.pins
    → (r : Result Shape CellFault) → IfOk r (λ shape. shape_of kind params pins ≡ Ok shape)
    → IfOk r (λ shape. (misfit kind c ≡ None) × (shape ≡ cell_shape kind c.params))
unfolding misfit cell_shape
shape_is kind c params pins p q (Err fault) e = tt
shape_is kind c params pins p q (Ok shape) e =
    let both = no_fault (fault_of kind params pins) (made_shape kind params) shape e in
    ((λ i. fault_of kind (sym p i) (sym q i)) ∙ both.0, both.1 ∙ ap (made_shape kind) p)

-- of a cell without a shape the fault is known
pub fault_is : (kind : CellKind) (c : Cell) (params : List Param) (pins : List PinWidth) → params ≡ given_params c.params → pins ≡ pin_widths c.pins
    → (r : Result Shape CellFault) → IfErr r (λ fault. fault ≢ cell.Memory → shape_of kind params pins ≡ Err fault)
    → IfErr r (λ fault. fault ≢ cell.Memory → misfit kind c ≡ Some fault)
unfolding misfit
fault_is kind c params pins p q (Ok shape) e = tt
fault_is kind c params pins p q (Err fault) e =
    λ n. (λ i. fault_of kind (sym p i) (sym q i)) ∙ one_fault (fault_of kind params pins) (made_shape kind params) fault (e n)
