-- What the code of a sweep has found is what the definition says.
use Rattle.std.proofs.Common.{◌≡◌, ℕ, List, [], ◌∷◌, length, map, Option, Some, None, refl, sym, ◌∙◌, ap, subst}
use Rattle.cell_types.specs.declared.kind.CellKind.{CellKind}
use Rattle.cell_types.specs.declared.pin_name.PinName.TheVariants.{A, B, S, Y}
use Rattle.cell_types.specs.declared.shape.Shape.{Shape}
use Rattle.cell_types.specs.PinName.{pin_text}
use Rattle.rtl_ir.specs.Faults.Cells.{misfit}
use Rattle.rtl_ir.specs.Flat.Cell.{cell_shape}
use Rattle.rtl_ir.specs.Parameters.{signal_at}
use Rattle.rtl_ir.specs.Types.{Ports}
use Rattle.rtl_ir.specs.declared.cell.Cell.{Cell}
use Rattle.rtl_ir.specs.declared.cell.Pin.{Pin}
use Rattle.rtl_ir.specs.declared.module.Link.{Link}
use Rattle.expr_rules.specs.Laws.{IsComputed}
use Rattle.expr_rules.specs.Rules.{change_of}
use Rattle.expr_rules.specs.declared.change.Change.{Change}
use Rattle.expr_rules.specs.declared.operands.Operands.{Operands}
use Rattle.follow_laws.specs.Inputs.{followed_cell}
use Rattle.net_index.proofs.KindNames.{kind_named}
use Rattle.rtl_ir.specs.declared.cell.CellParam.{CellParam}
use Rattle.rtl_ir.specs.declared.module.Module.{Module}
use Rattle.rtl_sig.specs.declared.sig.SigBit.{SigBit}
use Rattle.cell_types.specs.Kind.{kind_of}
use Rattle.expr_rules.specs.declared.change.NewCell.{NewCell}
use Rattle.opt_expr.specs.Formed.{formed, params_for, pins_for}
use Rattle.opt_expr.specs.Sweep.{by_rules, change_by, changed, expr_of, operands_in, ruled_kind, standing, swept, visit_of, with_swept}
use Rattle.opt_expr.proofs.Fitting.{is_computed}
use Rattle.opt_expr.proofs.Ruling.{is_ruled}

-- the value of a cell of which the shape was made can be computed
pub change_computed : (cell : Cell) (kind : CellKind) (shape : Shape) (o : Operands) (found : Option CellKind) (pins : List Pin) → found ≡ ruled_kind cell → found ≡ Some kind → shape ≡ cell_shape kind cell.params → misfit kind cell ≡ None → pins ≡ cell.pins
    → o.a ≡ signal_at pins (pin_text A) → o.b ≡ signal_at pins (pin_text B) → o.s ≡ signal_at pins (pin_text S) → IsComputed shape.kind shape o
change_computed cell kind shape o found pins is some made fit own a b s =
    let ruled = is_ruled cell kind (sym is ∙ some) in
    subst (λ (z : Shape). IsComputed z.kind z o) (sym made) (is_computed kind cell o ruled.word fit (a ∙ ap (λ ps. signal_at ps (pin_text A)) own) (b ∙ ap (λ ps. signal_at ps (pin_text B)) own) (s ∙ ap (λ ps. signal_at ps (pin_text S)) own))

-- the change of its operands is that of the cell
pub change_is : (cells : List Cell) (done : List (Option Cell)) (rest : List Cell) (cell : Cell) (kind : CellKind) (shape : Shape) (o : Operands) (found : Option CellKind) (pins : List Pin) (change : Option Change) → found ≡ ruled_kind cell → found ≡ Some kind
    → shape ≡ cell_shape kind cell.params → pins ≡ cell.pins → o ≡ operands_in cells done rest shape pins → change ≡ change_of shape o → change ≡ change_by cells done rest (ruled_kind cell) cell
change_is cells done rest cell kind shape o found pins change is some made own operands fits =
    fits
    ∙ ap (change_of shape) (operands ∙ ap (operands_in cells done rest shape) own)
    ∙ ap (λ z. change_of z (operands_in cells done rest z cell.pins)) made
    ∙ ap (λ k. change_by cells done rest k cell) (sym some ∙ is)

-- a cell of this name, these parameters and these pins is the one that is formed
pub formed_is : (new : NewCell) (c : Cell) (name : List ℕ) (params : List CellParam) (pins : List Pin) (a y : List SigBit) → kind_of name ≡ Some new.kind → a ≡ new.a → y ≡ signal_at c.pins (pin_text Y) → params ≡ params_for new.kind (length a) (length y) → pins ≡ pins_for new.kind new y
    → record c { kind_name = name; params = params; pins = pins } ≡ formed new c
formed_is new c name params pins a y k e f g h =
    let named = kind_named name new.kind k in
    let given : params ≡ params_for new.kind (length new.a) (length (signal_at c.pins (pin_text Y))) = g ∙ (λ i. params_for new.kind (length (e i)) (length (f i))) in
    let joined : pins ≡ pins_for new.kind new (signal_at c.pins (pin_text Y)) = h ∙ ap (pins_for new.kind new) f in
    (λ i. record c { kind_name = named i; params = given i; pins = joined i })

-- what was found and put is what the visit says
pub visit_is : (ports : Ports) (cells : List Cell) (done : List (Option Cell)) (rest : List Cell) (links : List Link) (cell followed : Cell) (change : Option Change) → followed ≡ followed_cell ports links cell → change ≡ change_by cells done rest (ruled_kind followed) followed
    → changed change followed ≡ visit_of ports cells done rest links cell
visit_is ports cells done rest links cell followed change f e = ap (λ ch. changed ch followed) e ∙ ap (by_rules cells done rest) f

-- the module with a whole sweep is the one that is defined
pub swept_all : (ports : Ports) (m : Module) (before : List Cell) (done : List (Option Cell)) (links : List Link) (after : List Cell) → record { cells = done; links = links } ≡ swept ports before [] before m.links → before ≡ m.cells → after ≡ standing done
    → record m { cells = after; links = links } ≡ expr_of ports m
swept_all ports m before done links after so own is =
    ap (λ (cs : List Cell). record m { cells = cs; links = links }) is ∙ ap (with_swept m) (so ∙ ap (λ cs. swept ports cs [] cs m.links) own)

all_stand : (cells : List Cell) → standing (map Some cells) ≡ cells
all_stand [] = refl
all_stand (c ∷ cells) = ap (λ rest. c ∷ rest) (all_stand cells)

-- where each cell stands as it was, and no connection came, the module is as it was
pub none_changed : (m : Module) (before : List Cell) (done : List (Option Cell)) (links : List Link) (after : List Cell) → done ≡ map Some before → links ≡ m.links → before ≡ m.cells → after ≡ standing done → record m { cells = after; links = links } ≡ m
none_changed m before done links after stay none own is =
    let cells : after ≡ m.cells = is ∙ ap standing stay ∙ all_stand before ∙ own in
    (λ i. record m { cells = cells i; links = none i })
