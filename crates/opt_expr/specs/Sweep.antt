-- One sweep over the cells, each as the module stands when its turn comes.
use Rattle.std.specs.Prelude.{List, [], ◌∷◌, ◌++◌, flat_map, Option, Some, None, if◌then◌else◌}
use Rattle.cell_types.specs.declared.kind.CellKind.{CellKind}
use Rattle.cell_types.specs.declared.pin_name.PinName.TheVariants.{A, B, S, Y}
use Rattle.cell_types.specs.declared.shape.Shape.{Shape}
use Rattle.cell_types.specs.PinName.{pin_text}
use Rattle.rtl_ir.specs.declared.cell.Cell.{Cell}
use Rattle.rtl_ir.specs.declared.cell.Pin.{Pin}
use Rattle.rtl_ir.specs.declared.module.Link.{Link}
use Rattle.rtl_ir.specs.declared.module.Module.{Module}
use Rattle.rtl_ir.specs.Flat.Cell.{cell_kind, cell_shape, listed}
use Rattle.rtl_ir.specs.Parameters.{signal_at}
use Rattle.rtl_ir.specs.Types.{Ports}
use Rattle.rtl_ir.specs.Attributes.{is_kept}
use Rattle.follow_laws.specs.Inputs.{followed_cell}
use Rattle.expr_rules.specs.declared.change.Change.{Change}
use Rattle.expr_rules.specs.declared.change.Change.TheVariants.{Gives, Becomes}
use Rattle.expr_rules.specs.declared.operands.Operands.{Operands}
use Rattle.expr_rules.specs.Operands.{operands_of}
use Rattle.expr_rules.specs.Rules.{change_of}
use Rattle.opt_expr.specs.Formed.{formed}
use Rattle.opt_expr.specs.Inverters.{inverted, inverted_bit}
use Rattle.opt_expr.specs.Places.{combinational}

-- the kind of a cell that the rules may change: a combinational one without a nonzero `\keep`
abbrev pub ruled_kind : Cell → Option CellKind
ruled_kind c = if is_kept c.attributes then None else combinational (cell_kind c)

-- what comes of a cell: the cell in its place, unless it goes, and connections behind all others
pub record Visit : Type 0 where
  pub cell : Option Cell
  pub links : List Link

-- the cell in its place
abbrev pub stays : Cell → Visit
stays c = record { cell = Some c; links = [] }

-- the cell by the change that a rule makes: it goes, and its whole output is connected to what the rule gives; or it keeps
-- its place, its name and its attributes
abbrev pub changed : Option Change → Cell → Visit
changed None c = stays c
changed (Some (Gives given)) c =
    record { cell = None; links = record { left = signal_at c.pins (pin_text Y); right = given } ∷ [] }
changed (Some (Becomes new)) c = stays (formed new c)

-- the operands of a cell between those that are done and the rest; these are the cells as the sweep began
abbrev pub operands_in : List Cell → List (Option Cell) → List Cell → Shape → List Pin → Operands
operands_in cells done rest shape pins =
    operands_of shape
    (signal_at pins (pin_text A))
    (signal_at pins (pin_text B))
    (signal_at pins (pin_text S))
    (inverted_bit cells done rest (signal_at pins (pin_text S)))
    (inverted cells done rest (signal_at pins (pin_text A)))

-- the change that the first rule that fits makes of a cell of a kind
abbrev pub kind_change : List Cell → List (Option Cell) → List Cell → CellKind → Cell → Option Change
kind_change cells done rest kind c =
    change_of (cell_shape kind c.params) (operands_in cells done rest (cell_shape kind c.params) c.pins)

-- the change of a cell, where the rules may change it and one of them fits
abbrev pub change_by : List Cell → List (Option Cell) → List Cell → Option CellKind → Cell → Option Change
change_by cells done rest None c = None
change_by cells done rest (Some kind) c = kind_change cells done rest kind c

-- a cell whose inputs are followed, by the rules
abbrev pub by_rules : List Cell → List (Option Cell) → List Cell → Cell → Visit
by_rules cells done rest c = changed (change_by cells done rest (ruled_kind c) c) c

-- a cell between those that are done and the rest: its inputs are followed through the connections so far, and then comes
-- the first rule that fits
abbrev pub visit_of : Ports → List Cell → List (Option Cell) → List Cell → List Link → Cell → Visit
visit_of ports cells done rest links c = by_rules cells done rest (followed_cell ports links c)

-- the cells, each in its place, and the connections, as a sweep leaves them
pub record Progress : Type 0 where
  pub cells : List (Option Cell)
  pub links : List Link

-- the cells of the rest, one after another
abbrev pub swept : Ports → List Cell → List (Option Cell) → List Cell → List Link → Progress
swept ports cells done [] links = record { cells = done; links = links }
swept ports cells done (c ∷ rest) links =
    swept ports cells
    (done ++ (visit_of ports cells done rest links c).cell ∷ [])
    rest
    (links ++ (visit_of ports cells done rest links c).links)

-- the cells that have not gone
abbrev pub standing : List (Option Cell) → List Cell
standing slots = flat_map listed slots

-- a module as a sweep leaves it
abbrev pub with_swept : Module → Progress → Module
with_swept m s = record m { cells = standing s.cells; links = s.links }

-- the whole sweep
abbrev pub expr_of : Ports → Module → Module
expr_of ports m = with_swept m (swept ports m.cells [] m.cells m.links)
