-- Cells as rules form them anew.
use Rattle.std.specs.Prelude.{ℕ, List, [], ◌∷◌, length}
use Rattle.rtl_sig.specs.declared.sig.SigBit.{SigBit}
use Rattle.cell_types.specs.declared.gate.GateKind.TheVariants as gate
use Rattle.cell_types.specs.declared.kind.CellKind.{CellKind}
use Rattle.cell_types.specs.declared.kind.CellKind.TheVariants.{Word, Gate}
use Rattle.cell_types.specs.declared.param_name.ParamName.{ParamName}
use Rattle.cell_types.specs.declared.param_name.ParamName.TheVariants.{ASigned, AWidth, YWidth, Width}
use Rattle.cell_types.specs.declared.pin_name.PinName.{PinName}
use Rattle.cell_types.specs.declared.pin_name.PinName.TheVariants.{A, B, S, Y}
use Rattle.cell_types.specs.declared.word.WordKind.TheVariants.{Unary, Mux}
use Rattle.cell_types.specs.ParamName.{param_text}
use Rattle.cell_types.specs.PinName.{pin_text}
use Rattle.rtl_ir.specs.Build.{integer_param, pin_of}
use Rattle.rtl_ir.specs.Parameters.{signal_at}
use Rattle.rtl_ir.specs.declared.cell.Cell.{Cell}
use Rattle.rtl_ir.specs.declared.cell.CellParam.{CellParam}
use Rattle.rtl_ir.specs.declared.cell.Pin.{Pin}
use Rattle.net_index.specs.BuilderNames.{name_of}
use Rattle.expr_rules.specs.declared.change.NewCell.{NewCell}

-- a parameter that is a number
abbrev pub number : ParamName → ℕ → CellParam
number name n = integer_param (param_text name) n

-- a pin of this signal
abbrev pub pin : PinName → List SigBit → Pin
pin name signal = pin_of (pin_text name) signal

-- the parameters of an inverter or a multiplexer of words whose A and Y have these widths; a gate has none
abbrev pub params_for : CellKind → ℕ → ℕ → List CellParam
params_for (Word (Unary kind)) a y = number ASigned 0 ∷ number AWidth a ∷ number YWidth y ∷ []
params_for (Word Mux) a y = number Width y ∷ []
params_for kind a y = []

-- the pins of an inverter or a multiplexer, with this signal at Y
abbrev pub pins_for : CellKind → NewCell → List SigBit → List Pin
pins_for (Word Mux) new y = pin A new.a ∷ pin B new.b ∷ pin S new.s ∷ pin Y y ∷ []
pins_for (Gate gate.Mux) new y = pin A new.a ∷ pin B new.b ∷ pin S new.s ∷ pin Y y ∷ []
pins_for kind new y = pin A new.a ∷ pin Y y ∷ []

-- a cell by what comes in its place: it keeps its name, its attributes and its output
abbrev pub formed : NewCell → Cell → Cell
formed new c = record c {
  kind_name = name_of new.kind;
  params = params_for new.kind (length new.a) (length (signal_at c.pins (pin_text Y)));
  pins = pins_for new.kind new (signal_at c.pins (pin_text Y));
}
