-- the levels at which the control pins of a cell act
use Rattle.std.specs.Prelude.{List, if◌then◌else◌, ◌==◌}
use Rattle.cell_types.specs.declared.given.Param.{Param}
use Rattle.cell_types.specs.declared.kind.CellKind.{CellKind}
use Rattle.cell_types.specs.declared.kind.CellKind.TheVariants as Cell
use Rattle.cell_types.specs.declared.level.Level.{Level}
use Rattle.cell_types.specs.declared.level.Level.TheVariants.{Low, High}
use Rattle.cell_types.specs.declared.levels.Levels.{Levels}
use Rattle.cell_types.specs.declared.memory.MemoryKind.TheVariants.{MemwrV2}
use Rattle.cell_types.specs.declared.param_name.ParamName.{ParamName}
use Rattle.cell_types.specs.declared.param_name.ParamName.TheVariants.{ClkPolarity, EnPolarity, ArstPolarity, SrstPolarity, AloadPolarity, SetPolarity, ClrPolarity}
use Rattle.cell_types.specs.declared.storage_gate.StorageGate.{StorageGate}
use Rattle.cell_types.specs.declared.storage_gate.StorageGate.TheVariants as Gate
use Rattle.cell_types.specs.Given.{number_in}

-- any number but 0 means the high level
abbrev pub level_in : List Param → ParamName → Level
level_in params polarity = if number_in params polarity == 0 then Low else High

-- the levels that the parameters say
abbrev pub levels_in : List Param → Levels
levels_in params = record {
  clk = level_in params ClkPolarity;
  en = level_in params EnPolarity;
  arst = level_in params ArstPolarity;
  srst = level_in params SrstPolarity;
  aload = level_in params AloadPolarity;
  set = level_in params SetPolarity;
  clr = level_in params ClrPolarity;
}

-- a cell that lacks all control pins
abbrev pub low : Levels
low = record { clk = Low; en = Low; arst = Low; srst = Low; aload = Low; set = Low; clr = Low }

-- the levels that the letters of a gate's name say
abbrev pub gate_levels : StorageGate → Levels
gate_levels Gate.Ff = low
gate_levels (Gate.Dff clk') = record low { clk = clk' }
gate_levels (Gate.Dffe clk' en') = record low { clk = clk'; en = en' }
gate_levels (Gate.Adff clk' arst' _) = record low { clk = clk'; arst = arst' }
gate_levels (Gate.Adffe clk' arst' _ en') = record low { clk = clk'; arst = arst'; en = en' }
gate_levels (Gate.Sdff clk' srst' _) = record low { clk = clk'; srst = srst' }
gate_levels (Gate.Sdffe clk' srst' _ en') = record low { clk = clk'; srst = srst'; en = en' }
gate_levels (Gate.Sdffce clk' srst' _ en') = record low { clk = clk'; srst = srst'; en = en' }
gate_levels (Gate.Dffsr clk' set' clr') = record low { clk = clk'; set = set'; clr = clr' }
gate_levels (Gate.Dffsre clk' set' clr' en') = record low { clk = clk'; set = set'; clr = clr'; en = en' }
gate_levels (Gate.Aldff clk' aload') = record low { clk = clk'; aload = aload' }
gate_levels (Gate.Aldffe clk' aload' en') = record low { clk = clk'; aload = aload'; en = en' }
gate_levels (Gate.Dlatch en') = record low { en = en' }
gate_levels (Gate.Adlatch en' arst' _) = record low { en = en'; arst = arst' }
gate_levels (Gate.Dlatchsr en' set' clr') = record low { en = en'; set = set'; clr = clr' }
gate_levels (Gate.Sr set' clr') = record low { set = set'; clr = clr' }

-- the levels of a cell
abbrev pub levels_of : CellKind → List Param → Levels
levels_of (Cell.Storage _) params = levels_in params
levels_of (Cell.StorageGate gate) params = gate_levels gate
levels_of (Cell.Memory MemwrV2) params = levels_in params
levels_of _ params = low
