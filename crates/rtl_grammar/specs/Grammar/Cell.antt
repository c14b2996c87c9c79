-- Cells: a type, a name, and lines up to `end`.
use Rattle.std.specs.Prelude.{List, [], ◌∷◌, Option, Some, None}
use Rattle.rtl_lex.specs.declared.sort.Sort.{Sort}
use Rattle.rtl_lex.specs.declared.sort.Sort.TheVariants as sorts
use Rattle.rtl_grammar.specs.declared.expect.Expect.{Expect}
use Rattle.rtl_grammar.specs.declared.expect.Expect.TheVariants.{CellName, EndOfLine, CellBody, CellParameter, PinName, CellParameterName, CellParameterValue, Signal, BehindPin, Index}

-- the type of a cell
abbrev pub after_cell_kind : Sort → Option (List Expect)
after_cell_kind sorts.Id = Some (CellName ∷ [])
after_cell_kind sort = None

-- the name of a cell, and its lines
abbrev pub after_cell_name : Sort → Option (List Expect)
after_cell_name sorts.Id = Some (EndOfLine ∷ CellBody ∷ [])
after_cell_name sort = None

-- the lines of a cell, up to its end
abbrev pub after_cell_body : Sort → Option (List Expect)
after_cell_body sorts.Parameter = Some (CellParameter ∷ CellBody ∷ [])
after_cell_body sorts.Connect = Some (PinName ∷ CellBody ∷ [])
after_cell_body sorts.End = Some (EndOfLine ∷ [])
after_cell_body sort = None

-- what stands behind `parameter`: `signed`, or the name
abbrev pub after_cell_parameter : Sort → Option (List Expect)
after_cell_parameter sorts.Signed = Some (CellParameterName ∷ [])
after_cell_parameter sorts.Id = Some (CellParameterValue ∷ [])
after_cell_parameter sort = None

-- the name of a parameter of a cell
abbrev pub after_cell_parameter_name : Sort → Option (List Expect)
after_cell_parameter_name sorts.Id = Some (CellParameterValue ∷ [])
after_cell_parameter_name sort = None

-- its value, and the end of the line
abbrev pub after_cell_parameter_value : Sort → Option (List Expect)
after_cell_parameter_value sorts.Value = Some (EndOfLine ∷ [])
after_cell_parameter_value sorts.Int = Some (EndOfLine ∷ [])
after_cell_parameter_value sorts.Chars = Some (EndOfLine ∷ [])
after_cell_parameter_value sort = None

-- the name of a pin, and its signal
abbrev pub after_pin_name : Sort → Option (List Expect)
after_pin_name sorts.Id = Some (Signal ∷ BehindPin ∷ [])
after_pin_name sort = None

-- what stands behind the signal of a pin: a slice of it, or the end of the line
abbrev pub after_behind_pin : Sort → Option (List Expect)
after_behind_pin sorts.OpenIndex = Some (Index ∷ BehindPin ∷ [])
after_behind_pin sorts.Line = Some []
after_behind_pin sort = None
