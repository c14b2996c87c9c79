-- Modules: a name, and statements up to `end`.
use Rattle.std.specs.Prelude.{List, [], ◌∷◌, Option, Some, None}
use Rattle.rtl_lex.specs.declared.sort.Sort.{Sort}
use Rattle.rtl_lex.specs.declared.sort.Sort.TheVariants as sorts
use Rattle.rtl_grammar.specs.declared.expect.Expect.{Expect}
use Rattle.rtl_grammar.specs.declared.expect.Expect.TheVariants.{EndOfLine, Body, AttributeName, NextItem, ParameterName, WireOption, MemoryOption, CellKind, ProcessName, Signal, BehindLeft, ParameterValue}

-- the name of a module, and its statements
abbrev pub after_module_name : Sort → Option (List Expect)
after_module_name sorts.Id = Some (EndOfLine ∷ Body ∷ [])
after_module_name sort = None

-- the statements of a module, up to its end
abbrev pub after_body : Sort → Option (List Expect)
after_body sorts.Attribute = Some (AttributeName ∷ NextItem ∷ [])
after_body sorts.Parameter = Some (ParameterName ∷ Body ∷ [])
after_body sorts.Wire = Some (WireOption ∷ Body ∷ [])
after_body sorts.Memory = Some (MemoryOption ∷ Body ∷ [])
after_body sorts.Cell = Some (CellKind ∷ Body ∷ [])
after_body sorts.Process = Some (ProcessName ∷ Body ∷ [])
after_body sorts.Connect = Some (Signal ∷ BehindLeft ∷ Body ∷ [])
after_body sorts.End = Some (EndOfLine ∷ [])
after_body sort = None

-- the item behind its attributes, and the statements behind it
abbrev pub after_next_item : Sort → Option (List Expect)
after_next_item sorts.Attribute = Some (AttributeName ∷ NextItem ∷ [])
after_next_item sorts.Wire = Some (WireOption ∷ Body ∷ [])
after_next_item sorts.Memory = Some (MemoryOption ∷ Body ∷ [])
after_next_item sorts.Cell = Some (CellKind ∷ Body ∷ [])
after_next_item sorts.Process = Some (ProcessName ∷ Body ∷ [])
after_next_item sort = None

-- the name of a parameter of a module
abbrev pub after_parameter_name : Sort → Option (List Expect)
after_parameter_name sorts.Id = Some (ParameterValue ∷ [])
after_parameter_name sort = None

-- its value, or the end of the line where it has none
abbrev pub after_parameter_value : Sort → Option (List Expect)
after_parameter_value sorts.Value = Some (EndOfLine ∷ [])
after_parameter_value sorts.Int = Some (EndOfLine ∷ [])
after_parameter_value sorts.Chars = Some (EndOfLine ∷ [])
after_parameter_value sorts.Line = Some []
after_parameter_value sort = None
