-- Switches: a signal, and cases up to `end`.
use Rattle.std.specs.Prelude.{List, [], ◌∷◌, Option, Some, None}
use Rattle.rtl_lex.specs.declared.sort.Sort.{Sort}
use Rattle.rtl_lex.specs.declared.sort.Sort.TheVariants as sorts
use Rattle.rtl_grammar.specs.declared.expect.Expect.{Expect}
use Rattle.rtl_grammar.specs.declared.expect.Expect.TheVariants.{Index, BehindSwitch, Cases, AttributeName, NextCase, Patterns, EndOfLine, BehindPattern, Inside, CaseBody, Signal, BehindLeft, NextInCase}

-- what stands behind the signal of a switch: a slice of it, or the end of the line and the cases
abbrev pub after_behind_switch : Sort → Option (List Expect)
after_behind_switch sorts.OpenIndex = Some (Index ∷ BehindSwitch ∷ [])
after_behind_switch sorts.Line = Some (Cases ∷ [])
after_behind_switch sort = None

-- the first case of a switch, or its end
abbrev pub after_cases : Sort → Option (List Expect)
after_cases sorts.Attribute = Some (AttributeName ∷ NextCase ∷ [])
after_cases sorts.Case = Some (Patterns ∷ [])
after_cases sorts.End = Some (EndOfLine ∷ [])
after_cases sort = None

-- the case behind its attributes
abbrev pub after_next_case : Sort → Option (List Expect)
after_next_case sorts.Attribute = Some (AttributeName ∷ NextCase ∷ [])
after_next_case sorts.Case = Some (Patterns ∷ [])
after_next_case sort = None

-- what stands behind `case`: the first pattern, or the end of the line
abbrev pub after_patterns : Sort → Option (List Expect)
after_patterns sorts.Id = Some (BehindPattern ∷ [])
after_patterns sorts.Value = Some (BehindPattern ∷ [])
after_patterns sorts.Int = Some (BehindPattern ∷ [])
after_patterns sorts.Chars = Some (BehindPattern ∷ [])
after_patterns sorts.OpenBrace = Some (Inside ∷ BehindPattern ∷ [])
after_patterns sorts.Line = Some (CaseBody ∷ [])
after_patterns sort = None

-- what stands behind a pattern: a slice of it, the next pattern, or the end of the line
abbrev pub after_behind_pattern : Sort → Option (List Expect)
after_behind_pattern sorts.OpenIndex = Some (Index ∷ BehindPattern ∷ [])
after_behind_pattern sorts.Comma = Some (Signal ∷ BehindPattern ∷ [])
after_behind_pattern sorts.Line = Some (CaseBody ∷ [])
after_behind_pattern sort = None

-- the assigns and switches of a case, and the cases behind it, up to the end of the switch
abbrev pub after_case_body : Sort → Option (List Expect)
after_case_body sorts.Assign = Some (Signal ∷ BehindLeft ∷ CaseBody ∷ [])
after_case_body sorts.Attribute = Some (AttributeName ∷ NextInCase ∷ [])
after_case_body sorts.Switch = Some (Signal ∷ BehindSwitch ∷ CaseBody ∷ [])
after_case_body sorts.Case = Some (Patterns ∷ [])
after_case_body sorts.End = Some (EndOfLine ∷ [])
after_case_body sort = None

-- the switch of a case, or the next case, behind its attributes
abbrev pub after_next_in_case : Sort → Option (List Expect)
after_next_in_case sorts.Attribute = Some (AttributeName ∷ NextInCase ∷ [])
after_next_in_case sorts.Switch = Some (Signal ∷ BehindSwitch ∷ CaseBody ∷ [])
after_next_in_case sorts.Case = Some (Patterns ∷ [])
after_next_in_case sort = None
