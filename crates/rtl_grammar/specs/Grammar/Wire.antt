-- Wires: options, and then a name.
use Rattle.std.specs.Prelude.{List, [], ◌∷◌, Option, Some, None}
use Rattle.rtl_lex.specs.declared.sort.Sort.{Sort}
use Rattle.rtl_lex.specs.declared.sort.Sort.TheVariants as sorts
use Rattle.rtl_grammar.specs.declared.expect.Expect.{Expect}
use Rattle.rtl_grammar.specs.declared.expect.Expect.TheVariants.{WireWidth, WireOption, WireOffset, PortNumber, EndOfLine}

-- the options of a wire, up to its name
abbrev pub after_wire_option : Sort → Option (List Expect)
after_wire_option sorts.Width = Some (WireWidth ∷ WireOption ∷ [])
after_wire_option sorts.Offset = Some (WireOffset ∷ WireOption ∷ [])
after_wire_option sorts.Input = Some (PortNumber ∷ WireOption ∷ [])
after_wire_option sorts.Output = Some (PortNumber ∷ WireOption ∷ [])
after_wire_option sorts.Inout = Some (PortNumber ∷ WireOption ∷ [])
after_wire_option sorts.Upto = Some (WireOption ∷ [])
after_wire_option sorts.Signed = Some (WireOption ∷ [])
after_wire_option sorts.Id = Some (EndOfLine ∷ [])
after_wire_option sort = None

-- the number behind `width`
abbrev pub after_wire_width : Sort → Option (List Expect)
after_wire_width sorts.Int = Some []
after_wire_width sort = None

-- the number behind `offset`
abbrev pub after_wire_offset : Sort → Option (List Expect)
after_wire_offset sorts.Int = Some []
after_wire_offset sort = None

-- the number of a port
abbrev pub after_port_number : Sort → Option (List Expect)
after_port_number sorts.Int = Some []
after_port_number sort = None
