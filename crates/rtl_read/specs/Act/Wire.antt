-- Wires: options, and then a name.
use Rattle.std.specs.Prelude.{[], Result, Ok}
use Rattle.rtl_lex.specs.declared.sort.Sort.{Sort}
use Rattle.rtl_lex.specs.declared.sort.Sort.TheVariants as sorts
use Rattle.rtl_lex.specs.Items.{Seen}
use Rattle.rtl_read.specs.declared.draft.Draft.{Draft}
use Rattle.rtl_read.specs.declared.read_fault.ReadFault.{ReadFault}
use Rattle.rtl_grammar.specs.Uses.{◌>>=◌}
use Rattle.rtl_read.specs.Meaning.Module.{with_wire}
use Rattle.rtl_read.specs.Meaning.Wire.{plain_wire, with_option, with_width, with_offset, with_number}

-- an option of a wire; or its name, with which it is whole
abbrev pub act_wire_option : Sort → Seen → Draft → Result Draft ReadFault
act_wire_option sorts.Id i d = with_wire i d.wire d.current >>= λ m. Ok (record d { current = m; wire = plain_wire [] })
act_wire_option sort i d = Ok (record d { wire = with_option sort d.wire })

-- the number behind `width`
abbrev pub act_wire_width : Seen → Draft → Result Draft ReadFault
act_wire_width i d = with_width i d.wire >>= λ w. Ok (record d { wire = w })

-- the number behind `offset`
abbrev pub act_wire_offset : Seen → Draft → Result Draft ReadFault
act_wire_offset i d = with_offset i d.wire >>= λ w. Ok (record d { wire = w })

-- the number of a port
abbrev pub act_port_number : Seen → Draft → Result Draft ReadFault
act_port_number i d = with_number i d.wire >>= λ w. Ok (record d { wire = w })
