-- Attributes, which wait for the item that they stand before.
use Rattle.std.specs.Prelude.{[], Result, Ok}
use Rattle.rtl_lex.specs.declared.sort.Sort.{Sort}
use Rattle.rtl_lex.specs.Items.{Seen}
use Rattle.rtl_read.specs.declared.draft.Draft.{Draft}
use Rattle.rtl_read.specs.declared.read_fault.ReadFault.{ReadFault}
use Rattle.rtl_grammar.specs.Uses.{◌>>=◌}
use Rattle.rtl_read.specs.Constant.{constant}
use Rattle.rtl_read.specs.Meaning.Attribute.{with_attribute}

-- the name of an attribute
abbrev pub act_attribute_name : Seen → Draft → Draft
act_attribute_name i d = record d { name = i.text }

-- its value: one attribute more waits
abbrev pub act_attribute_value : Sort → Seen → Draft → Result Draft ReadFault
act_attribute_value sort i d = constant sort i >>= λ v. Ok (record d { attributes = with_attribute d.name v d.attributes; name = [] })
