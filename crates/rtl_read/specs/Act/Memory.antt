-- Memories: options, and then a name.
use Rattle.std.specs.Prelude.{[], Result, Ok}
use Rattle.rtl_lex.specs.declared.sort.Sort.{Sort}
use Rattle.rtl_lex.specs.declared.sort.Sort.TheVariants as sorts
use Rattle.rtl_lex.specs.Items.{Seen}
use Rattle.rtl_read.specs.declared.draft.Draft.{Draft}
use Rattle.rtl_read.specs.declared.read_fault.ReadFault.{ReadFault}
use Rattle.rtl_grammar.specs.Uses.{◌>>=◌}
use Rattle.rtl_read.specs.Meaning.Module.{with_store}
use Rattle.rtl_read.specs.Meaning.Wire.{plain_store, store_width, store_size, store_offset}

-- an option of a memory; or its name, with which it is whole
abbrev pub act_memory_option : Sort → Seen → Draft → Result Draft ReadFault
act_memory_option sorts.Id i d = with_store i d.store d.current >>= λ m. Ok (record d { current = m; store = plain_store [] })
act_memory_option sort i d = Ok d

-- the number behind `width`
abbrev pub act_memory_width : Seen → Draft → Result Draft ReadFault
act_memory_width i d = store_width i d.store >>= λ s. Ok (record d { store = s })

-- the number behind `size`
abbrev pub act_memory_size : Seen → Draft → Result Draft ReadFault
act_memory_size i d = store_size i d.store >>= λ s. Ok (record d { store = s })

-- the number behind `offset`
abbrev pub act_memory_offset : Seen → Draft → Result Draft ReadFault
act_memory_offset i d = store_offset i d.store >>= λ s. Ok (record d { store = s })
