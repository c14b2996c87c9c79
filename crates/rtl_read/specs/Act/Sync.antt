-- Syncs: an event, and lines up to the next sync or the end of the process.
use Rattle.std.specs.Prelude.{List, Result, Ok}
use Rattle.rtl_lex.specs.declared.sort.Sort.{Sort}
use Rattle.rtl_lex.specs.declared.sort.Sort.TheVariants as sorts
use Rattle.rtl_lex.specs.Items.{Seen}
use Rattle.rtl_sig.specs.declared.sig.SigBit.{SigBit}
use Rattle.rtl_read.specs.declared.draft.Draft.{Draft}
use Rattle.rtl_read.specs.declared.draft.PairKind.TheVariants.{Update}
use Rattle.rtl_read.specs.declared.read_fault.ReadFault.{ReadFault}
use Rattle.rtl_grammar.specs.Uses.{◌>>=◌}
use Rattle.rtl_read.specs.Constant.{constant}
use Rattle.rtl_read.specs.Signal.{some_bits}
use Rattle.rtl_read.specs.Meaning.Attribute.{no_attributes}
use Rattle.rtl_read.specs.Meaning.Process.{open_rule, with_event, close_rule, open_write, with_memory, with_address, with_value, close_write}
use Rattle.rtl_read.specs.Act.Signal.{open_bracket, begin_signal, without_signal}
use Rattle.rtl_read.specs.Act.Process.{close_process}

-- the event of a sync: its rule begins
abbrev pub act_sync_event : Sort → Draft → Draft
act_sync_event sort d = record d { process = open_rule sort d.process }

-- a bracket behind the signal of an event; or the end of the line
abbrev pub act_behind_event : Sort → Seen → Draft → Result Draft ReadFault
act_behind_event sorts.OpenIndex i d = Ok (open_bracket i d)
act_behind_event sort i d = some_bits d.signal.part i >>= λ sig. Ok (record (without_signal d) { process = with_event sig d.process })

-- the open rule is whole
abbrev pub end_rule : Draft → Draft
end_rule d = record d { process = close_rule d.process }

-- the word `memwr` behind its attributes, which are its own
abbrev pub act_next_write : Sort → Draft → Draft
act_next_write sorts.Memwr d = record d { process = open_write d.attributes.items d.process; attributes = no_attributes }
act_next_write sort d = d

-- a line of a sync, the next sync, or the end of the process
abbrev pub act_sync_body : Sort → Draft → Draft
act_sync_body sorts.Update d = record d { pair = Update }
act_sync_body sorts.Sync d = end_rule d
act_sync_body sorts.End d = close_process (end_rule d)
act_sync_body sort d = act_next_write sort d

-- the memory that a `memwr` line writes, of which only the checker asks whether it is there
abbrev pub act_write_memory : Seen → Draft → Draft
act_write_memory i d = record d { process = with_memory i d.process }

-- a bracket behind the address; or it is whole, and the value begins
abbrev pub act_behind_address : Sort → Seen → Draft → Result Draft ReadFault
act_behind_address sorts.OpenIndex i d = Ok (open_bracket i d)
act_behind_address sort i d = some_bits d.signal.part i >>= λ sig. begin_signal sort i (record (without_signal d) { process = with_address sig d.process })

-- a bracket behind the value; or it is whole, and the enable begins
abbrev pub act_behind_value : Sort → Seen → Draft → Result Draft ReadFault
act_behind_value sorts.OpenIndex i d = Ok (open_bracket i d)
act_behind_value sort i d = some_bits d.signal.part i >>= λ sig. begin_signal sort i (record (without_signal d) { process = with_value sig d.process })

-- the mask, with which the line is whole
abbrev pub end_write : List SigBit → Sort → Seen → Draft → Result Draft ReadFault
end_write sig sort i d = constant sort i >>= λ mask. Ok (record d { process = close_write sig mask d.process })

-- a bracket behind the enable; or the mask
abbrev pub act_behind_enable : Sort → Seen → Draft → Result Draft ReadFault
act_behind_enable sorts.OpenIndex i d = Ok (open_bracket i d)
act_behind_enable sort i d = some_bits d.signal.part i >>= λ sig. end_write sig sort i (without_signal d)
