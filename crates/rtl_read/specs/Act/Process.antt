-- Processes: assigns and switches, and then syncs, up to `end`.
use Rattle.std.specs.Prelude.{[], Result, Ok}
use Rattle.rtl_lex.specs.declared.sort.Sort.{Sort}
use Rattle.rtl_lex.specs.declared.sort.Sort.TheVariants as sorts
use Rattle.rtl_lex.specs.Items.{Seen}
use Rattle.rtl_read.specs.declared.draft.Draft.{Draft}
use Rattle.rtl_read.specs.declared.draft.PairKind.TheVariants.{Assign}
use Rattle.rtl_read.specs.declared.read_fault.ReadFault.{ReadFault}
use Rattle.rtl_read.specs.declared.tree.OpenTree.{OpenTree}
use Rattle.rtl_grammar.specs.Uses.{◌>>=◌}
use Rattle.rtl_read.specs.Meaning.Attribute.{no_attributes}
use Rattle.rtl_read.specs.Meaning.Module.{with_item_name, with_process}
use Rattle.rtl_read.specs.Meaning.Tree.{deeper}
use Rattle.rtl_read.specs.Meaning.Process.{plain_process, with_process_name, process_of}

-- the open process has this tree
abbrev pub with_tree : OpenTree → Draft → Draft
with_tree t d = record d { process = record d.process { tree = t } }

-- the name of a process, which no other item of the module has
abbrev pub act_process_name : Seen → Draft → Result Draft ReadFault
act_process_name i d = with_item_name i d.current >>= λ m. Ok (record d { current = m; process = with_process_name i d.process })

-- the word `switch`: the attributes that wait are its own
abbrev pub open_switch : Seen → Draft → Result Draft ReadFault
open_switch i d = deeper i d.attributes.items d.process.tree >>= λ t. Ok (with_tree t (record d { attributes = no_attributes }))

-- the open process is whole
abbrev pub close_process : Draft → Draft
close_process d = record d { current = with_process (process_of d.process) d.current; process = plain_process [] }

-- the switch behind its attributes
abbrev pub act_next_switch : Sort → Seen → Draft → Result Draft ReadFault
act_next_switch sorts.Switch i d = open_switch i d
act_next_switch sort i d = Ok d

-- an assign or a switch of a process, its first sync, or its end
abbrev pub act_process_body : Sort → Seen → Draft → Result Draft ReadFault
act_process_body sorts.Assign i d = Ok (record d { pair = Assign })
act_process_body sorts.End i d = Ok (close_process d)
act_process_body sort i d = act_next_switch sort i d
