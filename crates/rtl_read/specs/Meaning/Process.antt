-- The process that is open: its tree, its rules, and the rule and the `memwr` line that are open.
use Rattle.std.specs.Prelude.{pos, List, [], ◌∷◌, ◌++◌}
use Rattle.rtl_lex.specs.declared.sort.Sort.{Sort}
use Rattle.rtl_lex.specs.declared.sort.Sort.TheVariants as sorts
use Rattle.rtl_lex.specs.Items.{Seen}
use Rattle.rtl_sig.specs.declared.sig.SigBit.{SigBit}
use Rattle.rtl_ir.specs.declared.value.Value.{Value}
use Rattle.rtl_ir.specs.declared.value.Value.TheVariants as values
use Rattle.rtl_ir.specs.declared.value.Attribute.{Attribute}
use Rattle.rtl_ir.specs.declared.module.Link.{Link}
use Rattle.rtl_ir.specs.declared.process.Event.{Event}
use Rattle.rtl_ir.specs.declared.process.Event.TheVariants as events
use Rattle.rtl_ir.specs.declared.process.SyncRule.{SyncRule}
use Rattle.rtl_ir.specs.declared.process.WriteLine.{WriteLine}
use Rattle.rtl_ir.specs.declared.process.Process.{Process}
use Rattle.rtl_read.specs.declared.open_process.OpenProcess.{OpenProcess}
use Rattle.rtl_read.specs.Meaning.Tree.{plain_tree, case_of}

-- the event of a word, without its signal
abbrev pub event_of : Sort → Event
event_of sorts.Low = events.Low []
event_of sorts.High = events.High []
event_of sorts.Posedge = events.Posedge []
event_of sorts.Negedge = events.Negedge []
event_of sorts.Edge = events.Edge []
event_of sorts.Global = events.Global
event_of sorts.Init = events.Init
event_of sort = events.Always

-- .. and with it
abbrev pub event_with : List SigBit → Event → Event
event_with sig (events.Low old) = events.Low sig
event_with sig (events.High old) = events.High sig
event_with sig (events.Posedge old) = events.Posedge sig
event_with sig (events.Negedge old) = events.Negedge sig
event_with sig (events.Edge old) = events.Edge sig
event_with sig event = event

-- a rule without lines
abbrev pub plain_rule : Event → SyncRule
plain_rule event = record { event = event; updates = []; writes = [] }

-- a `memwr` line with these attributes, in which there is nothing yet
abbrev pub plain_write : List Attribute → WriteLine
plain_write attributes = record { memory = []; address = []; value = []; enable = []; mask = values.Int (pos 0); attributes = attributes }

-- a process with these attributes, in which there is nothing yet
abbrev pub plain_process : List Attribute → OpenProcess
plain_process attributes = record {
  name = [];
  attributes = attributes;
  tree = plain_tree;
  syncs = [];
  rule = plain_rule events.Always;
  write = plain_write [];
}

-- its name
abbrev pub with_process_name : Seen → OpenProcess → OpenProcess
with_process_name i p = record p { name = i.text }

-- a rule begins; it has its signal; it is whole
abbrev pub open_rule : Sort → OpenProcess → OpenProcess
open_rule sort p = record p { rule = plain_rule (event_of sort) }

abbrev pub with_event : List SigBit → OpenProcess → OpenProcess
with_event sig p = record p { rule = record p.rule { event = event_with sig p.rule.event } }

abbrev pub close_rule : OpenProcess → OpenProcess
close_rule p = record p { syncs = p.syncs ++ p.rule ∷ []; rule = plain_rule events.Always }

-- the open rule has one more update
abbrev pub with_update : Link → OpenProcess → OpenProcess
with_update link p = record p { rule = record p.rule { updates = p.rule.updates ++ link ∷ [] } }

-- a `memwr` line begins; it has its memory, its address, its value; its enable and its mask, with which it is whole
abbrev pub open_write : List Attribute → OpenProcess → OpenProcess
open_write attributes p = record p { write = plain_write attributes }

abbrev pub with_memory : Seen → OpenProcess → OpenProcess
with_memory i p = record p { write = record p.write { memory = i.text } }

abbrev pub with_address : List SigBit → OpenProcess → OpenProcess
with_address sig p = record p { write = record p.write { address = sig } }

abbrev pub with_value : List SigBit → OpenProcess → OpenProcess
with_value sig p = record p { write = record p.write { value = sig } }

abbrev pub close_write : List SigBit → Value → OpenProcess → OpenProcess
close_write sig mask p = record p {
  rule = record p.rule { writes = p.rule.writes ++ record p.write { enable = sig; mask = mask } ∷ [] };
  write = plain_write [];
}

-- a process that is whole
abbrev pub process_of : OpenProcess → Process
process_of p = record { name = p.name; root = case_of p.tree.case; syncs = p.syncs; attributes = p.attributes }
