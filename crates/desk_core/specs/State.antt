-- The state of a desk: a machine of one thread, without a cache; and the seats beside it.
use Rattle.std.specs.Prelude.{ℕ, List, []}
use Rattle.rtl_ir.specs.declared.module.Design.{Design}
use Rattle.reply_lines.specs.declared.reply.Reply.{Reply}
use Rattle.result_cache.specs.Seats.{Seated}
use Rattle.script_core.specs.declared.word.Word.{Word}

-- the text of a kept key, and its age: how many commands in a row needed the netlist and not this key
pub record KeptKey : Type 0 where
  pub key : List ℕ
  pub age : ℕ

-- the present design, the script, and the kept keys in rising order of their texts, each once
pub record State : Type 0 where
  pub design : Design
  pub script : List Word
  pub kept : List KeptKey

-- what contracts see of a desk: the state of the machine that it is, and the seats of its workers
pub record DeskView : Type 0 where
  pub state : State
  pub seats : List Seated

-- the state at the start: the empty design, and no key is kept
abbrev pub first_state : List Word → State
first_state script = record { design = record { modules = [] }; script = script; kept = [] }

-- what a command gives: a reply, and the state after it
pub record Answer : Type 0 where
  pub reply : Reply
  pub after : State

abbrev pub answer : Reply → State → Answer
answer reply after = record { reply = reply; after = after }
