-- Processes: assigns and switches, and then syncs, up to `end`.
use Rattle.std.specs.Prelude.{List, [], ◌∷◌, Option, Some, None}
use Rattle.rtl_lex.specs.declared.sort.Sort.{Sort}
use Rattle.rtl_lex.specs.declared.sort.Sort.TheVariants as sorts
use Rattle.rtl_grammar.specs.declared.expect.Expect.{Expect}
use Rattle.rtl_grammar.specs.declared.expect.Expect.TheVariants.{EndOfLine, ProcessBody, Signal, BehindLeft, AttributeName, NextSwitch, BehindSwitch, SyncEvent, SyncBody}

-- the name of a process, and its statements
abbrev pub after_process_name : Sort → Option (List Expect)
after_process_name sorts.Id = Some (EndOfLine ∷ ProcessBody ∷ [])
after_process_name sort = None

-- the assigns and switches of a process, up to its end or its first sync
abbrev pub after_process_body : Sort → Option (List Expect)
after_process_body sorts.Assign = Some (Signal ∷ BehindLeft ∷ ProcessBody ∷ [])
after_process_body sorts.Attribute = Some (AttributeName ∷ NextSwitch ∷ ProcessBody ∷ [])
after_process_body sorts.Switch = Some (Signal ∷ BehindSwitch ∷ ProcessBody ∷ [])
after_process_body sorts.Sync = Some (SyncEvent ∷ SyncBody ∷ [])
after_process_body sorts.End = Some (EndOfLine ∷ [])
after_process_body sort = None

-- the switch behind its attributes
abbrev pub after_next_switch : Sort → Option (List Expect)
after_next_switch sorts.Attribute = Some (AttributeName ∷ NextSwitch ∷ [])
after_next_switch sorts.Switch = Some (Signal ∷ BehindSwitch ∷ [])
after_next_switch sort = None
