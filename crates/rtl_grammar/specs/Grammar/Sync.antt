-- Syncs: an event, and lines up to the next sync or the end of the process.
use Rattle.std.specs.Prelude.{List, [], ◌∷◌, Option, Some, None}
use Rattle.rtl_lex.specs.declared.sort.Sort.{Sort}
use Rattle.rtl_lex.specs.declared.sort.Sort.TheVariants as sorts
use Rattle.rtl_grammar.specs.declared.expect.Expect.{Expect}
use Rattle.rtl_grammar.specs.declared.expect.Expect.TheVariants.{Signal, BehindEvent, EndOfLine, Index, BehindLeft, SyncBody, AttributeName, NextWrite, WriteMemory, SyncEvent, BehindAddress, BehindValue, Inside, BehindEnable}

-- the event of a sync, up to the end of the line
abbrev pub after_sync_event : Sort → Option (List Expect)
after_sync_event sorts.Low = Some (Signal ∷ BehindEvent ∷ [])
after_sync_event sorts.High = Some (Signal ∷ BehindEvent ∷ [])
after_sync_event sorts.Posedge = Some (Signal ∷ BehindEvent ∷ [])
after_sync_event sorts.Negedge = Some (Signal ∷ BehindEvent ∷ [])
after_sync_event sorts.Edge = Some (Signal ∷ BehindEvent ∷ [])
after_sync_event sorts.Global = Some (EndOfLine ∷ [])
after_sync_event sorts.Init = Some (EndOfLine ∷ [])
after_sync_event sorts.Always = Some (EndOfLine ∷ [])
after_sync_event sort = None

-- what stands behind the signal of an event: a slice of it, or the end of the line
abbrev pub after_behind_event : Sort → Option (List Expect)
after_behind_event sorts.OpenIndex = Some (Index ∷ BehindEvent ∷ [])
after_behind_event sorts.Line = Some []
after_behind_event sort = None

-- the lines of a sync and the syncs behind it, up to the end of the process
abbrev pub after_sync_body : Sort → Option (List Expect)
after_sync_body sorts.Update = Some (Signal ∷ BehindLeft ∷ SyncBody ∷ [])
after_sync_body sorts.Attribute = Some (AttributeName ∷ NextWrite ∷ SyncBody ∷ [])
after_sync_body sorts.Memwr = Some (WriteMemory ∷ SyncBody ∷ [])
after_sync_body sorts.Sync = Some (SyncEvent ∷ SyncBody ∷ [])
after_sync_body sorts.End = Some (EndOfLine ∷ [])
after_sync_body sort = None

-- the `memwr` line behind its attributes
abbrev pub after_next_write : Sort → Option (List Expect)
after_next_write sorts.Attribute = Some (AttributeName ∷ NextWrite ∷ [])
after_next_write sorts.Memwr = Some (WriteMemory ∷ [])
after_next_write sort = None

-- the memory that a `memwr` line writes, and the address
abbrev pub after_write_memory : Sort → Option (List Expect)
after_write_memory sorts.Id = Some (Signal ∷ BehindAddress ∷ [])
after_write_memory sort = None

-- what stands behind the address: a slice of it, or the value
abbrev pub after_behind_address : Sort → Option (List Expect)
after_behind_address sorts.OpenIndex = Some (Index ∷ BehindAddress ∷ [])
after_behind_address sorts.Id = Some (BehindValue ∷ [])
after_behind_address sorts.Value = Some (BehindValue ∷ [])
after_behind_address sorts.Int = Some (BehindValue ∷ [])
after_behind_address sorts.Chars = Some (BehindValue ∷ [])
after_behind_address sorts.OpenBrace = Some (Inside ∷ BehindValue ∷ [])
after_behind_address sort = None

-- what stands behind the value: a slice of it, or the enable
abbrev pub after_behind_value : Sort → Option (List Expect)
after_behind_value sorts.OpenIndex = Some (Index ∷ BehindValue ∷ [])
after_behind_value sorts.Id = Some (BehindEnable ∷ [])
after_behind_value sorts.Value = Some (BehindEnable ∷ [])
after_behind_value sorts.Int = Some (BehindEnable ∷ [])
after_behind_value sorts.Chars = Some (BehindEnable ∷ [])
after_behind_value sorts.OpenBrace = Some (Inside ∷ BehindEnable ∷ [])
after_behind_value sort = None

-- what stands behind the enable: a slice of it, or the mask
abbrev pub after_behind_enable : Sort → Option (List Expect)
after_behind_enable sorts.OpenIndex = Some (Index ∷ BehindEnable ∷ [])
after_behind_enable sorts.Value = Some (EndOfLine ∷ [])
after_behind_enable sorts.Int = Some (EndOfLine ∷ [])
after_behind_enable sorts.Chars = Some (EndOfLine ∷ [])
after_behind_enable sort = None
