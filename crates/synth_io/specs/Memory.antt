-- A source and a sink in memory, as contracts see them.
use Rattle.std.specs.Prelude.{ℕ, ◌+◌, ◌<◌, List, ◌++◌, length, drop, Contains, ◌⊎◌}
use Rattle.synth_io.specs.Counts.{next_count}

-- the bytes that are left, the numbers from 1 of the reads that are to fail, how many reads there were, and how many failed
pub record Supply : Type 0 where
  pub left : List ℕ
  pub fails : List ℕ
  pub calls : ℕ
  pub faults : ℕ

-- the supply after a read of so many bytes
abbrev pub after_read : Supply → ℕ → Supply
after_read supply count = record supply { left = drop count supply.left; calls = next_count supply.calls }

-- the supply after a read that failed
abbrev pub after_failed_read : Supply → Supply
after_failed_read supply = record supply { calls = next_count supply.calls; faults = next_count supply.faults }

-- the bytes that are held, how many there may be, the numbers from 1 of the writes that are to fail, how many writes there were, and how many failed
pub record Store : Type 0 where
  pub held : List ℕ
  pub room : ℕ
  pub fails : List ℕ
  pub calls : ℕ
  pub faults : ℕ

-- the next write is to fail, or the piece would pass the room
abbrev pub Refuses : Store → List ℕ → Type 0
Refuses store piece = Contains store.fails (next_count store.calls) ⊎ (store.room < length store.held + length piece)

-- the store after a write of this piece
abbrev pub after_write : Store → List ℕ → Store
after_write store piece = record store { held = store.held ++ piece; calls = next_count store.calls }

-- the store after a write that failed
abbrev pub after_failed_write : Store → Store
after_failed_write store = record store { calls = next_count store.calls; faults = next_count store.faults }
