-- Numbers of write ports, in tables.
use Rattle.std.specs.Prelude.{◌≡◌, ℕ, List, unwrap_or}
use Rattle.rtl_ir.specs.declared.module.Module.{Module}
use Rattle.net_index.specs.Types.{Named, at_name}
use Rattle.net_model.specs.Proc.Sync as sync
use Rattle.net_model.specs.Proc.Sync.{line_number}

-- the number behind those that are taken of a memory
abbrev pub count_at : Named ℕ → List ℕ → ℕ
count_at counts name = unwrap_or (at_name counts name) 0

-- a table has the number of the next line of each memory, behind these lines
abbrev pub AreCounts : Named ℕ → Module → List sync.Numbered → Type 0
AreCounts counts m done = (name : List ℕ) → count_at counts name ≡ line_number m done name
