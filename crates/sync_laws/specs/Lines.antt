-- Lines that write memories, as ports may have them.
use Rattle.std.specs.Prelude.{◌<◌, length}
use Rattle.rtl_ir.specs.declared.module.Module.{Module}
use Rattle.rtl_ir.specs.declared.process.Process.{Process}
use Rattle.rtl_ir.specs.declared.process.SyncRule.{SyncRule}
use Rattle.rtl_ir.specs.declared.process.WriteLine.{WriteLine}
use Rattle.net_model.specs.Within.{Each}

-- the address and the word of a line have at least one bit each
pub record HasBits (l : WriteLine) : Type 0 where
  pub address : 0 < length l.address
  pub word : 0 < length l.value

-- the same of each line of a module that writes
abbrev pub WritesHaveBits : Module → Type 0
WritesHaveBits m = Each (λ (p : Process). Each (λ (r : SyncRule). Each HasBits r.writes) p.syncs) m.processes
