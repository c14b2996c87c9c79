-- What is asked of the names of memories that lines of processes write.
use Rattle.rtl_ir.specs.declared.module.Module.{Module}
use Rattle.rtl_ir.specs.declared.process.Process.{Process}
use Rattle.rtl_ir.specs.declared.process.SyncRule.{SyncRule}
use Rattle.rtl_ir.specs.declared.process.WriteLine.{WriteLine}
use Rattle.rtl_ir.specs.declared.value.Value.TheVariants.{Chars}
use Rattle.net_model.specs.Within.{Each}
use Rattle.rtl_readable.specs.Readable.{IsConstant}

-- the name of the memory that a line writes may be a constant of a text: it has no NUL and is no longer than a constant
abbrev pub IsNamed : WriteLine → Type 0
IsNamed l = IsConstant (Chars l.memory)

-- the same of each line of a module that writes
abbrev pub NamesMemories : Module → Type 0
NamesMemories m = Each (λ (p : Process). Each (λ (r : SyncRule). Each IsNamed r.writes) p.syncs) m.processes
